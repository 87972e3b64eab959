use Rattle.std.proofs.Common.{◌≡◌, List, [], ◌∷◌, sym, ◌∙◌, ap, subst, if◌then◌else◌, nat_lt, nat_le, ◌+◌, ◌^◌, Bool}
use Rattle.word_ops.specs.declared.Op.TheVariants.{Add, Band, Bic, Sll, Srl}
use Rattle.word_ops.specs.Words.{word_of}
use Rattle.formula_tree.specs.Formulas.{Exp, ELit, EOp}
use Rattle.prover_class.specs.Bounds.{WordBound, least_bound, upper_bound, max_word}
use Rattle.prover_bounds.specs.declared.bounds.Side.TheVariants.{Upper}
use Rattle.prover_bounds.specs.Candidates.{limit, by_left_shift, by_sum}
use Rattle.prover_bounds.specs.Choices.{IsChoice}
use Rattle.prover_bounds.proofs.Choosing.{right_none, left_none, other_bounds, IsPartChoice}
use Rattle.prover_bounds.proofs.choices.by_parts.Goals as goal

pub returns-in-Band : goal.returns-in-Band
returns-in-Band c = λ Γ x y qb qv qw.
    let e = EOp Band x y in
    subst (IsPartChoice Γ x y c.or_last.result) (sym c.in-Band.is) (c.or_last.ensures Γ e _ qw (c.or_last-left.ensures Γ e _ qv (c.limited-last.ensures Γ e)))

pub returns-in-None : goal.returns-in-None
returns-in-None c = λ Γ x y qb qv qw.
    let e = EOp Srl x y in
    let none = right_none x y (upper_bound Γ x) (upper_bound Γ y) (c.in-None.ensures y qb) in
    subst (IsPartChoice Γ x y c.limited-last.result) (sym c.in-Srl.is) (subst (λ (l : List WordBound). IsChoice Upper Γ e (least_bound l (limit Upper e)) c.limited-last.result) (sym none) (c.limited-last.ensures Γ e))

pub returns-in-Some : goal.returns-in-Some
returns-in-Some c = λ Γ x y qb qv qw.
    let n = c.in-Some.n in
    let is : y ≡ ELit n = c.in-Some.ensures y qb in
    let e = EOp Srl x (ELit n) in
    let r = c.or_last-in-Some.result in
    subst (IsPartChoice Γ x y r) (sym c.in-Srl.is)
    (subst (λ (z : Exp). IsPartChoice Γ x z r Srl) (sym is) (c.or_last-in-Some.ensures Γ e (limit Upper e) (c.apply.ensures ∙ ap (λ v. word_of Srl v n) qv) (c.limited-last.ensures Γ e)))

pub returns-in-None-literal : goal.returns-in-None-literal
returns-in-None-literal c = λ Γ x y qb qv qw.
    let e = EOp Sll x y in
    let none = left_none x y (upper_bound Γ x) (upper_bound Γ y) (c.in-None-literal.ensures y qb) in
    subst (IsPartChoice Γ x y c.limited-last.result) (sym c.in-Sll.is) (subst (λ (l : List WordBound). IsChoice Upper Γ e (least_bound l (limit Upper e)) c.limited-last.result) (sym none) (c.limited-last.ensures Γ e))

pub returns-in-Some-literal : goal.returns-in-Some-literal
returns-in-Some-literal c = λ Γ x y qb qv qw.
    let n = c.in-Some-literal.n in
    let is : y ≡ ELit n = c.in-Some-literal.ensures y qb in
    let e = EOp Sll x (ELit n) in
    let r = c.or_last_if.result in
    let found = c.or_last_if.ensures Γ e (limit Upper e) (c.apply-in-Some-literal.ensures ∙ ap (λ v. word_of Sll v n) qv) (c.limited-last.ensures Γ e) in
    let fits = c.fits_shift-fits.ensures ∙ ap (λ v. nat_le v (word_of Srl max_word n)) qv in
    subst (IsPartChoice Γ x y r) (sym c.in-Sll.is)
    (subst (λ (z : Exp). IsPartChoice Γ x z r Sll) (sym is) (subst (λ (b : Bool). IsChoice Upper Γ e (least_bound (if b then by_left_shift e x n (upper_bound Γ x) ∷ [] else []) (limit Upper e)) r) fits found))

pub returns-in-Add : goal.returns-in-Add
returns-in-Add c = λ Γ x y qb qv qw.
    let e = EOp Add x y in
    let r = c.or_last_if-in-Add.result in
    let found = c.or_last_if-in-Add.ensures Γ e (limit Upper e) (c.apply-in-Add.ensures ∙ (λ i. word_of Add (qv i) (qw i))) (c.limited-last.ensures Γ e) in
    let fits = c.fits_sum.ensures ∙ (λ i. nat_lt (qv i + qw i) (2 ^ 64)) in
    subst (IsPartChoice Γ x y r) (sym c.in-Add.is) (subst (λ (b : Bool). IsChoice Upper Γ e (least_bound (if b then by_sum e x y (upper_bound Γ x) (upper_bound Γ y) ∷ [] else []) (limit Upper e)) r) fits found)

pub returns-in-Bic : goal.returns-in-Bic
returns-in-Bic c = λ Γ x y qb qv qw.
    let e = EOp Bic x y in
    subst (IsPartChoice Γ x y c.or_last-in-Bic.result) (sym c.in-Bic.is)
    (c.or_last-in-Bic.ensures Γ e _ qv (c.limited-last.ensures Γ e))

pub returns-in_default : goal.returns-in_default
returns-in_default c = λ Γ x y qb qv qw.
    let e = EOp c.args.op x y in
    let n = c.in_default in
    let r = c.by_operator.result in
    let same =
    other_bounds c.args.op x y (upper_bound Γ x) (upper_bound Γ y) n.not-Band n.not-Srl n.not-Sll
    n.not-Add n.not-Bic in
    subst (λ (l : List WordBound). IsChoice Upper Γ e (least_bound l (limit Upper e)) r) (sym same)
    (c.by_operator.ensures Γ x y (c.limited-last.ensures Γ e))
