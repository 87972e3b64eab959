use Rattle.std.proofs.Common.{Bool, true, [], ◌∷◌, if◌then◌else◌, nat_le, ◌∙◌, ap, subst}
use Rattle.word_ops.specs.declared.Op.TheVariants.{Sub}
use Rattle.word_ops.specs.Words.{word_of}
use Rattle.formula_tree.specs.Formulas.{ELit, EOp}
use Rattle.prover_class.specs.Bounds.{greatest_bound, difference_bound, lower_bound}
use Rattle.prover_bounds.specs.declared.bounds.Side.TheVariants.{Lower}
use Rattle.prover_bounds.specs.Candidates.{limit}
use Rattle.prover_bounds.specs.Choices.{IsChoice}
use Rattle.prover_bounds.proofs.choices.by_difference.Goals as goal

pub returns : goal.returns
returns c = λ Γ x qv.
    let n = c.args.w in
    let e = EOp Sub x (ELit n) in
    let b = lower_bound true Γ x in
    let r = c.or_last_if.result in
    let found =
    c.or_last_if.ensures Γ e (limit Lower e) (c.apply.ensures ∙ ap (λ v. word_of Sub v n) qv)
    (c.limited-last.ensures Γ e) in
    let fits = c.fits_difference-fits.ensures ∙ ap (λ v. nat_le n v) qv in
    subst (λ (z : Bool). IsChoice Lower Γ e
    (greatest_bound (if z then difference_bound x n b ∷ [] else []) (limit Lower e)) r) fits found
