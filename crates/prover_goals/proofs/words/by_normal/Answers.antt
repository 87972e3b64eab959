use Rattle.std.proofs.Common.{◌≡◌, false, Option, Some, None, is_some, refl, sym, ◌∙◌}
use Rattle.std.proofs.lemmas.Bool.{false≢true}
use Rattle.term_table.specs.Tree.{Tree}
use Rattle.formula_tree.specs.Formulas.{FRel}
use Rattle.prover_ids.proofs.Standing.{twice}
use Rattle.prover_class.specs.NormalForms.{normal_form}
use Rattle.prover_class.specs.Goals.{by_normal}
use Rattle.prover_goals.proofs.words.by_normal.Goals as goal

nothing : (o : Option Tree) → false ≡ is_some o → o ≡ None
nothing (Some p) e = absurd (false≢true e)
nothing None e = refl

pub returns-then-not-is_by_forms-clause-exact : goal.returns-then-not-is_by_forms-clause-exact
returns-then-not-is_by_forms-clause-exact c = λ Γ x y qa qb.
    let out = c.args.outside in
    let one = c.in_ok-p.ensures in
    let two = c.in_ok-q.ensures in
    let first = two.extends.same c.in_ok-p.p one.known ∙ one.exact x qa in
    let second = two.exact y (one.extends.same c.args.b c.requires.b ∙ qb) in
    nothing (by_normal out Γ (FRel c.args.rel x y))
    (sym c.if-not-is_by_forms.true ∙ c.is_by_forms.ensures x y (normal_form out x) (normal_form out y) first second)

pub returns-clause-exact : goal.returns-clause-exact
returns-clause-exact c = λ Γ x y qa qb.
    let grown = twice c.in_ok-p.ensures.extends c.in_ok-q.ensures.extends in
    c.in_ok-proof.ensures.exact Γ x y (grown.same c.args.a c.requires.a ∙ qa) (grown.same c.args.b c.requires.b ∙ qb)
