use Rattle.std.proofs.Common.{Option, refl, subst}
use Rattle.formula_tree.specs.Formulas.{EOp}
use Rattle.prover_class.specs.Bounds.{least_bound}
use Rattle.prover_bounds.specs.declared.bounds.Side.TheVariants.{Upper}
use Rattle.prover_bounds.specs.declared.parts.Ceiling.{Ceiling}
use Rattle.prover_bounds.specs.Candidates.{limit, ceiling_bounds}
use Rattle.prover_bounds.specs.Choices.{IsChoice}
use Rattle.prover_bounds.proofs.choices.by_operator.Goals as goal

pub returns-in-None : goal.returns-in-None
returns-in-None c = λ Γ x y h.
    let e = EOp c.args.op x y in
    subst (λ (o : Option Ceiling).
    IsChoice Upper Γ e (least_bound (ceiling_bounds o x y) (limit Upper e)) c.args.last)
    c.in-None.ensures h

pub returns-in-Some : goal.returns-in-Some
returns-in-Some c = λ Γ x y h.
    let e = EOp c.args.op x y in
    subst (λ (o : Option Ceiling).
    IsChoice Upper Γ e (least_bound (ceiling_bounds o x y) (limit Upper e)) c.or_last.result)
    c.in-Some.ensures (c.or_last.ensures Γ e (limit Upper e) refl h)
