use Rattle.std.proofs.Common.{sym, subst}
use Rattle.word_ops.specs.declared.Rel.{Rel}
use Rattle.formula_tree.specs.Formulas.{FRel}
use Rattle.prover_bounds.specs.declared.bounds.Side.TheVariants.{Upper}
use Rattle.prover_bounds.specs.Choices.{IsRelated}
use Rattle.prover_bounds.proofs.Relating.{at_most_above, equal_above}
use Rattle.prover_bounds.proofs.relations.above.Goals as goal

pub returns-in-Ule : goal.returns-in-Ule
returns-in-Ule c = λ x y z qe qa qb.
    subst (λ (r : Rel). IsRelated Upper x (FRel r y z) c.to_word.result) (sym c.in-Ule.is) (at_most_above x y z c.to_word.result (c.to_word.ensures x y z qe qa qb))

pub returns-in-Ult : goal.returns-in-Ult
returns-in-Ult c = λ x y z qe qa qb.
    subst (λ (r : Rel). IsRelated Upper x (FRel r y z) c.unless_zero.result) (sym c.in-Ult.is) (c.unless_zero.ensures x y z (c.to_word-in-Ult.ensures x y z qe qa qb))

pub returns-in-Eq : goal.returns-in-Eq
returns-in-Eq c = λ x y z qe qa qb.
    subst (λ (r : Rel). IsRelated Upper x (FRel r y z) c.to_word-in-Eq.result) (sym c.in-Eq.is) (equal_above x y z c.to_word-in-Eq.result (c.to_word-in-Eq.ensures x y z qe qa qb))
