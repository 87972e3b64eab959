use Rattle.std.proofs.Common.{sym, subst}
use Rattle.word_ops.specs.declared.Rel.{Rel}
use Rattle.formula_tree.specs.Formulas.{FRel}
use Rattle.prover_bounds.specs.declared.bounds.Side.TheVariants.{Lower}
use Rattle.prover_bounds.specs.Choices.{IsRelated}
use Rattle.prover_bounds.proofs.Relating.{at_most_below, less_below, equal_below}
use Rattle.prover_bounds.proofs.relations.below.Goals as goal

pub returns-in-Ule : goal.returns-in-Ule
returns-in-Ule c = λ x y z qe qa qb.
    subst (λ (r : Rel). IsRelated Lower x (FRel r y z) c.to_word.result) (sym c.in-Ule.is) (at_most_below x y z c.to_word.result (c.to_word.ensures x z y qe qb qa))

pub returns-in-Ult : goal.returns-in-Ult
returns-in-Ult c = λ x y z qe qa qb.
    subst (λ (r : Rel). IsRelated Lower x (FRel r y z) c.to_word-in-Ult.result) (sym c.in-Ult.is) (less_below x y z c.to_word-in-Ult.result (c.to_word-in-Ult.ensures x z y qe qb qa))

pub returns-in-Eq : goal.returns-in-Eq
returns-in-Eq c = λ x y z qe qa qb.
    subst (λ (r : Rel). IsRelated Lower x (FRel r y z) c.to_word-in-Eq.result) (sym c.in-Eq.is) (equal_below x y z c.to_word-in-Eq.result (c.to_word-in-Eq.ensures x y z qe qa qb))
