use Rattle.std.proofs.Common.{subst, arith}
use Rattle.word_ops.specs.declared.Rel.TheVariants.{Ult}
use Rattle.prover_bounds.specs.declared.relations.Kind.TheVariants.{Less}
use Rattle.prover_bounds.specs.Choices.{IsToWord, IsToWordBy}
use Rattle.prover_bounds.proofs.Relating.{upper_none, less_above}
use Rattle.prover_bounds.proofs.relations.unless_zero.Goals as goal

pub returns-in-None : goal.returns-in-None
returns-in-None c = λ x y z i. upper_none Ult x y z (subst (IsToWord Less x y z) c.in-None.is i)

pub returns-else-r-eq0 : goal.returns-else-r-eq0
returns-else-r-eq0 c = λ x y z i.
    let r = c.in-Some.r in
    let by : IsToWordBy Less x y z r = subst (IsToWord Less x y z) c.in-Some.is i in
    less_above x y z r (λ e. omega (arith, e, c.if-r-eq0.false)) by
