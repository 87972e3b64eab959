use Rattle.lf_terms.proofs.Typed.{bounded}
use Rattle.lf_terms.proofs.Use.{rule_checks}
use Rattle.lf_terms.proofs.theorems.rule_laws.Goals as goal

pub returns : goal.returns
returns c = record {
  sound = λ sig n r e has. rule_checks sig n r e has;
  bounded = λ sig ctx t a h. bounded h;
}
