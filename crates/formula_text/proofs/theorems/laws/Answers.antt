use Rattle.formula_text.proofs.Joined.{spelled_parsed, parsed_spelled}
use Rattle.formula_text.proofs.Closed.{spelled_closed, spelled_uses}
use Rattle.formula_text.proofs.Refused.{fault_is}
use Rattle.formula_text.proofs.Printed.{print_spells}
use Rattle.formula_text.proofs.theorems.laws.Goals as goal

pub returns : goal.returns
returns c = record {
  parsed = λ p left text f. (spelled_parsed p left text f, parsed_spelled p left text f);
  closed = λ p left text f h. spelled_closed p left text f h;
  uses = λ p left text f h. spelled_uses p left text f h;
  fault = λ p left text at flaw e. fault_is p left text at flaw e;
  printed = λ p left f h u few. print_spells p left f h u few;
}
