use Rattle.native_gate.proofs.PolicyCalls.{safe-policy-calls, ending-policy-calls, bounded-policy-calls}
use Rattle.native_gate.proofs.theorems.call_laws.Goals as goal

pub returns : goal.returns
returns c = record {
  safe = safe-policy-calls c.laws.ensures.safe c.laws-2.ensures.safe;
  ends = ending-policy-calls c.laws.ensures.ends c.laws-2.ensures.safe;
  bounded = bounded-policy-calls c.laws.ensures.bounded c.laws-2.ensures.safe c.laws-2.ensures.returns;
}
