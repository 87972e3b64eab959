use Rattle.native_steps.proofs.Instructions.{simulates, tests}
use Rattle.native_steps.proofs.Encodable.{insns-straight}
use Rattle.native_steps.proofs.Joining.{joins}
use Rattle.native_steps.proofs.theorems.laws.Goals as goal

pub returns : goal.returns
returns c = record { simulates = simulates; tests = tests; joins = joins; straight = insns-straight }
