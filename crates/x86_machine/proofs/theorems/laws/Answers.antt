use Rattle.x86_machine.proofs.Standing.{stands}
use Rattle.x86_machine.proofs.Keeping.{step-keeps, run-rights, runs-join}
use Rattle.x86_machine.proofs.theorems.laws.Goals as goal

pub returns : goal.returns
returns c = record { stands = stands; step = step-keeps; rights = run-rights; joins = runs-join }
