use Rattle.safe_host.proofs.StepCounts.{steps_count}
use Rattle.safe_host.proofs.theorems.count_laws.Goals as goal

pub returns : goal.returns
returns c = steps_count
