use Rattle.view_values.proofs.Computed.{never-true}
use Rattle.view_values.proofs.theorems.laws.Goals as goal

pub returns : goal.returns
returns c = record { never = never-true }
