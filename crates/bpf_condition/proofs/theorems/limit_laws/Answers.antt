use Rattle.bpf_condition.proofs.Bounded.{proof-few}
use Rattle.bpf_condition.proofs.theorems.limit_laws.Goals as goal

pub returns : goal.returns
returns c = record { entries = proof-few }
