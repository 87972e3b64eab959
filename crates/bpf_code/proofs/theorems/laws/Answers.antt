use Rattle.bpf_code.proofs.Starting.{length-bpf_code, simulates, simulates-thousand}
use Rattle.bpf_code.proofs.theorems.laws.Goals as goal

pub returns-clause-length : goal.returns-clause-length
returns-clause-length c = length-bpf_code

pub returns-clause-simulates : goal.returns-clause-simulates
returns-clause-simulates c = simulates

pub returns-clause-thousand : goal.returns-clause-thousand
returns-clause-thousand c = simulates-thousand
