use Rattle.bpf_code.proofs.Shapes.{code-is, code-first, read, lands, ahead, cut}
use Rattle.bpf_code.proofs.Unfolded.{unfolded-most}
use Rattle.bpf_code.proofs.theorems.code_laws.Goals as goal

pub returns-clause-code : goal.returns-clause-code
returns-clause-code c = code-is

pub returns-clause-profile : goal.returns-clause-profile
returns-clause-profile c = code-first

pub returns-clause-read : goal.returns-clause-read
returns-clause-read c = read

pub returns-clause-lands : goal.returns-clause-lands
returns-clause-lands c = lands

pub returns-clause-forward : goal.returns-clause-forward
returns-clause-forward c = ahead

pub returns-clause-cut : goal.returns-clause-cut
returns-clause-cut c = cut

pub returns-clause-unfolded : goal.returns-clause-unfolded
returns-clause-unfolded c = unfolded-most
