use Rattle.pcc_stages.proofs.AccountLemmas.{accounts_of_ends}
use Rattle.pcc_stages.proofs.RunLemmas.{ends_of_runs}
use Rattle.pcc_stages.proofs.theorems.laws.Goals as goal

pub returns : goal.returns
returns c = record {
  ends = λ texts task e e' f g s t status suited runs. ends_of_runs texts task suited f g s t status e e' runs;
  accounts = λ request f g s t status. accounts_of_ends request f g s t status;
}
