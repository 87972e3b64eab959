use Rattle.prover_class.proofs.RepeatedSearch.{unchanged, repeats}
use Rattle.prover_class.proofs.theorems.repeat_laws.Goals as goal

pub returns : goal.returns
returns c = record {
  unchanged = unchanged;
  repeats = repeats;
}
