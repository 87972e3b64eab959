use Rattle.prover_class.proofs.Laws.{sound, exact}
use Rattle.prover_class.proofs.theorems.class_laws.Goals as goal

pub returns : goal.returns
returns c = record {
  sound = sound;
  exact = exact;
}
