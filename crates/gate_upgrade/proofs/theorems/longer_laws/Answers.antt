use Rattle.lf_signature.specs.Constants.{declared}
use Rattle.lf_signature.specs.Laws.Restricted.{checks_more}
use Rattle.lf_signature.specs.Laws.Within.{declared-more}
use Rattle.gate_upgrade.proofs.Weights.{checks-weigh}
use Rattle.gate_upgrade.proofs.theorems.longer_laws.Goals as goal

pub returns : goal.returns
returns c = record {
  checks = λ s u ctx m a h k d. checks_more (declared s) (declared u) (declared-more s u h k) d;
  weighs = λ s u ctx m a h d. checks-weigh s u h d;
}
