use Rattle.native_object.proofs.Counted.{parts-stand, names-stand}
use Rattle.native_object.proofs.theorems.laws.Goals as goal

pub returns : goal.returns
returns c = record { parts = parts-stand; names = names-stand }
