use Rattle.native_code.proofs.Heading.{heads}
use Rattle.native_code.proofs.theorems.head_laws.Goals as goal

pub returns : goal.returns
returns c = record { heads = heads }
