use Rattle.std.proofs.Common.{refl}
use Rattle.lf_signature.proofs.tables.parameter_counts.Goals as goal

pub returns : goal.returns
returns c = refl
