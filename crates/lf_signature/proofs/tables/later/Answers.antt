use Rattle.std.proofs.Common.{refl}
use Rattle.lf_signature.specs.Constants.{the_rules}
use Rattle.lf_signature.proofs.tables.later.Goals as goal

pub returns : goal.returns
unfolding the_rules
returns c = refl
