use Rattle.std.proofs.Common.{refl}
use Rattle.lf_signature.specs.Constants.{the_rules}
use Rattle.lf_terms.specs.Named.{named_rules}
use Rattle.lf_terms.proofs.theorems.name_laws.Goals as goal

pub returns : goal.returns
unfolding named_rules the_rules
returns c = refl
