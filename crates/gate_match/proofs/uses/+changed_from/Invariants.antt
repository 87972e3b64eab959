use Rattle.std.proofs.Common.{◌-◌}
use Rattle.gate_match.proofs.uses.+changed_from.Given as goal

abbrev pub decreases-changed_from : goal.decreases-changed_from
decreases-changed_from l = 33 - l.k
