use Rattle.std.proofs.Common.{◌+◌, ◌*◌}
use Rattle.gate_match.proofs.uses.+lacking.Given as goal

abbrev pub decreases-lacks : goal.decreases-lacks
decreases-lacks l = 2 * l.id + 1

abbrev pub decreases-lacks_both : goal.decreases-lacks_both
decreases-lacks_both l = 2 * l.id
