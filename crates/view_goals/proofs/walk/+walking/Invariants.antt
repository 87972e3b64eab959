use Rattle.std.proofs.Common.{◌+◌, ◌*◌}
use Rattle.view_goals.proofs.walk.+walking.Given as goal

abbrev pub decreases-walk : goal.decreases-walk
decreases-walk l = 8 * l.fuel

abbrev pub decreases-walk_behind : goal.decreases-walk_behind
decreases-walk_behind l = 8 * l.fuel + 1

abbrev pub decreases-walk_side : goal.decreases-walk_side
decreases-walk_side l = 8 * l.fuel + 1

abbrev pub decreases-walk_both : goal.decreases-walk_both
decreases-walk_both l = 8 * l.fuel + 2

abbrev pub decreases-walk_insn : goal.decreases-walk_insn
decreases-walk_insn l = 8 * l.fuel + 3

abbrev pub decreases-walk_counted : goal.decreases-walk_counted
decreases-walk_counted l = 8 * l.fuel + 4

abbrev pub decreases-walk_from : goal.decreases-walk_from
decreases-walk_from l = 8 * l.fuel + 5
