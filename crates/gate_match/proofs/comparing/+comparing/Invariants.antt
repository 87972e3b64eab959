use Rattle.std.proofs.Common.{◌+◌, ◌*◌}
use Rattle.gate_match.proofs.comparing.+comparing.Given as goal

abbrev pub decreases-is_walk : goal.decreases-is_walk
decreases-is_walk l = 8 * l.fuel

abbrev pub decreases-is_walk_with : goal.decreases-is_walk_with
decreases-is_walk_with l = 8 * l.fuel + 1

abbrev pub decreases-is_side : goal.decreases-is_side
decreases-is_side l = 8 * l.fuel + 1

abbrev pub decreases-is_both : goal.decreases-is_both
decreases-is_both l = 8 * l.fuel + 2

abbrev pub decreases-is_behind : goal.decreases-is_behind
decreases-is_behind l = 8 * l.fuel + 2

abbrev pub decreases-is_insn : goal.decreases-is_insn
decreases-is_insn l = 8 * l.fuel + 3

abbrev pub decreases-is_insn_with : goal.decreases-is_insn_with
decreases-is_insn_with l = 8 * l.fuel + 4

abbrev pub decreases-is_counted : goal.decreases-is_counted
decreases-is_counted l = 8 * l.fuel + 5

abbrev pub decreases-is_walk_from : goal.decreases-is_walk_from
decreases-is_walk_from l = 8 * l.fuel + 6
