use Rattle.std.proofs.Common.{◌+◌, ◌*◌}
use Rattle.hereditary_subst.proofs.shifts.+shifting.Given as goal

abbrev pub decreases-shift_at : goal.decreases-shift_at
decreases-shift_at l = 3 * l.id + 2

abbrev pub decreases-shift_parts : goal.decreases-shift_parts
decreases-shift_parts l = 3 * l.id + 1

abbrev pub decreases-shift_type_parts : goal.decreases-shift_type_parts
decreases-shift_type_parts l = 3 * l.id
