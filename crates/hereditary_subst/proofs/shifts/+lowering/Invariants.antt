use Rattle.std.proofs.Common.{◌+◌, ◌*◌}
use Rattle.hereditary_subst.proofs.shifts.+lowering.Given as goal

abbrev pub decreases-lower_at : goal.decreases-lower_at
decreases-lower_at l = 3 * l.id + 2

abbrev pub decreases-lower_parts : goal.decreases-lower_parts
decreases-lower_parts l = 3 * l.id + 1

abbrev pub decreases-lower_type_parts : goal.decreases-lower_type_parts
decreases-lower_type_parts l = 3 * l.id
