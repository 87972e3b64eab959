use Rattle.std.proofs.Common.{◌+◌, ◌*◌, ◌^◌}
use Rattle.hereditary_subst.proofs.substitute.+substitute.Given as goal

-- the simple type first, and then the term
abbrev pub decreases-subst_at : goal.decreases-subst_at
decreases-subst_at l = l.ty * 2 ^ 67 + (4 * l.id + 4)

abbrev pub decreases-subst_under : goal.decreases-subst_under
decreases-subst_under l = l.ty * 2 ^ 67 + (4 * l.id + 3)

abbrev pub decreases-head_at : goal.decreases-head_at
decreases-head_at l = l.ty * 2 ^ 67 + (4 * l.id + 3)

abbrev pub decreases-head_kept : goal.decreases-head_kept
decreases-head_kept l = l.ty * 2 ^ 67 + (4 * l.id + 2)

abbrev pub decreases-head_parts : goal.decreases-head_parts
decreases-head_parts l = l.ty * 2 ^ 67 + (4 * l.id + 1)

abbrev pub decreases-reduce_at : goal.decreases-reduce_at
decreases-reduce_at l = l.u * 2 ^ 67
