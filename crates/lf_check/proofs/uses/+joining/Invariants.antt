use Rattle.std.proofs.Common.{◌+◌, ◌*◌}
use Rattle.lf_check.proofs.uses.+joining.Given as goal

abbrev pub decreases-joined : goal.decreases-joined
decreases-joined g l = 2 * (l.s + l.r)

abbrev pub decreases-joined_past : goal.decreases-joined_past
decreases-joined_past g l = 2 * (l.s + l.r)

abbrev pub decreases-joined_both : goal.decreases-joined_both
decreases-joined_both g l = 2 * (l.s + l.r) + 1
