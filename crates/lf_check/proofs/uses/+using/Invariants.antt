use Rattle.std.proofs.Common.{◌+◌, ◌*◌}
use Rattle.lf_check.proofs.uses.+using.Given as goal

abbrev pub decreases-uses_at : goal.decreases-uses_at
decreases-uses_at g l = 4 * l.m + 3

abbrev pub decreases-uses_of_parts : goal.decreases-uses_of_parts
decreases-uses_of_parts g l = 4 * l.m + 2

abbrev pub decreases-uses_of_product : goal.decreases-uses_of_product
decreases-uses_of_product g l = 4 * l.m + 1

abbrev pub decreases-uses_of_both : goal.decreases-uses_of_both
decreases-uses_of_both g l = 4 * l.m

abbrev pub decreases-uses_under : goal.decreases-uses_under
decreases-uses_under g l = 4 * l.m
