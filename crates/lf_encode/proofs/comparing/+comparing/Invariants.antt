use Rattle.std.proofs.Common.{◌+◌, ◌*◌}
use Rattle.lf_encode.proofs.comparing.+comparing.Given as goal

abbrev pub decreases-is_put_at : goal.decreases-is_put_at
decreases-is_put_at l = 2 * l.id + 1

abbrev pub decreases-is_put_by_parts : goal.decreases-is_put_by_parts
decreases-is_put_by_parts l = 2 * l.id
