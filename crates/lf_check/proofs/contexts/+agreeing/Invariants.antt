use Rattle.std.proofs.Common.{◌+◌, ◌*◌}
use Rattle.lf_check.proofs.contexts.+agreeing.Given as goal

abbrev pub decreases-agree_on : goal.decreases-agree_on
decreases-agree_on g l = 2 * l.c + 1

abbrev pub decreases-agree_past : goal.decreases-agree_past
decreases-agree_past g l = 2 * l.c
