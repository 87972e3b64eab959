use Rattle.std.proofs.Common.{◌+◌, ◌*◌}
use Rattle.view_marks.proofs.reached.+reaching.Given as goal

abbrev pub decreases-is_reached : goal.decreases-is_reached
decreases-is_reached l = 3 * l.form + 2

abbrev pub decreases-is_reached_in_parts : goal.decreases-is_reached_in_parts
decreases-is_reached_in_parts l = 3 * l.form + 1

abbrev pub decreases-is_reached_in_both : goal.decreases-is_reached_in_both
decreases-is_reached_in_both l = 3 * l.form
