use Rattle.std.proofs.Common.{◌+◌, ◌*◌}
use Rattle.view_lines.proofs.formulas.+counting.Given as goal

abbrev pub decreases-rest_of_both : goal.decreases-rest_of_both
decreases-rest_of_both l = 3 * l.budget + 2

abbrev pub decreases-rest_of_node : goal.decreases-rest_of_node
decreases-rest_of_node l = 3 * l.budget

abbrev pub decreases-rest_of : goal.decreases-rest_of
decreases-rest_of l = 3 * l.budget + 1
