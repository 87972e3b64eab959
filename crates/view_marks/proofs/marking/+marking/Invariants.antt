use Rattle.std.proofs.Common.{◌+◌, ◌*◌}
use Rattle.term_table.specs.Table.{tree_at}
use Rattle.term_table.specs.Measures.{height_of}
use Rattle.view_marks.proofs.marking.+marking.Given as goal

abbrev pub decreases-push_marks : goal.decreases-push_marks
decreases-push_marks l = 3 * height_of (tree_at l.table.now l.goal) + 2

abbrev pub decreases-push_parts : goal.decreases-push_parts
decreases-push_parts l = 3 * height_of (tree_at l.table.now l.goal) + 1

abbrev pub decreases-push_both : goal.decreases-push_both
decreases-push_both l = 3 * height_of (tree_at l.table.now l.goal)

abbrev pub decreases-push_under : goal.decreases-push_under
decreases-push_under l = 3 * height_of (tree_at l.table.now l.goal)
