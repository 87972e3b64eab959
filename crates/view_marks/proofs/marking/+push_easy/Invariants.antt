use Rattle.std.proofs.Common.{length}
use Rattle.view_marks.proofs.marking.+push_easy.Given as goal

abbrev pub decreases-push_easy : goal.decreases-push_easy
decreases-push_easy l = length l.rows.now
