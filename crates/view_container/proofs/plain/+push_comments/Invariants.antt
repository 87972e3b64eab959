use Rattle.std.proofs.Common.{length}
use Rattle.view_container.proofs.plain.+push_comments.Given as goal

abbrev pub decreases-push_comments : goal.decreases-push_comments
decreases-push_comments l = length l.lines.now
