use Rattle.std.proofs.Common.{length}
use Rattle.auto_search.proofs.heads.+joined.Given as goal

abbrev pub decreases-joined : goal.decreases-joined
decreases-joined l = length l.forms.now
