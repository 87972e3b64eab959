use Rattle.std.proofs.Common.{length}
use Rattle.view_container.proofs.judging.+has_high_inv.Given as goal

abbrev pub decreases-has_high_inv : goal.decreases-has_high_inv
decreases-has_high_inv l = length l.invs.now
