use Rattle.std.proofs.Common.{length}
use Rattle.view_container.proofs.plain.+index_inv.Given as goal

abbrev pub decreases-index_inv : goal.decreases-index_inv
decreases-index_inv l = length l.invs.now
