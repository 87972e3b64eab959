use Rattle.std.proofs.Common.{length}
use Rattle.view_container.proofs.plain.+inv_entries.Given as goal

abbrev pub decreases-inv_entries : goal.decreases-inv_entries
decreases-inv_entries l = length l.invs.now
