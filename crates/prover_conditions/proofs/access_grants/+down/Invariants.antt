use Rattle.std.proofs.Common.{length}
use Rattle.prover_conditions.proofs.access_grants.+down.Given as goal

abbrev pub decreases-down : goal.decreases-down
decreases-down l = length l.way.now
