use Rattle.std.proofs.Common.{length}
use Rattle.prover_sums.proofs.sums.+sum_id.Given as goal

abbrev pub decreases-sum_id : goal.decreases-sum_id
decreases-sum_id l = length l.summands.now
