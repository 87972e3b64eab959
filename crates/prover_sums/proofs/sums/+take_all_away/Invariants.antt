use Rattle.std.proofs.Common.{length}
use Rattle.prover_sums.proofs.sums.+take_all_away.Given as goal

abbrev pub decreases-take_all_away : goal.decreases-take_all_away
decreases-take_all_away l = length l.others.now
