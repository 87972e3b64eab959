use Rattle.std.proofs.Common.{length, ◌-◌}
use Rattle.prover_sums.proofs.sums.+place_of.Given as goal

abbrev pub decreases-place_of : goal.decreases-place_of
decreases-place_of l = length l.list.now - l.from
