use Rattle.std.proofs.Common.{◌+◌, ◌*◌}
use Rattle.prover_sums.proofs.rewriting.+redex.Given as goal

abbrev pub decreases-redex : goal.decreases-redex
decreases-redex l = 2 * l.e + 1

abbrev pub decreases-redex_of_parts : goal.decreases-redex_of_parts
decreases-redex_of_parts l = 2 * l.e
