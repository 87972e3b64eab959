use Rattle.std.proofs.Common.{◌+◌, ◌*◌}
use Rattle.prover_hyps.proofs.comparing.+comparing.Given as goal

abbrev pub decreases-add_comparison : goal.decreases-add_comparison
decreases-add_comparison l = 3 * l.a + 2

abbrev pub decreases-add_others : goal.decreases-add_others
decreases-add_others l = 3 * l.a + 1

abbrev pub decreases-add_tested : goal.decreases-add_tested
decreases-add_tested l = 3 * l.a
