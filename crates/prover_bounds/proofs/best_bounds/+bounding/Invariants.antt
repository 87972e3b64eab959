use Rattle.std.proofs.Common.{◌+◌, ◌*◌}
use Rattle.prover_bounds.proofs.best_bounds.+bounding.Given as goal

abbrev pub decreases-best_bound : goal.decreases-best_bound
decreases-best_bound l = 3 * l.e + 2

abbrev pub decreases-made : goal.decreases-made
decreases-made l = 3 * l.e + 1

abbrev pub decreases-made_by_parts : goal.decreases-made_by_parts
decreases-made_by_parts l = 3 * l.e
