use Rattle.std.proofs.Common.{◌+◌, ◌*◌}
use Rattle.prover_conditions.proofs.access_walks.+walking.Given as goal

abbrev pub decreases-walk : goal.decreases-walk
decreases-walk l = 3 * l.form + 2

abbrev pub decreases-walk_parts : goal.decreases-walk_parts
decreases-walk_parts l = 3 * l.form + 1

abbrev pub decreases-walk_both : goal.decreases-walk_both
decreases-walk_both l = 3 * l.form
