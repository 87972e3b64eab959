use Rattle.std.proofs.Common.{◌+◌, ◌*◌}
use Rattle.prover_bounds.proofs.best_bounds.+choosing.Given as goal

abbrev pub decreases-choice_of : goal.decreases-choice_of
decreases-choice_of l = 3 * l.e + 2

abbrev pub decreases-choice_anew : goal.decreases-choice_anew
decreases-choice_anew l = 3 * l.e + 1

abbrev pub decreases-upper_choice : goal.decreases-upper_choice
decreases-upper_choice l = 3 * l.e

abbrev pub decreases-lower_choice : goal.decreases-lower_choice
decreases-lower_choice l = 3 * l.e
