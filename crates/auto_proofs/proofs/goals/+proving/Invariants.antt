use Rattle.std.proofs.Common.{◌+◌, ◌*◌}
use Rattle.auto_proofs.proofs.goals.+proving.Given as goal

abbrev pub decreases-proof_by : goal.decreases-proof_by
decreases-proof_by l = 4 * l.how.left + 3

abbrev pub decreases-proof_of_both : goal.decreases-proof_of_both
decreases-proof_of_both l = 4 * l.how.left + 4

abbrev pub decreases-proof_of_either : goal.decreases-proof_of_either
decreases-proof_of_either l = 4 * l.how.left + 4

abbrev pub decreases-proof_of_implication : goal.decreases-proof_of_implication
decreases-proof_of_implication l = 4 * l.how.left + 4

abbrev pub decreases-proof_for_all : goal.decreases-proof_for_all
decreases-proof_for_all l = 4 * l.how.left + 4

abbrev pub decreases-proof_by_shape : goal.decreases-proof_by_shape
decreases-proof_by_shape l = 4 * l.how.left + 5
