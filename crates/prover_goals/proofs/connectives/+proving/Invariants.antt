use Rattle.std.proofs.Common.{◌+◌, ◌*◌}
use Rattle.term_table.specs.Table.{tree_at}
use Rattle.term_table.specs.Measures.{height_of}
use Rattle.prover_goals.proofs.connectives.+proving.Given as goal

abbrev pub decreases-goal_proof : goal.decreases-goal_proof
decreases-goal_proof g l = 4 * height_of (tree_at l.table.now l.goal) + 3

abbrev pub decreases-unkept_proof : goal.decreases-unkept_proof
decreases-unkept_proof g l = 4 * height_of (tree_at l.table.now l.goal) + 2

abbrev pub decreases-proof_by_shape : goal.decreases-proof_by_shape
decreases-proof_by_shape g l = 4 * height_of (tree_at l.table.now l.goal) + 1

abbrev pub decreases-proof_of_both : goal.decreases-proof_of_both
decreases-proof_of_both g l = 4 * height_of (tree_at l.table.now l.whole)

abbrev pub decreases-proof_of_either : goal.decreases-proof_of_either
decreases-proof_of_either g l = 4 * height_of (tree_at l.table.now l.whole)

abbrev pub decreases-proof_of_implication : goal.decreases-proof_of_implication
decreases-proof_of_implication g l = 4 * height_of (tree_at l.table.now l.whole)

abbrev pub decreases-proof_for_all : goal.decreases-proof_for_all
decreases-proof_for_all g l = 4 * height_of (tree_at l.table.now l.whole)
