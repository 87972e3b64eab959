use Rattle.std.proofs.Common.{map}
use Rattle.term_table.specs.Table.{tree_at}
use Rattle.proof_container.proofs.Ordering.{AgreeBelow}
use Rattle.proof_container.proofs.reading.misplaced.Given as goal

abbrev pub invariant-loop-e : goal.invariant-loop-e
invariant-loop-e l = AgreeBelow l.table.trees (map (λ id. tree_at l.table id) l.left) l.e
