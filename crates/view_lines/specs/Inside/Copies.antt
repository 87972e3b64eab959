-- A copy of the entries that a walk has left, while it is made.
use Rattle.std.specs.Prelude.{◌≡◌, ◌++◌, length, drop}
use Rattle.term_table.specs.Table.{TableView}
use Rattle.proof_container.specs.declared.walk.Walk.{Walk}
use Rattle.proof_container.specs.Walks.{IsLeft}
use Rattle.proof_container.specs.Inside.Walked.{left_trees}

-- the copy has the first of the trees that the walk has left, in their order
pub record IsBegunCopy (t : TableView) (w : Walk) (copy : TableView) : Type 0 where
  pub left : IsLeft t (left_trees t w) w
  pub begins : left_trees t w ≡ copy.trees ++ drop (length copy.trees) (left_trees t w)
