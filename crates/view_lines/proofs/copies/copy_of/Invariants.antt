use Rattle.std.proofs.Common.{◌≡◌, take}
use Rattle.proof_container.specs.Inside.Walked.{left_trees}
use Rattle.view_lines.proofs.copies.copy_of.Given as goal

abbrev pub invariant-loop-index : goal.invariant-loop-index
invariant-loop-index l = l.copy.trees ≡ take l.index (left_trees l.table l.walk)
