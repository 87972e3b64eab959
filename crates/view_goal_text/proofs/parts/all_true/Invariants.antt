use Rattle.std.proofs.Common.{◌≡◌, drop}
use Rattle.view_marks.specs.Marks.{all_true}
use Rattle.view_goal_text.proofs.parts.all_true.Given as goal

abbrev pub invariant-loop-index : goal.invariant-loop-index
invariant-loop-index l = all_true l.marks ≡ all_true (drop l.index l.marks)
