use Rattle.std.proofs.Common.{◌≡◌, ◌≤◌, map, drop}
use Rattle.view_goals.specs.Rows.{row_view}
use Rattle.view_marks.specs.Looking.{has_hard}
use Rattle.view_marks.proofs.looking.has_hard.Given as goal

abbrev pub invariant-loop-index : goal.invariant-loop-index
invariant-loop-index l = record {
  place : l.place ≤ l.index;
  same : has_hard l.depth (map (row_view l.table) (drop l.index l.rows)) (drop l.place l.marks)
      ≡ has_hard l.depth (map (row_view l.table) (drop l.fn.at.row l.rows)) (drop l.fn.at.goal l.marks);
}
