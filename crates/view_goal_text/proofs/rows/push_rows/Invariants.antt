use Rattle.std.proofs.Common.{◌≡◌, ◌≤◌, [], ◌∷◌, ◌++◌, map, drop, true}
use Rattle.term_table.specs.Table.{AllKnown, tree_at, Extends}
use Rattle.prover_goals.specs.Search.{IsSearch}
use Rattle.view_goals.specs.Rows.{row_view}
use Rattle.view_goal_text.specs.Styles.{style_view}
use Rattle.view_goal_text.specs.Listing.{row_lines}
use Rattle.view_goal_text.specs.Inside.FormTerms.{AreFormTerms, AreFormRows}
use Rattle.view_lines.specs.Shown.{shown_line, line_view, AreKnownLines}
use Rattle.view_goal_text.proofs.rows.push_rows.Given as goal

abbrev pub invariant-loop-index : goal.invariant-loop-index
invariant-loop-index l = record {
  extends : Extends l.initial.table l.table;
  place : l.goal ≤ l.index;
  lines : AreKnownLines l.table l.lines.items;
  ids : AllKnown l.table l.known.items;
  search : IsSearch l.table l.search;
  exact : AreFormTerms (tree_at l.initial.table l.fn.start ∷ []) → AreFormRows (map (row_view l.initial.table) l.rows)
      → AreFormTerms (map (tree_at l.table) l.known.items)
      × (map (line_view l.table) l.lines.items
      ++ map (shown_line l.manner.bound)
      (row_lines (style_view l.manner.style.now) l.manner.bound l.due (map (tree_at l.table) l.known.items)
      (map (row_view l.initial.table) (drop l.index l.rows)) (drop l.goal l.marks))
      ≡ map (line_view l.initial.table) l.initial.lines.items
      ++ map (shown_line l.manner.bound)
      (row_lines (style_view l.manner.style.now) l.manner.bound true (tree_at l.initial.table l.fn.start ∷ [])
      (map (row_view l.initial.table) l.rows) l.marks));
}
