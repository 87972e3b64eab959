use Rattle.std.proofs.Common.{◌≡◌, List, [], ◌++◌, map, drop}
use Rattle.term_table.specs.Table.{IsKnown, AllKnown, tree_at, Extends}
use Rattle.formula_tree.specs.Formulas.{Form}
use Rattle.lf_terms.specs.Encoding.{form_encoding}
use Rattle.prover_goals.specs.Search.{IsSearch}
use Rattle.view_lines.specs.Shown.{shown_line, line_view, AreKnownLines}
use Rattle.view_marks.specs.Hints.{known_hyps}
use Rattle.view_goal_text.specs.Hints.{part_hints}
use Rattle.view_goal_text.proofs.hints.push_part_hints.Given as goal

abbrev pub invariant-loop-index : goal.invariant-loop-index
invariant-loop-index l = record {
  extends : Extends l.initial.table l.table;
  lines : AreKnownLines l.table l.lines.items;
  known : AllKnown l.table l.known;
  ids : AllKnown l.table l.parts;
  aim : IsKnown l.table l.goal;
  search : IsSearch l.table l.search;
  exact : (Fs Ms : List Form) → map (tree_at l.initial.table) l.known ≡ map form_encoding Fs
      → map (tree_at l.initial.table) l.parts ≡ map form_encoding Ms
      → map (line_view l.table) l.lines.items
      ++ map (shown_line l.bound)
      (part_hints l.bound (known_hyps [] 0 Fs) (drop l.index Ms) (tree_at l.initial.table l.goal))
      ≡ map (line_view l.initial.table) l.initial.lines.items
      ++ map (shown_line l.bound)
      (part_hints l.bound (known_hyps [] 0 Fs) Ms (tree_at l.initial.table l.goal));
}
