use Rattle.std.proofs.Common.{◌≡◌, List, ◌++◌, map, drop, is_some}
use Rattle.std.specs.List.{flat_map}
use Rattle.term_table.specs.Table.{IsKnown, AllKnown, tree_at, Extends}
use Rattle.formula_tree.specs.Formulas.{Form}
use Rattle.lf_terms.specs.Encoding.{form_encoding}
use Rattle.prover_goals.specs.Search.{IsSearch}
use Rattle.view_lines.specs.Shown.{shown_line, line_view, AreKnownLines}
use Rattle.view_goal_text.specs.Hints.{like_line}
use Rattle.view_goal_text.proofs.hints.push_each_like.Given as goal

abbrev pub invariant-loop-index : goal.invariant-loop-index
invariant-loop-index l = record {
  extends : Extends l.initial.table l.table;
  lines : AreKnownLines l.table l.lines.items;
  part : IsKnown l.table l.missing.part;
  ids : AllKnown l.table l.ids;
  search : IsSearch l.table l.search;
  exact : (M : Form) (Fs : List Form) → tree_at l.initial.table l.missing.part ≡ form_encoding M
      → map (tree_at l.initial.table) l.ids ≡ map form_encoding Fs
      → map (line_view l.table) l.lines.items
      ++ map (shown_line l.missing.bound)
      (flat_map (like_line (is_some l.missing.bound) M) (drop l.index Fs))
      ≡ map (line_view l.initial.table) l.initial.lines.items
      ++ map (shown_line l.missing.bound) (flat_map (like_line (is_some l.missing.bound) M) Fs);
}
