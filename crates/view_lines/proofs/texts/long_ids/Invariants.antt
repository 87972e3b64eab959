use Rattle.std.proofs.Common.{◌≡◌, map, take}
use Rattle.std.specs.List.{AllByRecursion}
use Rattle.term_table.specs.Table.{IsKnown, id_trees}
use Rattle.view_lines.specs.Shown.{line_view, shown_longs}
use Rattle.view_lines.proofs.texts.long_ids.Given as goal

abbrev pub invariant-loop-index : goal.invariant-loop-index
invariant-loop-index l = record {
  known : AllByRecursion (λ p. IsKnown l.table p.1) l.ids.items;
  exact : map (λ p. p.1) (id_trees l.table l.ids.items)
      ≡ shown_longs (map (line_view l.table) (take l.index l.lines));
}
