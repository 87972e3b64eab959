use Rattle.std.proofs.Common.{◌≡◌, ◌++◌, map}
use Rattle.std.specs.List.{flat_map, range_with_len}
use Rattle.view_entries.specs.Entries.{entry_line}
use Rattle.view_lines.specs.Texts.{with_lf}
use Rattle.view_lines.proofs.texts.push_entries.Given as goal

abbrev pub invariant-loop-k : goal.invariant-loop-k
invariant-loop-k l =
    l.out.items ≡ l.initial.out.items
    ++ flat_map with_lf (map (entry_line l.table.trees) (range_with_len 0 l.k))
