use Rattle.std.proofs.Common.{◌≡◌, ◌++◌}
use Rattle.std.specs.List.{flat_map}
use Rattle.view_container.specs.Plain.{comment_line, entry_lines}
use Rattle.view_container.proofs.plain.push_entries.Given as goal

abbrev pub invariant-loop-k : goal.invariant-loop-k
invariant-loop-k l =
    l.out.items ≡ l.initial.out.items ++ flat_map comment_line (entry_lines l.table.trees l.k)
