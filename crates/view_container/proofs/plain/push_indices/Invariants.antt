use Rattle.std.proofs.Common.{◌≡◌, ◌++◌}
use Rattle.std.specs.List.{flat_map, range_with_len}
use Rattle.proof_container.specs.Views.{contents_of}
use Rattle.view_container.specs.Plain.{comment_line, index_lines}
use Rattle.view_container.proofs.plain.push_indices.Given as goal

abbrev pub invariant-loop-i : goal.invariant-loop-i
invariant-loop-i l =
    l.out.items ≡ l.initial.out.items
    ++ flat_map comment_line (flat_map (index_lines (contents_of l.container)) (range_with_len 0 l.i))
