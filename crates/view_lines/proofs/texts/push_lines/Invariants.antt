use Rattle.std.proofs.Common.{◌≡◌, ◌++◌, map, take}
use Rattle.std.specs.List.{flat_map}
use Rattle.proof_container.specs.Inside.Walked.{left_trees}
use Rattle.view_lines.specs.Shown.{line_view, shown_text}
use Rattle.view_lines.proofs.texts.push_lines.Given as goal

abbrev pub invariant-loop-index : goal.invariant-loop-index
invariant-loop-index l =
    l.out.items ≡ l.initial.out.items
    ++ flat_map (shown_text (left_trees l.table l.walk)) (map (line_view l.table) (take l.index l.lines))
