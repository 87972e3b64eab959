use Rattle.std.proofs.Common.{◌++◌, sym, ap, ◌∙◌}
use Rattle.std.specs.List.{flat_map, range_with_len}
use Rattle.proof_container.specs.Views.{contents_of}
use Rattle.view_container.specs.Plain.{comment_line, index_lines}
use Rattle.view_container.proofs.Lines.{pushed-lines, lines-range}
use Rattle.view_container.proofs.plain.push_indices.Goals as goal

pub loop-i-preserved : goal.loop-i-preserved
loop-i-preserved c =
    let lines = index_lines (contents_of c.args.container.now) in
    let i = c.loop-i.i in
    let old = c.args.out.now.items in
    pushed-lines (flat_map lines (range_with_len 0 i)) (lines i) old c.loop-i.out.items _
    c.in_ok-push_index.ensures c.loop-i.invariant
    ∙ ap (λ ls. old ++ flat_map comment_line ls) (sym (lines-range lines i))
