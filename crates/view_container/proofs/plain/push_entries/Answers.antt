use Rattle.std.proofs.Common.{◌++◌, sym, ap, ◌∙◌, arith}
use Rattle.std.specs.List.{flat_map}
use Rattle.std.proofs.lemmas.List.FromFn.{map-range_with_len_more}
use Rattle.view_entries.specs.Entries.{entry_line}
use Rattle.view_container.specs.Plain.{comment_line, entry_lines}
use Rattle.view_container.proofs.Lines.{pushed-more}
use Rattle.view_container.proofs.plain.push_entries.Goals as goal

pub loop-k-preserved : goal.loop-k-preserved
loop-k-preserved c =
    let es = c.args.table.now.trees in
    let k = c.loop-k.k in
    let old = c.args.out.now.items in
    let mid = c.loop-k.out.items in
    pushed-more comment_line (entry_lines es k) (entry_line es k) old mid _
    (c.in_ok-push_entry_line.ensures
    ∙ ap (λ n. mid ++ comment_line (entry_line es n)) c.id.ensures)
    c.loop-k.invariant
    ∙ ap (λ ls. old ++ flat_map comment_line ls)
    (sym (map-range_with_len_more (entry_line es) 0 k k (omega arith)))
