use Rattle.std.proofs.Common.{◌≡◌, ◌++◌, length, map, rules, sym, ap, ◌∙◌, arith}
use Rattle.std.specs.List.{flat_map, range_with_len}
use Rattle.std.proofs.lemmas.List.FromFn.{map-range_with_len_more}
use Rattle.view_entries.specs.Entries.{entry_line}
use Rattle.view_lines.specs.Texts.{with_lf}
use Rattle.view_lines.proofs.ShownTexts.{pushed-one}
use Rattle.view_lines.proofs.texts.push_entries.Goals as goal

pub loop-k-preserved : goal.loop-k-preserved
loop-k-preserved c =
    let es = c.args.table.now.trees in
    let k = c.loop-k.k in
    let old = c.args.out.now.items in
    let mid = c.loop-k.out.items in
    pushed-one with_lf (map (entry_line es) (range_with_len 0 k)) (entry_line es k) old mid _
    (c.in_ok-push_entry_line.ensures ∙ ap (λ n. mid ++ with_lf (entry_line es n)) c.id.ensures)
    c.loop-k.invariant
    ∙ ap (λ ls. old ++ flat_map with_lf ls)
    (sym (map-range_with_len_more (entry_line es) 0 k k (omega arith)))

pub returns : goal.returns
returns c =
    let es = c.args.table.now.trees in
    let all : c.loop-k.k ≡ length es = search rules in
    c.loop-k.invariant
    ∙ ap (λ n. c.args.out.now.items ++ flat_map with_lf (map (entry_line es) (range_with_len 0 n))) all
