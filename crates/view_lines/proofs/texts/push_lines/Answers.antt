use Rattle.std.proofs.Common.{◌≡◌, ◌++◌, ◌<◌, ◌≤◌, List, length, map, take, true, rules, sym, ◌∙◌, ap, subst, take_all}
use Rattle.std.specs.Prelude.{IfSome}
use Rattle.std.specs.List.{flat_map}
use Rattle.term_table.specs.Table.{tree_at}
use Rattle.proof_container.specs.Postorder.{is_emitted}
use Rattle.proof_container.specs.Inside.Walked.{left_trees}
use Rattle.view_lines.specs.declared.lines.ShownLine.{ShownLine}
use Rattle.view_lines.specs.Shown.{line_view, shown_text}
use Rattle.view_lines.proofs.ShownTexts.{taken-more, pushed-one, long-listed}
use Rattle.view_lines.proofs.texts.push_lines.Goals as goal

pub push_line-requires-clause-listed : goal.push_line-requires-clause-listed
push_line-requires-clause-listed c =
    let t = c.args.table.now in
    let es = left_trees t c.args.walk.now in
    let lines : List ShownLine = c.args.lines.now in
    let x : ShownLine = c.index-lines-index.result in
    let lt : c.loop-index.index < length lines = search rules in
    subst (λ (l : ShownLine). IfSome l.long (λ id. is_emitted (tree_at t id) es ≡ true))
    (sym c.index-lines-index.is)
    (long-listed es t lines c.loop-index.index x c.requires.listed lt)

pub loop-index-preserved : goal.loop-index-preserved
loop-index-preserved c =
    let t = c.args.table.now in
    let text = shown_text (left_trees t c.args.walk.now) in
    let lines : List ShownLine = c.args.lines.now in
    let i = c.loop-index.index in
    let x : ShownLine = c.index-lines-index.result in
    let lt : i < length lines = search rules in
    let old = c.args.out.now.items in
    pushed-one text (map (line_view t) (take i lines)) (line_view t x) old c.loop-index.out.items
    c.push_line.new.out.items c.in_ok-push_line.ensures c.loop-index.invariant
    ∙ ap (λ vs. old ++ flat_map text vs)
    (sym (taken-more (line_view t) lines i x lt c.index-lines-index.is))

pub returns : goal.returns
returns c =
    let t = c.args.table.now in
    let text = shown_text (left_trees t c.args.walk.now) in
    let lines : List ShownLine = c.args.lines.now in
    let past : length lines ≤ c.loop-index.index = search rules in
    c.loop-index.invariant
    ∙ ap (λ l. c.args.out.now.items ++ flat_map text (map (line_view t) l))
    (take_all c.loop-index.index lines past)
