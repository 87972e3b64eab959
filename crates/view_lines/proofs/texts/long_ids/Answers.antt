use Rattle.std.proofs.Common.{◌++◌, ◌<◌, ◌≤◌, List, length, map, rules, sym, ◌∙◌, ap, take_all}
use Rattle.std.specs.Option.{option_map, option_to_list}
use Rattle.term_table.specs.Table.{tree_at}
use Rattle.view_lines.specs.declared.lines.ShownLine.{ShownLine}
use Rattle.view_lines.specs.Shown.{line_view, shown_longs}
use Rattle.view_lines.proofs.ShownTexts.{longs-more}
use Rattle.view_lines.proofs.texts.long_ids.Goals as goal

pub loop-index-preserved : goal.loop-index-preserved
loop-index-preserved c =
    let t = c.args.table.now in
    let lines : List ShownLine = c.args.lines.now in
    let i = c.loop-index.index in
    let x : ShownLine = c.index-lines-index.result in
    let lt : i < length lines = search rules in record {
      known = c.in_ok-push_long.ensures.known;
      exact = c.in_ok-push_long.ensures.exact
          ∙ ap (λ l. l ++ option_to_list (option_map (tree_at t) x.long)) c.loop-index.invariant.exact
          ∙ sym (longs-more t lines i x lt c.index-lines-index.is);
    }

pub returns-clause-exact : goal.returns-clause-exact
returns-clause-exact c =
    let lines : List ShownLine = c.args.lines.now in
    let past : length lines ≤ c.loop-index.index = search rules in
    c.loop-index.invariant.exact
    ∙ ap (λ l. shown_longs (map (line_view c.args.table.now) l)) (take_all c.loop-index.index lines past)
