use Rattle.std.proofs.Common.{map, sym, subst}
use Rattle.term_table.specs.Table.{tree_at}
use Rattle.view_goals.specs.Rows.{row_view}
use Rattle.view_goal_text.specs.Listing.{listed_line, row_hint}
use Rattle.view_goal_text.specs.Inside.FormTerms.{AreFormTerms, IsFormRow}
use Rattle.view_lines.specs.Shown.{AreAdded}
use Rattle.prover_goals.proofs.Kept.{search-more}
use Rattle.view_goal_text.proofs.Growing.{row-more, row-known}
use Rattle.view_lines.proofs.Adding.{added-more}
use Rattle.view_goal_text.proofs.HintLines.{all-known, all-more}
use Rattle.view_goal_text.proofs.rows.push_row_lines.Goals as goal

pub push_row_hint-requires-clause-known : goal.push_row_hint-requires-clause-known
push_row_hint-requires-clause-known c =
    all-known c.args.table.now c.push_listed.new.table c.in_ok-push_listed.ensures.extends
    c.args.known.now c.requires.known

pub push_row_hint-requires-clause-row : goal.push_row_hint-requires-clause-row
push_row_hint-requires-clause-row c =
    row-known c.args.table.now c.push_listed.new.table c.in_ok-push_listed.ensures.extends
    c.args.row.now c.requires.row

pub returns-clause-exact : goal.returns-clause-exact
returns-clause-exact c forms aim =
    let t = c.args.table.now in
    let u = c.push_listed.new.table in
    let v = c.push_row_hint.new.table in
    let m = c.args.manner.now in
    let bound = m.bound in
    let all = m.style.now.all in
    let hints = c.args.told.hints in
    let grown = c.in_ok-push_listed.ensures.extends in
    let trees = all-more t u grown c.args.known.now c.requires.known in
    let view = row-more t u grown c.args.row.now c.requires.row in
    let old = c.args.lines.now.items in
    let mid = c.push_listed.new.lines.items in
    let new = c.push_row_hint.new.lines.items in
    let hint = c.in_ok-push_row_hint.ensures.exact
    (subst AreFormTerms (sym trees) forms) (subst IsFormRow (sym view) aim) in
    let second : AreAdded bound u v mid
    (row_hint all bound hints (map (tree_at t) c.args.known.now) (row_view t c.args.row.now)) new =
    subst (λ r. AreAdded bound u v mid
    (row_hint all bound hints (map (tree_at t) c.args.known.now) r) new) view
    (subst (λ l. AreAdded bound u v mid
    (row_hint all bound hints l (row_view u c.args.row.now)) new) trees hint) in
    added-more bound t u v old
    (listed_line bound m.style.now.lines.items c.args.told.line (row_view t c.args.row.now) c.args.told.easy) mid
    (row_hint all bound hints (map (tree_at t) c.args.known.now) (row_view t c.args.row.now))
    new c.in_ok-push_listed.ensures.exact second

pub push_row_hint-requires-clause-search : goal.push_row_hint-requires-clause-search
push_row_hint-requires-clause-search c =
    search-more c.args.search.now c.args.table.now c.push_listed.new.table c.requires.search
    c.in_ok-push_listed.ensures.extends
