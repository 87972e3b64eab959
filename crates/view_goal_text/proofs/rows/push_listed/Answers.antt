use Rattle.std.proofs.Common.{Bool, sym, subst}
use Rattle.view_goals.specs.Rows.{row_view}
use Rattle.view_goal_text.specs.Listing.{listed_line}
use Rattle.view_lines.specs.Shown.{AreAdded}
use Rattle.view_lines.proofs.Adding.{grown-not, added-none}
use Rattle.view_goal_text.proofs.rows.push_listed.Goals as goal

pub returns-then-not-line-clause-exact : goal.returns-then-not-line-clause-exact
returns-then-not-line-clause-exact c =
    let t = c.args.table.now in
    let m = c.args.manner.now in
    let old = c.args.lines.now.items in
    let row = row_view t c.args.row in
    subst (λ (b : Bool). AreAdded m.bound t t old
    (listed_line m.bound m.style.now.lines.items b row c.args.told.easy) old)
    (sym c.if-not-line.true) (added-none m.bound t t (grown-not t) old c.requires.lines)

pub returns-clause-exact : goal.returns-clause-exact
returns-clause-exact c =
    let t = c.args.table.now in
    let m = c.args.manner.now in
    let row = row_view t c.args.row in
    subst (λ (b : Bool). AreAdded m.bound t c.push_row.new.table c.args.lines.now.items
    (listed_line m.bound m.style.now.lines.items b row c.args.told.easy) c.push_row.new.lines.items)
    (sym c.if-not-line.false) c.in_ok-push_row.ensures.exact
