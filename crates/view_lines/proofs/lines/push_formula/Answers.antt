use Rattle.std.proofs.Common.{subst, sym}
use Rattle.term_table.specs.Table.{tree_at}
use Rattle.view_lines.specs.Lines.{before}
use Rattle.view_lines.specs.Shown.{AreKnownLines}
use Rattle.view_lines.proofs.Adding.{lines-known, pushed-known, added-one}
use Rattle.view_lines.proofs.lines.push_formula.Goals as goal

pub returns-clause-exact : goal.returns-clause-exact
returns-clause-exact c =
    let t = c.args.table.now in
    added-one c.args.bound t c.shown_line.new.table c.in_ok-line.ensures.extends
    c.args.lines.now.items c.requires.lines c.in_ok-line.line
    (before c.args.label.items (tree_at t c.args.id)) c.push.new.self.items
    c.in_ok-line.ensures.exact c.in_ok-push.ensures.items

pub returns-clause-known : goal.returns-clause-known
returns-clause-known c =
    let t = c.args.table.now in
    let u = c.shown_line.new.table in
    subst (AreKnownLines u) (sym c.in_ok-push.ensures.items)
    (pushed-known u c.args.lines.now.items c.in_ok-line.line
    (lines-known t u c.in_ok-line.ensures.extends c.args.lines.now.items c.requires.lines)
    c.in_ok-line.ensures.known)
