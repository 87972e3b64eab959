use Rattle.std.proofs.Common.{◌≡◌, [], ◌∷◌, ◌∙◌, subst}
use Rattle.term_table.specs.Table.{tree_at}
use Rattle.view_labels.specs.Labels.{goal_label}
use Rattle.view_lines.specs.Lines.{before}
use Rattle.view_lines.specs.Shown.{AreAdded}
use Rattle.view_lines.proofs.Adding.{lines-known, added-later}
use Rattle.view_goal_text.specs.Listing.{mark_of}
use Rattle.view_goal_text.proofs.rows.push_goal.Goals as goal

pub push_formula-requires-clause-lines : goal.push_formula-requires-clause-lines
push_formula-requires-clause-lines c =
    lines-known c.args.table.now c.mark_of.new.table c.in_ok-mark.ensures.extends
    c.args.lines.now.items c.requires.lines

pub returns-clause-exact : goal.returns-clause-exact
returns-clause-exact c =
    let t = c.args.table.now in
    let u = c.mark_of.new.table in
    let v = c.push_formula.new.table in
    let a = c.args in
    let m = c.args.manner.now in
    let source = m.style.now.lines.items in
    let tree = tree_at t c.args.formula in
    let mark = mark_of m.bound a.easy tree in
    let old = c.args.lines.now.items in
    let new = c.push_formula.new.lines.items in
    let grown = c.in_ok-mark.ensures.extends in
    let label : c.in_ok-label.label.items ≡ goal_label source a.at a.why a.depth mark =
    c.in_ok-label.ensures
    ∙ (λ k. goal_label (c.as_slice.ensures.value k) a.at a.why a.depth (c.in_ok-mark.ensures.exact k)) in
    added-later m.bound t u v grown old c.requires.lines
    (before (goal_label source a.at a.why a.depth mark) tree ∷ []) new
    (subst (λ l. AreAdded m.bound u v old (before l tree ∷ []) new) label
    (subst (λ s. AreAdded m.bound u v old (before c.in_ok-label.label.items s ∷ []) new)
    (grown.same c.args.formula c.requires.formula) c.in_ok-push_formula.ensures.exact))
