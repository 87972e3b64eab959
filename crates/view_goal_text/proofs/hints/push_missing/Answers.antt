use Rattle.std.proofs.Common.{◌≡◌, [], ◌∷◌, sym, ◌∙◌, ap, subst}
use Rattle.term_table.specs.Table.{tree_at}
use Rattle.view_lines.specs.Formulas.{is_false_term}
use Rattle.view_lines.specs.Lines.{before}
use Rattle.view_lines.specs.Shown.{AreAdded}
use Rattle.view_lines.proofs.Adding.{grown-not, lines-known, added-none, added-later}
use Rattle.view_goal_text.specs.Hints.{missing_label}
use Rattle.view_goal_text.proofs.HintLines.{told, denied, missing-same, missing-other}
use Rattle.view_goal_text.proofs.hints.push_missing.Goals as goal

pub push_formula-requires-clause-lines : goal.push_formula-requires-clause-lines
push_formula-requires-clause-lines c =
    lines-known c.args.table.now c.is_false_term.new.table c.in_ok-wrong.ensures.extends
    c.args.lines.now.items c.requires.lines

pub returns-then-same-clause-exact : goal.returns-then-same-clause-exact
returns-then-same-clause-exact c =
    let t = c.args.table.now in
    let part = tree_at t c.args.part in
    let aim = tree_at t c.args.goal in
    let old = c.args.lines.now.items in
    subst (λ ls. AreAdded c.args.bound t t old ls old)
    (sym (missing-same c.args.bound part aim
    (told c.same-same.result (part ≡ aim) c.same-same.ensures c.if-same.true)))
    (added-none c.args.bound t t (grown-not t) old c.requires.lines)

pub returns-clause-exact : goal.returns-clause-exact
returns-clause-exact c =
    let t = c.args.table.now in
    let u = c.is_false_term.new.table in
    let v = c.push_formula.new.table in
    let bound = c.args.bound in
    let part = tree_at t c.args.part in
    let aim = tree_at t c.args.goal in
    let old = c.args.lines.now.items in
    let new = c.push_formula.new.lines.items in
    let grown = c.in_ok-wrong.ensures.extends in
    let label = c.in_ok-label.ensures ∙ ap missing_label c.in_ok-wrong.ensures.exact in
    let line = before (missing_label (is_false_term bound part)) part in
    subst (λ ls. AreAdded bound t v old ls new)
    (sym (missing-other bound part aim
    (denied c.same-same.result (part ≡ aim) c.same-same.ensures c.if-same.false)))
    (added-later bound t u v grown old c.requires.lines (line ∷ []) new
    (subst (λ l. AreAdded bound u v old (before l part ∷ []) new) label
    (subst (λ s. AreAdded bound u v old (before c.in_ok-label.label.items s ∷ []) new)
    (grown.same c.args.part c.requires.part) c.in_ok-push_formula.ensures.exact)))
