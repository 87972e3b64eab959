use Rattle.std.proofs.Common.{[], ◌+◌, ◌∷◌, ◌∙◌, subst}
use Rattle.term_table.specs.Table.{tree_at}
use Rattle.view_labels.specs.Labels.{known_label}
use Rattle.view_lines.specs.Lines.{before}
use Rattle.view_lines.specs.Shown.{AreAdded}
use Rattle.view_goal_text.proofs.rows.push_known.Goals as goal

pub returns-clause-exact : goal.returns-clause-exact
returns-clause-exact c =
    let t = c.args.table.now in
    let a = c.args in
    let tree = tree_at t c.args.known in
    subst (λ l. AreAdded a.manner.now.bound t c.push_formula.new.table c.args.lines.now.items
    (before l tree ∷ []) c.push_formula.new.lines.items)
    (c.in_ok-label.ensures
    ∙ (λ k. known_label (c.as_slice-source.ensures.value k) (c.from.ensures k + 1) a.at a.taken))
    c.in_ok-push_formula.ensures.exact
