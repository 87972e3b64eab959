use Rattle.std.proofs.Common.{[], ◌∷◌, subst}
use Rattle.view_lines.specs.Lines.{plain_line}
use Rattle.view_lines.specs.Shown.{AreAdded}
use Rattle.view_goal_text.proofs.hints.push_half_text.Goals as goal

pub returns-clause-exact : goal.returns-clause-exact
returns-clause-exact c bound =
    let t = c.args.table.now in
    subst (λ l. AreAdded bound t t c.args.lines.now.items (plain_line l ∷ []) c.push_words.new.lines.items)
    c.in_ok-label.ensures (c.in_ok-push_words.ensures.exact bound)
