use Rattle.std.proofs.Common.{OnOk, sym, subst}
use Rattle.view_lines.specs.Shown.{AreAdded}
use Rattle.view_lines.proofs.Adding.{grown-not, added-none}
use Rattle.view_goal_text.specs.Hints.{half_lines}
use Rattle.view_goal_text.proofs.hints.push_half.Goals as goal

pub returns-in-None-clause-exact : goal.returns-in-None-clause-exact
returns-in-None-clause-exact c bound =
    let t = c.args.table.now in
    let old = c.args.lines.now.items in
    subst (λ h. AreAdded bound t t old (half_lines h) old) (sym c.in-None.is)
    (added-none bound t t (grown-not t) old c.requires)

pub returns-in-Some-clause-exact : goal.returns-in-Some-clause-exact
returns-in-Some-clause-exact c bound =
    let t = c.args.table.now in
    subst (λ h. OnOk c.push_half_text.result
    (AreAdded bound t t c.args.lines.now.items (half_lines h) c.push_half_text.new.lines.items))
    (sym c.in-Some.is) (c.push_half_text.ensures.exact bound)
