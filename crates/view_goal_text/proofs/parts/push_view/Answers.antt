use Rattle.std.proofs.Common.{◌&&◌, sym, ◌∙◌, subst}
use Rattle.std.proofs.lemmas.Bool.{cond-true, cond-false}
use Rattle.view_lines.specs.Shown.{AreAdded}
use Rattle.view_lines.proofs.Adding.{grown-not, added-none}
use Rattle.view_marks.specs.Marks.{all_true}
use Rattle.view_goal_text.proofs.parts.push_view.Goals as goal

pub returns-then-none-clause-exact : goal.returns-then-none-clause-exact
returns-then-none-clause-exact c form views =
    let t = c.args.table.now in
    let m = c.args.manner.now in
    let old = c.args.lines.now.items in
    subst (λ ls. AreAdded m.bound t t old ls old)
    (sym (cond-true (m.style.now.only_missing && all_true c.args.marks.now) _ _
    (sym c.is_left_out-none.ensures ∙ c.if-none.true)))
    (added-none m.bound t t (grown-not t) old c.requires.lines)

pub returns-clause-exact : goal.returns-clause-exact
returns-clause-exact c form views =
    let m = c.args.manner.now in
    subst (λ ls. AreAdded m.bound c.args.table.now c.push_whole.new.table c.args.lines.now.items ls
    c.push_whole.new.lines.items)
    (sym (cond-false (m.style.now.only_missing && all_true c.args.marks.now) _ _
    (sym c.is_left_out-none.ensures ∙ c.if-none.false)))
    (c.in_ok-push_whole.ensures.exact form views)
