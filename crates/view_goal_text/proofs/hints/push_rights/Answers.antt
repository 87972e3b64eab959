use Rattle.std.proofs.Common.{[], ◌∷◌, length, is_some, sym, ◌∙◌, subst}
use Rattle.std.proofs.lemmas.Bool.{eqb-true, eqb-false}
use Rattle.view_lines.specs.Lines.{plain_line}
use Rattle.view_lines.specs.Shown.{AreAdded}
use Rattle.view_goal_text.proofs.HintLines.{like-none, like-some}
use Rattle.view_goal_text.proofs.hints.push_rights.Goals as goal

pub returns-then-none-clause-exact : goal.returns-then-none-clause-exact
returns-then-none-clause-exact c = λ M Fs q e.
    let t = c.args.table.now in
    let bound = c.args.missing.now.bound in
    let ids = c.args.ids.now in
    let old = c.args.lines.now.items in
    let new = c.push_words.new.lines.items in
    let none = eqb-true (length ids) 0 (sym c.is_empty-none.ensures ∙ c.if-none.true) in
    subst (λ ls. AreAdded bound t t old ls new) (sym (like-none t (is_some bound) M ids Fs e none))
    (subst (λ l. AreAdded bound t t old (plain_line l ∷ []) new) c.in_ok-label.ensures
    (c.in_ok-push_words.ensures.exact bound))

pub returns-clause-exact : goal.returns-clause-exact
returns-clause-exact c = λ M Fs q e.
    let t = c.args.table.now in
    let bound = c.args.missing.now.bound in
    let ids = c.args.ids.now in
    let some = eqb-false (length ids) 0 (sym c.is_empty-none.ensures ∙ c.if-none.false) in
    subst (λ ls. AreAdded bound t c.push_each_like.new.table c.args.lines.now.items ls
    c.push_each_like.new.lines.items) (sym (like-some t (is_some bound) M ids Fs e some))
    (c.in_ok-push_each_like.ensures.exact M Fs q e)
