use Rattle.std.proofs.Common.{◌≡◌, true, OnOk, map, is_some, sym, ◌∙◌, ap, subst}
use Rattle.term_table.specs.Table.{tree_at}
use Rattle.view_marks.specs.Answers.{IsHint}
use Rattle.view_lines.specs.Shown.{AreAdded}
use Rattle.view_lines.proofs.Adding.{grown-not, added-none}
use Rattle.view_goal_text.proofs.HintLines.{is_rights, rights_of, plain-said, bounds-said, rights-said}
use Rattle.view_goal_text.proofs.hints.push_said.Goals as goal

pub returns-in-Plain-clause-exact : goal.returns-in-Plain-clause-exact
returns-in-Plain-clause-exact c M view q h =
    let t = c.args.table.now in
    let bound = c.args.missing.now.bound in
    let old = c.args.lines.now.items in
    subst (λ ls. AreAdded bound t t old ls old)
    (sym (plain-said t (is_some bound) M view (subst (IsHint t view) c.in-Plain.is h)))
    (added-none bound t t (grown-not t) old c.requires.lines)

pub returns-in_ok-push_bounds-in-Bounds-clause-exact : goal.returns-in_ok-push_bounds-in-Bounds-clause-exact
returns-in_ok-push_bounds-in-Bounds-clause-exact c M view q h =
    let t = c.args.table.now in
    let bound = c.args.missing.now.bound in
    subst (λ ls. AreAdded bound t t c.args.lines.now.items ls c.push_bounds.new.lines.items)
    (sym (bounds-said t (is_some bound) M view c.args.hint.now _ _ c.in-Bounds.is h))
    (c.in_ok-push_bounds-in-Bounds.ensures.exact bound)

pub returns-in-Rights-clause-exact : goal.returns-in-Rights-clause-exact
returns-in-Rights-clause-exact c M view q h =
    let t = c.args.table.now in
    let bound = c.args.missing.now.bound in
    let hint = c.args.hint.now in
    let new = c.push_rights.new in
    let some : is_rights hint ≡ true = ap is_rights c.in-Rights.is in
    let ids_are : c.as_slice.result.now ≡ rights_of hint =
    c.as_slice.ensures.value ∙ ap rights_of (sym c.in-Rights.is) in
    rights-said t (is_some bound) M
    (λ ls. OnOk c.push_rights.result (AreAdded bound t new.table c.args.lines.now.items ls new.lines.items))
    view hint some h (λ Fs e. c.push_rights.ensures.exact M Fs q (ap (map (tree_at t)) ids_are ∙ e))
