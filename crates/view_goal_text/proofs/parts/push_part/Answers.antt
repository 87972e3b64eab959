use Rattle.std.proofs.Common.{◌≡◌, ◌++◌, map, is_some, sym, ◌∙◌, ap, subst}
use Rattle.view_goals.specs.Rows.{PartRowsView}
use Rattle.view_marks.specs.Marks.{part_marks, all_true}
use Rattle.view_goal_text.specs.Styles.{style_view}
use Rattle.view_goal_text.specs.Listing.{view_lines}
use Rattle.view_goal_text.specs.Inside.FormTerms.{IsFormTerm, AreFormRows}
use Rattle.view_lines.specs.Shown.{shown_line}
use Rattle.view_goal_text.proofs.Growing.{part-more, part-known}
use Rattle.view_goal_text.proofs.FormTerms.{form-known, form-rows}
use Rattle.view_lines.proofs.Adding.{lines-more, lines-known}
use Rattle.view_goal_text.proofs.parts.push_part.Goals as goal

pub push_view-requires-clause-lines : goal.push_view-requires-clause-lines
push_view-requires-clause-lines c =
    lines-known c.args.table.now c.marks_of.new.table c.in_ok-marks.ensures.extends
    c.args.lines.now.items c.requires.lines

pub push_view-requires-clause-part : goal.push_view-requires-clause-part
push_view-requires-clause-part c =
    part-known c.args.table.now c.marks_of.new.table c.in_ok-marks.ensures.extends c.args.part.now c.requires.part

pub returns-clause-exact : goal.returns-clause-exact
returns-clause-exact c p e =
    let t = c.args.table.now in
    let s = style_view c.args.manner.now.style.now in
    let bound = c.args.manner.now.bound in
    let u = c.marks_of.new.table in
    let lines = lines-more t u c.in_ok-marks.ensures.extends c.args.lines.now.items c.requires.lines in
    let same = part-more t u c.in_ok-marks.ensures.extends c.args.part.now c.requires.part ∙ e in
    let marked : c.in_ok-marks.marks.items ≡ part_marks (is_some bound) p =
    c.in_ok-marks.ensures.exact bound p e ∙ ap (λ b. part_marks b p) c.is_some.ensures in
    let marks = c.as_slice.ensures.value ∙ marked in (
      c.in_ok-push_view.ensures.exact
          (subst (λ (q : PartRowsView). IsFormTerm q.known) (sym same) (form-known bound p))
          (subst (λ (q : PartRowsView). AreFormRows q.rows) (sym same) (form-rows bound p))
          ∙ (λ k. lines k ++ map (shown_line bound) (view_lines s bound c.args.number (same k) (marks k))),
      c.all_true.ensures ∙ ap all_true (c.as_slice-2.ensures.value ∙ marked),
    )
