use Rattle.std.proofs.Common.{◌≡◌, ◌++◌, map, sym, ◌∙◌, ap, subst}
use Rattle.view_labels.specs.Labels.{verdict_line}
use Rattle.view_lines.specs.Texts.{goal_lines_text}
use Rattle.view_goal_text.specs.Styles.{style_view}
use Rattle.view_goal_text.specs.Listing.{parts_lines}
use Rattle.view_lines.specs.Shown.{shown_line, line_view, AreKnownLines, shown_lines_text}
use Rattle.view_lines.proofs.ShownTexts.{text-same}
use Rattle.view_goal_text.proofs.listing.text_of.Goals as goal

pub push_parts-requires-clause-lines : goal.push_parts-requires-clause-lines
push_parts-requires-clause-lines c =
    subst (AreKnownLines c.args.table.now) (sym c.new-lines.ensures.items) tt

pub returns : goal.returns
returns c = record {
  exact = λ ps e.
      let t = c.args.table.now in
      let u = c.push_parts.new.table in
      let s = style_view c.args.manner.now.style.now in
      let bound = c.args.manner.now.bound in
      let made = c.in_ok-hard.ensures.exact ps e in
      let listed = parts_lines s bound 0 ps in
      let added : map (line_view u) c.push_parts.new.lines.items ≡ map (shown_line bound) listed =
      made.0 ∙ ap (λ l. map (line_view t) l ++ map (shown_line bound) listed) c.new-lines.ensures.items in
      let text : c.in_ok-out.out.items ≡ goal_lines_text bound listed =
      c.in_ok-out.ensures
      ∙ ap shown_lines_text (ap (map (line_view u)) c.as_slice.ensures.value ∙ added)
      ∙ text-same bound listed in
      c.in_ok-push_last.ensures ∙ (λ k. text k ++ verdict_line (made.1 k));
}
