use Rattle.std.proofs.Common.{List, [], ◌∷◌, ◌++◌, map, true, sym, ◌∙◌, ap, subst}
use Rattle.term_table.specs.Table.{tree_at}
use Rattle.view_goals.specs.Rows.{row_view}
use Rattle.view_labels.specs.Labels.{part_title, start_label}
use Rattle.view_lines.specs.Lines.{GoalLine, plain_line, before}
use Rattle.view_goal_text.specs.Styles.{style_view}
use Rattle.view_goal_text.specs.Listing.{row_lines}
use Rattle.view_goal_text.specs.Inside.FormTerms.{IsFormTerm, AreFormRows}
use Rattle.view_lines.specs.Shown.{AreAdded}
use Rattle.prover_goals.proofs.Kept.{search-more}
use Rattle.view_goal_text.proofs.Growing.{rows-more}
use Rattle.view_lines.proofs.Adding.{added-more}
use Rattle.view_goal_text.proofs.parts.push_whole.Goals as goal

pub returns-clause-exact : goal.returns-clause-exact
returns-clause-exact c form views =
    let t = c.args.table.now in
    let u = c.push_formula.new.table in
    let v = c.push_rows.new.table in
    let m = c.args.manner.now in
    let s = style_view m.style.now in
    let bound = m.bound in
    let part = c.args.part.now in
    let old = c.args.lines.now.items in
    let one = c.push_words.new.lines.items in
    let two = c.push_formula.new.lines.items in
    let new = c.push_rows.new.lines.items in
    let grown = c.in_ok-push_formula.ensures.extends in
    let known = grown.same part.known c.requires.part.1 in
    let rows = ap (map (row_view u)) c.as_slice-rows.ensures.value
    ∙ rows-more t u grown part.rows.items c.requires.part.2 in
    let title = subst (λ l. AreAdded bound t t old (plain_line l ∷ []) one)
    (c.in_ok-title.ensures ∙ ap (λ ls. part_title ls c.args.number part.at) c.as_slice.ensures.value)
    (c.in_ok-push_words.ensures.exact bound) in
    let start = subst (λ l. AreAdded bound t u one (before l (tree_at t part.known) ∷ []) two)
    c.in_ok-label.ensures c.in_ok-push_formula.ensures.exact in
    let listed = c.in_ok-push_rows.ensures.exact
    (subst IsFormTerm (sym known) form, tt) (subst AreFormRows (sym rows) views) in
    let others : AreAdded bound u v two
    (row_lines s bound true (tree_at t part.known ∷ []) (map (row_view t) part.rows.items) c.args.marks.now)
    new =
    subst (λ l. AreAdded bound u v two (row_lines s bound true (tree_at t part.known ∷ []) l c.args.marks.now) new)
    rows
    (subst (λ h. AreAdded bound u v two
    (row_lines s bound true (h ∷ []) (map (row_view u) c.as_slice-rows.result.now) c.args.marks.now) new)
    known listed) in
    let first : List GoalLine = plain_line (part_title s.lines c.args.number part.at) ∷ [] in
    let next : List GoalLine = before start_label (tree_at t part.known) ∷ [] in
    let last = row_lines s bound true (tree_at t part.known ∷ []) (map (row_view t) part.rows.items)
    c.args.marks.now in
    added-more bound t t v old first one (next ++ last) new title
    (added-more bound t u v one next two last new start others)

pub push_rows-requires-clause-search : goal.push_rows-requires-clause-search
push_rows-requires-clause-search c =
    search-more c.args.search.now c.args.table.now c.push_formula.new.table c.requires.search
    c.in_ok-push_formula.ensures.extends
