use Rattle.std.proofs.Common.{rules, true, false, not, ◌&&◌, ◌||◌, ◌≡◌, ◌+◌, ◌<◌, [], ◌∷◌, ◌++◌, ℕ, List, length, map, drop, sym, ◌∙◌, ap, subst, arith}
use Rattle.std.specs.Prelude.{slice_index_or}
use Rattle.std.proofs.lemmas.List.{drop_more}
use Rattle.term_table.specs.Tree.{Tree}
use Rattle.term_table.specs.Table.{AllKnown, tree_at}
use Rattle.view_goals.specs.declared.rows.Row.{Row}
use Rattle.view_goals.specs.Rows.{row_view, HasKnownId}
use Rattle.view_marks.specs.Looking.{goal_count, is_hard}
use Rattle.view_goal_text.specs.Styles.{style_view, is_row_listed}
use Rattle.view_goal_text.specs.Listing.{listed_line, row_hint, known_after, row_lines}
use Rattle.view_goal_text.specs.Inside.FormTerms.{AreFormTerms, IsFormRow}
use Rattle.view_lines.specs.Shown.{shown_line, line_view, AreAdded}
use Rattle.view_goal_text.proofs.Growing.{row-more, rows-more}
use Rattle.view_lines.proofs.Adding.{grown-not, grown-twice}
use Rattle.view_goal_text.proofs.HintLines.{all-known, all-more}
use Rattle.view_goal_text.proofs.RowLines.{lines_here, row-step, rows-behind, known-forms, form-at}
use Rattle.view_goal_text.proofs.rows.push_rows.Goals as goal

pub loop-index-init : goal.loop-index-init
loop-index-init c =
    let t = c.args.table.now in
    let start = c.args.start in
    let items : c.push.new.self.items ≡ start ∷ [] =
    c.in_ok-push.ensures.items ∙ ap (λ (l : List ℕ). l ++ start ∷ []) c.new-known.ensures.items in record {
      extends = grown-not t;
      place = omega arith;
      lines = c.requires.lines;
      ids = subst (AllKnown t) (sym items) (c.requires.start, tt);
      search = c.requires.search;
      exact = λ known views. (
        subst (λ (l : List ℕ). AreFormTerms (map (tree_at t) l)) (sym items) known,
        ap (λ (l : List ℕ). map (line_view t) c.args.lines.now.items
            ++ map (shown_line c.args.manner.now.bound)
            (row_lines (style_view c.args.manner.now.style.now) c.args.manner.now.bound true (map (tree_at t) l)
            (map (row_view t) c.args.rows.now) c.args.marks.now)) items,
      );
    }

pub learn-requires-clause-known : goal.learn-requires-clause-known
learn-requires-clause-known c =
    all-known c.loop-index.table c.push_row_lines.new.table c.in_ok-push_row_lines.ensures.extends
    c.loop-index.known.items c.loop-index.invariant.ids

pub loop-index-preserved : goal.loop-index-preserved
loop-index-preserved c =
    let t = c.args.table.now in
    let u = c.loop-index.table in
    let v = c.push_row_lines.new.table in
    let s = style_view c.args.manner.now.style.now in
    let bound = c.args.manner.now.bound in
    let rows : List Row = c.args.rows.now in
    let marks = c.args.marks.now in
    let i = c.loop-index.index in
    let j = c.loop-index.goal in
    let due = c.loop-index.due in
    let x : Row = c.index-rows-index.result in
    let lt : i < length rows = search rules in
    let at_index : x ≡ slice_index_or rows i x = search rules in
    let split = drop_more rows i x lt ∙ ap (λ (r : Row). r ∷ drop (i + 1) rows) (sym at_index) in
    let inv = c.loop-index.invariant in
    let grown = c.in_ok-push_row_lines.ensures.extends in
    let known : HasKnownId t x = subst (HasKnownId t) (sym at_index) (c.requires.rows i x lt) in
    let same = row-more t u inv.extends x known in
    let ids = c.loop-index.known.items in
    let old = c.loop-index.lines.items in
    let new = c.push_row_lines.new.lines.items in
    let r = row_view t x in
    let easy = slice_index_or marks j false in
    let mark = c.mark_at-easy.ensures in
    let told = c.told_of-told in
    let hard : told.result.hard ≡ is_hard r easy =
    told.ensures.hard ∙ (λ k. is_hard (same k) (mark k)) in
    let wanted : told.result.hints ≡ (due && is_hard r easy) =
    told.ensures.hints ∙ (λ k. due && is_hard (same k) (mark k)) in
    let easy_is : told.result.easy ≡ easy = told.ensures.easy ∙ mark in
    let still : c.stays_due-due.result ≡ (due && (s.all || not (is_hard r easy))) =
    c.stays_due-due.ensures ∙ ap (λ b. due && (s.all || not b)) hard in
    let listed : told.result.line ≡ is_row_listed s.only_missing (map (row_view t) (drop i rows)) (drop j marks) =
    told.ensures.line ∙ c.is_listed-line.ensures
    ∙ ap (λ l. is_row_listed s.only_missing l (drop j marks))
    (rows-more t u inv.extends (drop i rows) (rows-behind t i rows c.requires.rows)) in
    let here : c.as_slice.result.now ≡ ids = c.as_slice.ensures.value in
    let trees : List Tree = map (tree_at u) ids in
    let wider = grown-twice t u v inv.extends grown in
    let count : c.goal_count-goal.result ≡ goal_count r =
    c.goal_count-goal.ensures.exact ∙ ap goal_count (row-more t v wider x known) in
    let learnt : map (tree_at v) c.learn.new.known.items ≡ known_after trees r =
    c.in_ok-learn.ensures.exact
    ∙ (λ k. known_after (all-more u v grown ids inv.ids k) (row-more t v wider x known k)) in
    let whole = map (line_view t) c.args.lines.now.items
    ++ map (shown_line bound)
    (row_lines s bound true (tree_at t c.args.start ∷ []) (map (row_view t) rows) marks) in record {
      extends = wider;
      place = omega (arith, inv.place, c.goal_count-goal.ensures.one);
      lines = c.in_ok-push_row_lines.ensures.known;
      ids = c.in_ok-learn.ensures.known;
      search = c.in_ok-push_row_lines.ensures.search;
      exact = λ first views.
          let so_far = inv.exact first views in
          let row : IsFormRow r = subst (λ (y : Row). IsFormRow (row_view t y)) (sym at_index) (form-at t rows i x views lt) in
          let added : AreAdded bound u v old
          (lines_here s bound (is_row_listed s.only_missing (map (row_view t) (drop i rows)) (drop j marks)) due trees r easy) new =
          c.in_ok-push_row_lines.ensures.exact
          (subst (λ (l : List ℕ). AreFormTerms (map (tree_at u) l)) (sym here) so_far.0)
          (subst IsFormRow (sym same) row)
          ∙ (λ k. map (line_view u) old
          ++ map (shown_line bound)
          (listed_line bound s.lines (listed k) (same k) (easy_is k)
          ++ row_hint s.all bound (wanted k) (map (tree_at u) (here k)) (same k))) in
          let step = row-step s bound t u v due trees rows marks i j x old new whole split added so_far.1 in (
            subst AreFormTerms (sym learnt) (known-forms trees r so_far.0 row),
            (λ k. map (line_view v) new
                ++ map (shown_line bound)
                (row_lines s bound (still k) (learnt k) (map (row_view t) (drop (i + 1) rows)) (drop (j + count k) marks)))
                ∙ step,
          );
    }
