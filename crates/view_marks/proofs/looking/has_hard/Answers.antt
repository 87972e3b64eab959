use Rattle.std.proofs.Common.{rules, ◌≡◌, ◌≤◌, ◌<◌, ◌+◌, ◌∷◌, false, length, map, drop, sym, ◌∙◌, ap, arith}
use Rattle.std.specs.Prelude.{slice_index_or}
use Rattle.std.proofs.lemmas.List.{drop_more}
use Rattle.view_goals.specs.declared.rows.Row.{Row}
use Rattle.view_goals.specs.Rows.{row_view}
use Rattle.view_marks.specs.Looking.{is_hard, is_past, has_hard}
use Rattle.view_marks.proofs.Ahead.{row-past, row-hard, row-easy, no-row}
use Rattle.view_marks.proofs.looking.has_hard.Goals as goal

pub loop-index-preserved : goal.loop-index-preserved
loop-index-preserved c =
    let t = c.args.table.now in
    let d = c.args.depth in
    let rows = c.args.rows.now in
    let marks = c.args.marks.now in
    let i = c.loop-index.index in
    let j = c.loop-index.place in
    let x : Row = c.index-rows-index.result in
    let lt : i < length rows = search rules in
    let split = drop_more rows i x lt ∙ ap (λ (r : Row). r ∷ drop (i + 1) rows) (sym c.index-rows-index.is) in
    let past : is_past d (row_view t x) ≡ false = sym c.is_past-past.ensures ∙ c.if-past.false in
    let hard : is_hard (row_view t x) (slice_index_or marks j false) ≡ false =
    sym (c.is_hard-hard.ensures ∙ ap (is_hard (row_view t x)) c.mark_at-easy.ensures) ∙ c.if-hard.false in
    record {
      place = omega (arith, c.loop-index.invariant.place, c.goal_count-place.ensures.one);
      same = ap (λ n. has_hard d (map (row_view t) (drop (i + 1) rows)) (drop (j + n) marks)) c.goal_count-place.ensures.exact
          ∙ sym (row-easy t d rows marks i j x split past hard) ∙ c.loop-index.invariant.same;
    }

pub returns-then-past : goal.returns-then-past
returns-then-past c =
    let t = c.args.table.now in
    let d = c.args.depth in
    let rows = c.args.rows.now in
    let i = c.loop-index.index in
    let x : Row = c.index-rows-index.result in
    let lt : i < length rows = search rules in
    let split = drop_more rows i x lt ∙ ap (λ (r : Row). r ∷ drop (i + 1) rows) (sym c.index-rows-index.is) in
    sym (row-past t d rows c.args.marks.now i c.loop-index.place x split (sym c.is_past-past.ensures ∙ c.if-past.true))
    ∙ c.loop-index.invariant.same

pub returns-then-hard : goal.returns-then-hard
returns-then-hard c =
    let t = c.args.table.now in
    let d = c.args.depth in
    let rows = c.args.rows.now in
    let marks = c.args.marks.now in
    let i = c.loop-index.index in
    let j = c.loop-index.place in
    let x : Row = c.index-rows-index.result in
    let lt : i < length rows = search rules in
    let split = drop_more rows i x lt ∙ ap (λ (r : Row). r ∷ drop (i + 1) rows) (sym c.index-rows-index.is) in
    let hard = sym (c.is_hard-hard.ensures ∙ ap (is_hard (row_view t x)) c.mark_at-easy.ensures) ∙ c.if-hard.true in
    sym (row-hard t d rows marks i j x split (sym c.is_past-past.ensures ∙ c.if-past.false) hard)
    ∙ c.loop-index.invariant.same

pub returns : goal.returns
returns c =
    let rows = c.args.rows.now in
    let past : length rows ≤ c.loop-index.index = omega (arith, c.loop-index-test.false) in
    sym (no-row c.args.table.now c.args.depth rows (drop c.loop-index.place c.args.marks.now) c.loop-index.index past)
    ∙ c.loop-index.invariant.same
