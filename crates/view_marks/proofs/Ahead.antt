-- Looking ahead for goals that aren't easy, row by row.
use Rattle.std.proofs.Common.{◌≡◌, ◌≤◌, ℕ, ◌+◌, Bool, true, false, if◌then◌else◌, List, ◌∷◌, map, length, drop, get_or, ◌∙◌, ap, arith}
use Rattle.std.proofs.lemmas.List.{drop_all, drop-drop, get_or-drop}
use Rattle.term_table.specs.Table.{TableView}
use Rattle.view_goals.specs.declared.rows.Row.{Row}
use Rattle.view_goals.specs.Rows.{RowView, row_view}
use Rattle.view_marks.specs.Looking.{goal_count, is_hard, is_past, has_hard}

-- the mark of the next goal
pub mark-next : (marks : List Bool) (j : ℕ) → get_or (drop j marks) 0 false ≡ get_or marks j false
mark-next marks j =
    let same : j + 0 ≡ j = omega arith in
    get_or-drop j marks 0 false ∙ ap (λ n. get_or marks n false) same

-- one row
looked : ℕ → RowView → Bool → List RowView → List Bool → Bool → Bool
looked d r easy rows marks past =
    if past then false else if is_hard r easy then true else has_hard d rows marks

module _ (t : TableView) (d : ℕ) (rows : List Row) (marks : List Bool) (i j : ℕ) (x : Row)
    (split : drop i rows ≡ x ∷ drop (i + 1) rows)
  where
    abbrev ahead : Bool
    ahead = has_hard d (map (row_view t) (drop i rows)) (drop j marks)

    one-row : ahead
        ≡ looked d (row_view t x) (get_or marks j false) (map (row_view t) (drop (i + 1) rows))
        (drop (j + goal_count (row_view t x)) marks) (is_past d (row_view t x))
    unfolding looked
    one-row =
        let r = row_view t x in
        let rest = map (row_view t) (drop (i + 1) rows) in
        let mark = mark-next marks j in
        let behind = drop-drop (goal_count r) j marks in
        ap (λ l. has_hard d (map (row_view t) l) (drop j marks)) split
        ∙ (λ k. if is_past d r then false else
        if is_hard r (mark k) then true else has_hard d rest (behind k))

    pub row-past : is_past d (row_view t x) ≡ true → ahead ≡ false
    unfolding looked
    row-past e =
        one-row ∙ ap (looked d (row_view t x) (get_or marks j false)
        (map (row_view t) (drop (i + 1) rows)) (drop (j + goal_count (row_view t x)) marks)) e

    pub row-hard : is_past d (row_view t x) ≡ false
        → is_hard (row_view t x) (get_or marks j false) ≡ true → ahead ≡ true
    unfolding looked
    row-hard e h =
        one-row ∙ ap (looked d (row_view t x) (get_or marks j false)
        (map (row_view t) (drop (i + 1) rows)) (drop (j + goal_count (row_view t x)) marks)) e
        ∙ ap (λ (b : Bool). if b then true else
        has_hard d (map (row_view t) (drop (i + 1) rows)) (drop (j + goal_count (row_view t x)) marks)) h

    pub row-easy : is_past d (row_view t x) ≡ false
        → is_hard (row_view t x) (get_or marks j false) ≡ false
        → ahead ≡ has_hard d (map (row_view t) (drop (i + 1) rows))
        (drop (j + goal_count (row_view t x)) marks)
    unfolding looked
    row-easy e h =
        one-row ∙ ap (looked d (row_view t x) (get_or marks j false)
        (map (row_view t) (drop (i + 1) rows)) (drop (j + goal_count (row_view t x)) marks)) e
        ∙ ap (λ (b : Bool). if b then true else
        has_hard d (map (row_view t) (drop (i + 1) rows)) (drop (j + goal_count (row_view t x)) marks)) h

-- past the last row
pub no-row : (t : TableView) (d : ℕ) (rows : List Row) (marks : List Bool) (i : ℕ) → length rows ≤ i
    → has_hard d (map (row_view t) (drop i rows)) marks ≡ false
no-row t d rows marks i past =
    ap (λ (l : List Row). has_hard d (map (row_view t) l) marks) (drop_all i rows past)
