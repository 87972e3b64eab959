-- One row more is listed.
use Rattle.std.proofs.Common.{◌≡◌, ℕ, zero, suc, ◌+◌, ◌<◌, length, ◌&&◌, ◌||◌, Bool, false, not, Option}
use Rattle.std.proofs.Common.{List, [], ◌∷◌, ◌++◌, map, take, drop, get_or, sym, ◌∙◌, ap, subst, append_assoc, arith}
use Rattle.std.specs.Prelude.{slice_index_or, All}
use Rattle.std.proofs.lemmas.List.{drop-drop, get_or-drop, length-drop, map-append, take-map}
use Rattle.term_table.specs.Tree.{Tree}
use Rattle.term_table.specs.Table.{TableView, IsKnown, AllKnown, tree_at}
use Rattle.view_goals.specs.declared.rows.Row.{Row}
use Rattle.view_goals.specs.Rows.{RowView, GoalRow, BothRow, UnderRow, row_view, HasKnownId}
use Rattle.view_lines.specs.declared.lines.ShownLine.{ShownLine}
use Rattle.view_lines.specs.Lines.{GoalLine}
use Rattle.view_marks.specs.Looking.{goal_count, is_hard}
use Rattle.view_goal_text.specs.Styles.{StyleView, is_row_listed}
use Rattle.view_goal_text.specs.Listing.{listed_line, row_hint, known_after, row_lines}
use Rattle.view_lines.specs.Shown.{ShownView, shown_line, line_view, AreAdded}
use Rattle.view_goal_text.specs.Inside.FormTerms.{IsFormTerm, AreFormTerms, IsFormRow, AreFormRows}
use Rattle.view_goal_text.proofs.FormTerms.{all-append, all-taken}

-- the lines of a row and its hints
abbrev pub lines_here : StyleView → Option ℕ → Bool → Bool → List Tree → RowView → Bool → List GoalLine
lines_here s bound listed due known r easy =
    listed_line bound s.lines listed r easy ++ row_hint s.all bound (due && is_hard r easy) known r

-- what is kept so far, before what is still to come, is the whole
pub row-step : (s : StyleView) (bound : Option ℕ) (t u v : TableView) (due : Bool) (known : List Tree)
    (rows : List Row) (marks : List Bool) (i j : ℕ) (x : Row) (old new : List ShownLine)
    (whole : List ShownView) → drop i rows ≡ x ∷ drop (i + 1) rows
    → AreAdded bound u v old
    (lines_here s bound (is_row_listed s.only_missing (map (row_view t) (drop i rows)) (drop j marks)) due known
    (row_view t x) (slice_index_or marks j false)) new
    → map (line_view u) old ++ map (shown_line bound)
    (row_lines s bound due known (map (row_view t) (drop i rows)) (drop j marks)) ≡ whole
    → map (line_view v) new ++ map (shown_line bound)
    (row_lines s bound (due && (s.all || not (is_hard (row_view t x) (slice_index_or marks j false))))
    (known_after known (row_view t x)) (map (row_view t) (drop (i + 1) rows))
    (drop (j + goal_count (row_view t x)) marks)) ≡ whole
row-step s bound t u v due known rows marks i j x old new whole split is before =
    let f = shown_line bound in
    let r = row_view t x in
    let rest = map (row_view t) (drop (i + 1) rows) in
    let easy = get_or marks j false in
    let listed = is_row_listed s.only_missing (map (row_view t) (drop i rows)) (drop j marks) in
    let later : Bool → List Bool → List GoalLine = λ b ms. row_lines s bound (due && (s.all || not (is_hard r b))) (known_after known r) rest ms in
    let behind_it = drop (j + goal_count r) marks in
    let here = lines_here s bound listed due known r easy in
    let same : j + 0 ≡ j = omega arith in
    let mark : get_or (drop j marks) 0 false ≡ easy =
    get_or-drop j marks 0 false ∙ ap (λ n. get_or marks n false) same in
    let behind : drop (goal_count r) (drop j marks) ≡ behind_it = drop-drop (goal_count r) j marks in
    let told : is_row_listed s.only_missing (r ∷ rest) (drop j marks) ≡ listed =
    ap (λ (l : List Row). is_row_listed s.only_missing (map (row_view t) l) (drop j marks)) (sym split) in
    let whole_is : row_lines s bound due known (map (row_view t) (drop i rows)) (drop j marks)
    ≡ here ++ later easy behind_it =
    ap (λ (l : List Row). row_lines s bound due known (map (row_view t) l) (drop j marks)) split
    ∙ (λ k. listed_line bound s.lines (told k) r (mark k)
    ++ (row_hint s.all bound (due && is_hard r (mark k)) known r ++ later (mark k) (behind k)))
    ∙ sym (append_assoc (listed_line bound s.lines listed r easy)
    (row_hint s.all bound (due && is_hard r easy) known r) (later easy behind_it)) in
    ap (λ l. l ++ map f (later easy behind_it)) is
    ∙ append_assoc (map (line_view u) old) (map f here) (map f (later easy behind_it))
    ∙ ap (λ l. map (line_view u) old ++ l)
    (sym (map-append f here (later easy behind_it)) ∙ ap (map f) (sym whole_is))
    ∙ before

-- rows behind others have known ids, too
pub rows-behind : (t : TableView) (n : ℕ) (rows : List Row) → All (HasKnownId t) rows
    → All (HasKnownId t) (drop n rows)
rows-behind t n rows h = λ k d lt.
    subst (HasKnownId t) (sym (get_or-drop n rows k d))
    (h (n + k) d (omega (arith, length-drop n rows, lt)))

-- what is known behind a row encodes formulas
pub known-forms : (known : List Tree) (r : RowView) → AreFormTerms known → IsFormRow r
    → AreFormTerms (known_after known r)
known-forms known (GoalRow i w t d) h g = h
known-forms known BothRow h g = h
known-forms known (UnderRow i taken t d) h g =
    all-append IsFormTerm (take (d + 1) known) (t ∷ []) (all-taken IsFormTerm (d + 1) known h) (g, tt)

-- so does a row among others
pub form-at : (t : TableView) (rows : List Row) (i : ℕ) (d : Row) → AreFormRows (map (row_view t) rows)
    → i < length rows → IsFormRow (row_view t (get_or rows i d))
form-at t [] i d h lt = absurd (omega (arith, lt))
form-at t (r ∷ rows) zero d h lt = h.0
form-at t (r ∷ rows) (suc i) d h lt = form-at t rows i d h.1 (omega (arith, lt))

-- one id more
pub learnt : (t : TableView) (ids : List ℕ) (n id : ℕ) → map (tree_at t) (take n ids ++ id ∷ [])
    ≡ take n (map (tree_at t) ids) ++ tree_at t id ∷ []
learnt t ids n id =
    map-append (tree_at t) (take n ids) (id ∷ [])
    ∙ ap (λ l. l ++ tree_at t id ∷ []) (sym (take-map (tree_at t) n ids))

pub learnt-known : (t : TableView) (ids : List ℕ) (n id : ℕ) → AllKnown t ids → IsKnown t id
    → AllKnown t (take n ids ++ id ∷ [])
learnt-known t ids zero id h k = (k, tt)
learnt-known t [] (suc n) id h k = (k, tt)
learnt-known t (x ∷ ids) (suc n) id h k = (h.0, learnt-known t ids n id h.1 k)

pub first-known : (t : TableView) (ids : List ℕ) (n : ℕ) → AllKnown t ids → AllKnown t (take n ids)
first-known t ids zero h = tt
first-known t [] (suc n) h = tt
first-known t (x ∷ ids) (suc n) h = (h.0, first-known t ids n h.1)
