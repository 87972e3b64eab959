-- Which rows are left where goals that are easy are left out.
use Rattle.std.specs.Prelude.{ℕ, Bool, true, false, not, nat_le, if◌then◌else◌, List, [], ◌∷◌, drop, slice_index_or}
use Rattle.view_goals.specs.Rows.{RowView, GoalRow, BothRow, UnderRow}

-- how many goals a row is
abbrev pub goal_count : RowView → ℕ
goal_count (GoalRow i w t d) = 1
goal_count BothRow = 0
goal_count (UnderRow i taken t d) = 0

-- whether a row is a goal that isn't easy
abbrev pub is_hard : RowView → Bool → Bool
is_hard (GoalRow i w t d) easy = not easy
is_hard BothRow easy = false
is_hard (UnderRow i taken t d) easy = false

-- whether a row stands under at most d branches
abbrev pub is_past : ℕ → RowView → Bool
is_past d (GoalRow i w t e) = nat_le e d
is_past d BothRow = false
is_past d (UnderRow i taken t e) = nat_le e d

-- whether a goal that isn't easy is among the rows, whose goals have these marks, up to the first that
-- stands under at most d branches
abbrev pub has_hard : ℕ → List RowView → List Bool → Bool
has_hard d [] marks = false
has_hard d (r ∷ rows) marks =
    if is_past d r then false else
    if is_hard r (slice_index_or marks 0 false) then true else
    has_hard d rows (drop (goal_count r) marks)

-- whether the first of the rows is left: a goal that isn't easy, or a branch with such a goal under it
abbrev pub is_row_left : List RowView → List Bool → Bool
is_row_left [] marks = false
is_row_left (GoalRow i w t d ∷ rows) marks = not (slice_index_or marks 0 false)
is_row_left (BothRow ∷ rows) marks = false
is_row_left (UnderRow i taken t d ∷ rows) marks = has_hard d rows marks
