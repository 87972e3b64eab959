-- How goals are listed.
use Rattle.std.specs.Prelude.{ℕ, Bool, not, ◌||◌, List}
use Rattle.view_goals.specs.Rows.{RowView}
use Rattle.view_marks.specs.Looking.{is_row_left}
use Rattle.view_goal_text.specs.declared.style.Style.{Style}

-- The lines of a source that the instructions stand in, none where it isn't given; whether what is easy
-- is left out; and whether all that is missing is told, or else the first alone.
pub record StyleView : Type 0 where
  pub lines : List ℕ
  pub only_missing : Bool
  pub all : Bool

-- the style of the code
abbrev pub style_view : Style → StyleView
style_view s = record { lines = s.lines.items; only_missing = s.only_missing; all = s.all }

-- whether the first of the rows, whose goals have these marks, is listed
abbrev pub is_row_listed : Bool → List RowView → List Bool → Bool
is_row_listed only_missing rows marks = not only_missing || is_row_left rows marks
