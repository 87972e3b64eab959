-- What listing parts answers.
use Rattle.std.specs.Prelude.{◌≡◌, ℕ, Bool, List, map, Option, is_some}
use Rattle.term_table.specs.Table.{TableView}
use Rattle.view_goals.specs.declared.rows.PartRows.{PartRows}
use Rattle.view_goals.specs.Goals.{PartGoals}
use Rattle.view_goals.specs.Rows.{part_view}
use Rattle.view_marks.specs.Marks.{part_marks, all_true}
use Rattle.view_lines.specs.declared.lines.ShownLine.{ShownLine}
use Rattle.view_goal_text.specs.Listing.{view_lines, view_of, parts_lines, first_hard}
use Rattle.view_goal_text.specs.Styles.{StyleView}
use Rattle.view_lines.specs.Shown.{AreAdded}

-- the lines of whatever part it shows were added, as the part of number k, and it says whether each
-- goal is easy
abbrev pub IsPartPrinted : StyleView → Option ℕ → ℕ → TableView → TableView → PartRows → List ShownLine
    → List ShownLine → Bool → Type 0
IsPartPrinted s bound k t u part old new easy =
    (p : PartGoals) → part_view t part ≡ view_of bound p
    → AreAdded bound t u old
    (view_lines s bound k (view_of bound p) (part_marks (is_some bound) p)) new
    × (easy ≡ all_true (part_marks (is_some bound) p))

-- the lines of whatever parts they show were added, from number k on, and it names the first that
-- has a goal that isn't easy
abbrev pub ArePartsPrinted : StyleView → Option ℕ → ℕ → TableView → TableView → List PartRows
    → List ShownLine → List ShownLine → Option ℕ → Type 0
ArePartsPrinted s bound k t u parts old new found =
    (ps : List PartGoals) → map (part_view t) parts ≡ map (view_of bound) ps
    → AreAdded bound t u old (parts_lines s bound k ps) new × (found ≡ first_hard bound k ps)
