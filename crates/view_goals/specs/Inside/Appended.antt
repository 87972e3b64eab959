-- Rows that are written behind others.
use Rattle.std.specs.Prelude.{◌≡◌, List, ◌++◌, map, All}
use Rattle.term_table.specs.Table.{TableView}
use Rattle.view_goals.specs.declared.rows.Row.{Row}
use Rattle.view_goals.specs.Rows.{RowView, row_view, HasKnownId}

-- The later rows are the earlier ones and those added behind; their ids are the table's.
pub record IsAppended (t : TableView) (old : List Row) (added : List RowView) (new : List Row)
    : Type 0 where
  pub rows : map (row_view t) new ≡ map (row_view t) old ++ added
  pub known : All (HasKnownId t) old → All (HasKnownId t) new
