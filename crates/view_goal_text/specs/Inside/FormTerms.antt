-- Terms that encode formulas over the machine's variables.
use Rattle.std.specs.Prelude.{◌≡◌, List}
use Rattle.std.specs.List.{AllByRecursion}
use Rattle.term_table.specs.Tree.{Tree}
use Rattle.lf_terms.specs.Encoding.{form_encoding}
use Rattle.lf_encode.specs.Reading.{form_of}
use Rattle.view_goals.specs.Rows.{RowView, GoalRow, BothRow, UnderRow}

-- the term encodes the formula that it is read as
abbrev pub IsFormTerm : Tree → Type 0
IsFormTerm t = form_encoding (form_of t) ≡ t

-- so does each
abbrev pub AreFormTerms : List Tree → Type 0
AreFormTerms ts = AllByRecursion IsFormTerm ts

-- so does the row's, if it has one
abbrev pub IsFormRow : RowView → Type 0
IsFormRow (GoalRow i w t d) = IsFormTerm t
IsFormRow BothRow = Unit {0}
IsFormRow (UnderRow i taken t d) = IsFormTerm t

-- so does each row's
abbrev pub AreFormRows : List RowView → Type 0
AreFormRows rows = AllByRecursion IsFormRow rows
