-- The parts of a condition, read off its term.
use Rattle.std.specs.Prelude.{◌≡◌, ℕ, Bool, List, [], ◌∷◌, ◌++◌, map, All, length, slice_get, if◌then◌else◌}
use Rattle.alpha_words.specs.declared.insn.Insn.{Insn}
use Rattle.term_table.specs.Tree.{Tree}
use Rattle.term_table.specs.Table.{TableView}
use Rattle.view_goals.specs.declared.rows.PartRows.{PartRows}
use Rattle.view_goals.specs.Rows.{PartRowsView, part_view, HasKnownIds}
use Rattle.view_goals.specs.Inside.Reading.{first_argument, last_argument, under}
use Rattle.view_goals.specs.Inside.Outlines.{Outline, outline_of, outline_within, rows_by}

-- how many quantifiers a part has
abbrev pub quantifiers : Bool → ℕ
quantifiers counted = if counted then 33 else 32

-- the implication that stands under a part's quantifiers
unfoldable pub implication : Bool → Tree → Tree
implication counted t = under (quantifiers counted) t

-- a part that begins at index i and has this outline
abbrev pub part_by : Bool → ℕ → Outline → Tree → PartRowsView
part_by counted i T t = record {
  at = i;
  formula = t;
  known = first_argument (implication counted t);
  rows = rows_by 0 T (last_argument (implication counted t));
}

-- what the annotated index i asks
abbrev pub inv_outline : List Insn → List Bool → Bool → ℕ → Outline
inv_outline code marks counted i =
    outline_of counted (outline_within code marks counted (length code) i) i (slice_get code i)

-- the parts of the annotated indices, and'ed to the right
abbrev pub inv_parts_by : List Insn → List Bool → Bool → List ℕ → Tree → List PartRowsView
inv_parts_by code marks counted [] t = []
inv_parts_by code marks counted (i ∷ rest) t =
    part_by counted i (inv_outline code marks counted i) (first_argument t)
    ∷ inv_parts_by code marks counted rest (last_argument t)

-- the parts of a condition
abbrev pub parts_by : List Insn → List Bool → Bool → List ℕ → Tree → List PartRowsView
parts_by code marks counted indices t =
    part_by counted 0 (outline_within code marks counted (length code) 0 0) (first_argument t)
    ∷ inv_parts_by code marks counted indices (last_argument t)

-- The later parts are the earlier ones and those added behind; their ids are the table's.
pub record ArePartsAppended (t : TableView) (old : List PartRows) (added : List PartRowsView)
    (new : List PartRows) : Type 0 where
  pub parts : map (part_view t) new ≡ map (part_view t) old ++ added
  pub known : All (HasKnownIds t) old → All (HasKnownIds t) new
