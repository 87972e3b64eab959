-- A source beside whose lines a container is listed, and where its code is other code.
use Rattle.std.specs.Prelude.{ℕ, suc, ◌/◌, ◌==◌, if◌then◌else◌, List, [], ◌∷◌, ◌++◌, codes, decimal, slice_get, Option, Some, None, option_and_then}
use Rattle.std.specs.Str.{bytes_eq}
use Rattle.view_entries.specs.SourceLines.{source_place}

-- the lines of a source's instructions, and the bytes of its code, if there is a source
pub record BesideView : Type 0 where
  pub lines : List ℕ
  pub code : Option (List ℕ)

-- no source
abbrev pub nothing_beside : BesideView
nothing_beside = record { lines = []; code = None }

-- how many bytes two lists have in common at their front
abbrev pub common_front : List ℕ → List ℕ → ℕ
common_front [] other = 0
common_front (b ∷ code) [] = 0
common_front (b ∷ code) (d ∷ other) = if b == d then suc (common_front code other) else 0

-- the index of the first word in which other code differs, unless it is this code
abbrev pub first_other : List ℕ → List ℕ → Option ℕ
first_other code other =
    if bytes_eq code other then None else Some (common_front code other / 4)

-- that a source's code differs from an index on, and the source's line there, if it has one
abbrev pub difference_notes : List ℕ → Option ℕ → List (List ℕ)
difference_notes lines None = []
difference_notes lines (Some i) =
    (codes "SOURCE differs from index " ++ (decimal i ++ source_place (slice_get lines i))) ∷ []

-- what is noted of a source beside code
abbrev pub notes_beside : List ℕ → BesideView → List (List ℕ)
notes_beside code b = difference_notes b.lines (option_and_then (first_other code) b.code)
