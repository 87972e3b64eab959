-- The lines of a text: LF ends a line, and one CR before it is dropped; the last line may lack its
-- LF.
use Rattle.std.specs.Prelude.{◌≡◌, ℕ, ◌<◌, Bool, false, ◌&&◌, ◌==◌, if◌then◌else◌, List, [], ◌∷◌, ◌++◌, length}
use Rattle.std.specs.List.{AllByRecursion}

-- no LF is among the bytes
abbrev pub IsLine : List ℕ → Type 0
IsLine l = AllByRecursion (λ b. (b == 10) ≡ false) l

-- the last byte is a CR
abbrev pub ends_in_cr : List ℕ → Bool
ends_in_cr [] = false
ends_in_cr (b ∷ []) = b == 13
ends_in_cr (b ∷ c ∷ bs) = ends_in_cr (c ∷ bs)

-- the text has these lines
pub data AreLines : List ℕ → List (List ℕ) → Type 0 where
  none : AreLines [] []
  last : {l : List ℕ} → IsLine l → 0 < length l → AreLines l (l ∷ [])
  by_lf : {l ts : List ℕ} {ls : List (List ℕ)} → IsLine l → ends_in_cr l ≡ false → AreLines ts ls
      → AreLines (l ++ (10 ∷ ts)) (l ∷ ls)
  by_crlf : {l ts : List ℕ} {ls : List (List ℕ)} → IsLine l → AreLines ts ls
      → AreLines (l ++ (13 ∷ 10 ∷ ts)) (l ∷ ls)

-- ---- the same as a function

-- whether an LF stands next
abbrev pub begins_with_lf : List ℕ → Bool
begins_with_lf [] = false
begins_with_lf (b ∷ bs) = b == 10

-- a byte in front of the first line
abbrev pub with_first_byte : ℕ → List (List ℕ) → List (List ℕ)
with_first_byte b [] = (b ∷ []) ∷ []
with_first_byte b (l ∷ ls) = (b ∷ l) ∷ ls

-- the lines of a text
abbrev pub lines_of : List ℕ → List (List ℕ)
lines_of [] = []
lines_of (b ∷ bs) =
    if b == 10 then [] ∷ lines_of bs else
    if (b == 13) && begins_with_lf bs then lines_of bs else
    with_first_byte b (lines_of bs)
