-- The names of registers: `$` or `r` and the number without leading zeros, or the name of the calling standard.
-- Alpha Architecture Handbook, "Integer Registers"; the other names are those of the OSF/1 calling standard.
use Rattle.std.specs.Prelude.{◌≡◌, ℕ, suc, ◌⊎◌, Bool, ◌||◌, if◌then◌else◌, List, [], ◌∷◌, codes, slice_get, Option, Some, None}
use Rattle.std.specs.Str.{bytes_eq}

-- the decimal number and the other name of each register, from register 0 on
unfoldable pub registers : List (List ℕ × List ℕ)
registers =
    (codes "0", codes "v0") ∷ (codes "1", codes "t0") ∷ (codes "2", codes "t1") ∷ (codes "3", codes "t2") ∷
    (codes "4", codes "t3") ∷ (codes "5", codes "t4") ∷ (codes "6", codes "t5") ∷ (codes "7", codes "t6") ∷
    (codes "8", codes "t7") ∷ (codes "9", codes "s0") ∷ (codes "10", codes "s1") ∷ (codes "11", codes "s2") ∷
    (codes "12", codes "s3") ∷ (codes "13", codes "s4") ∷ (codes "14", codes "s5") ∷ (codes "15", codes "s6") ∷
    (codes "16", codes "a0") ∷ (codes "17", codes "a1") ∷ (codes "18", codes "a2") ∷ (codes "19", codes "a3") ∷
    (codes "20", codes "a4") ∷ (codes "21", codes "a5") ∷ (codes "22", codes "t8") ∷ (codes "23", codes "t9") ∷
    (codes "24", codes "t10") ∷ (codes "25", codes "t11") ∷ (codes "26", codes "ra") ∷ (codes "27", codes "t12") ∷
    (codes "28", codes "at") ∷ (codes "29", codes "gp") ∷ (codes "30", codes "sp") ∷ (codes "31", codes "zero") ∷ []

-- the row names the register so: `$` or `r` before the number, or the other name
abbrev pub IsNamed : List ℕ × List ℕ → List ℕ → Type 0
IsNamed row w = (w ≡ 36 ∷ row.0) ⊎ ((w ≡ 114 ∷ row.0) ⊎ (w ≡ row.1))

-- the lexeme is a name of register r
abbrev pub IsRegister : ℕ → List ℕ → Type 0
IsRegister r w = (row : List ℕ × List ℕ) × (slice_get registers r ≡ Some row) × IsNamed row w

-- ---- the same as a function

-- whether the lexeme is one of the names in the row
abbrev pub is_named : List ℕ × List ℕ → List ℕ → Bool
is_named row w = bytes_eq w (36 ∷ row.0) || (bytes_eq w (114 ∷ row.0) || bytes_eq w row.1)

-- the number of the first of these rows, counted from r, that names the register so
abbrev pub register_in : List (List ℕ × List ℕ) → ℕ → List ℕ → Option ℕ
register_in [] r w = None
register_in (row ∷ rows) r w = if is_named row w then Some r else register_in rows (suc r) w

-- the register that the lexeme names
unfoldable pub register_of : List ℕ → Option ℕ
register_of w = register_in registers 0 w
