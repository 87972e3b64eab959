-- Numbers: decimal, with any number of leading zeros, or `0x` and hexadecimal digits of both cases.
use Rattle.std.specs.Prelude.{◌≡◌, ℕ, ◌⊎◌, Bool, true, false, ◌&&◌, ◌==◌, nat_le, nat_lt, if◌then◌else◌, List, [], ◌∷◌, Option, Some, None}
use Rattle.std.specs.Str.Parse.{IsNumeral, digits_value}
use Rattle.std.specs.Char.{digit_value}

-- the lexeme is this number
abbrev pub IsNumber : List ℕ → ℕ → Type 0
IsNumber w n = (IsNumeral 10 w × (n ≡ digits_value 10 w)) ⊎ ((ds : List ℕ) × (w ≡ 48 ∷ 120 ∷ ds) × IsNumeral 16 ds × (n ≡ digits_value 16 ds))

-- ---- the same as a function

-- digits of the radix
abbrev pub are_digits : ℕ → List ℕ → Bool
are_digits radix [] = true
are_digits radix (d ∷ ds) = nat_lt (digit_value d) radix && are_digits radix ds

-- the number of one or more digits
abbrev pub numeral : ℕ → List ℕ → Option ℕ
numeral radix [] = None
numeral radix (d ∷ ds) = if are_digits radix (d ∷ ds) then Some (digits_value radix (d ∷ ds)) else None

-- the number that a lexeme is, by its first two bytes
abbrev pub lexeme_number : List ℕ → Option ℕ
lexeme_number [] = None
lexeme_number (b ∷ []) = numeral 10 (b ∷ [])
lexeme_number (b ∷ d ∷ ds) = if (b == 48) && (d == 120) then numeral 16 ds else numeral 10 (b ∷ d ∷ ds)

-- a decimal digit
abbrev pub is_digit : ℕ → Bool
is_digit b = nat_le 48 b && nat_le b 57

-- whether the first byte is a decimal digit
abbrev pub begins_with_digit : List ℕ → Bool
begins_with_digit [] = false
begins_with_digit (b ∷ bs) = is_digit b
