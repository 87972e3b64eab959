-- Integers: decimal with an optional `-`, or `0x` and hexadecimal digits.
use Rattle.std.specs.Prelude.{◌≡◌, ℕ, ◌⊎◌, Bool, true, false, ◌==◌, is_some, if◌then◌else◌, List, [], ◌∷◌, Option, None, ℤ, pos, neg_ℤ}
use Rattle.std.specs.Option.{option_map}
use Rattle.std.specs.Str.Parse.{IsNumeral, digits_value}
use Rattle.text_tokens.specs.Numbers.{IsNumber, numeral, lexeme_number}

-- whether there is a `-`, and how far from 0
abbrev pub Integer : Type 0
Integer = Bool × ℕ

-- the lexeme is this integer; the `-` stands before decimal digits alone
abbrev pub IsInteger : List ℕ → Integer → Type 0
IsInteger w z = ((z.0 ≡ false) × IsNumber w z.1) ⊎ ((ds : List ℕ) × (w ≡ 45 ∷ ds) × IsNumeral 10 ds × (z.0 ≡ true) × (z.1 ≡ digits_value 10 ds))

-- the integer that a lexeme is
abbrev pub lexeme_integer : List ℕ → Option Integer
lexeme_integer [] = None
lexeme_integer (b ∷ bs) = if b == 45 then option_map (λ n. (true, n)) (numeral 10 bs) else option_map (λ n. (false, n)) (lexeme_number (b ∷ bs))

-- whether a lexeme is an integer
abbrev pub is_integer : List ℕ → Bool
is_integer w = is_some (lexeme_integer w)

-- the number that it is
abbrev pub integer_value : Integer → ℤ
integer_value z = if z.0 then neg_ℤ (pos z.1) else pos z.1
