-- Numbers and bytes in hexadecimal.
use Rattle.std.specs.List.{flat_map}
use Rattle.std.specs.Prelude.{ℕ, zero, suc, ◌+◌, ◌/◌, ◌%◌, nat_lt, if◌then◌else◌, List, [], ◌∷◌, ◌++◌}

-- a lower-case hexadecimal digit
abbrev pub hex_digit : ℕ → ℕ
hex_digit d = if nat_lt d 10 then 48 + d else 87 + d

-- the n last hexadecimal digits of a number
unfoldable pub hex_digits : ℕ → ℕ → List ℕ
hex_digits zero a = []
hex_digits (suc n) a = hex_digits n (a / 16) ++ hex_digit (a % 16) ∷ []

-- two digits for each byte
abbrev pub hex_bytes : List ℕ → List ℕ
hex_bytes bytes = flat_map (hex_digits 2) bytes
