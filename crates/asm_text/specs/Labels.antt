-- Labels: a letter or `_`, and then letters, digits and `_`.
use Rattle.std.specs.Prelude.{ℕ, Bool, true, false, ◌||◌, ◌&&◌, ◌==◌, nat_le, List, [], ◌∷◌}

-- a letter of either case, or `_`
abbrev pub is_letter : ℕ → Bool
is_letter b = (nat_le 65 b && nat_le b 90) || ((nat_le 97 b && nat_le b 122) || b == 95)

-- the same or a digit
abbrev pub is_letter_or_digit : ℕ → Bool
is_letter_or_digit b = is_letter b || (nat_le 48 b && nat_le b 57)

-- letters, digits and `_`
abbrev pub are_letters_or_digits : List ℕ → Bool
are_letters_or_digits [] = true
are_letters_or_digits (b ∷ bs) = is_letter_or_digit b && are_letters_or_digits bs

-- a letter or `_`, and then letters, digits and `_`
abbrev pub is_label : List ℕ → Bool
is_label [] = false
is_label (b ∷ bs) = is_letter b && are_letters_or_digits bs
