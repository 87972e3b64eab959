-- Names that a formula may bind, and the names that are bound.
use Rattle.std.specs.Prelude.{ℕ, suc, Bool, true, false, not, ◌||◌, ◌&&◌, nat_le, is_some, if◌then◌else◌, List, [], ◌∷◌, codes, Option, Some, None}
use Rattle.std.specs.Str.{bytes_eq}
use Rattle.std.specs.Option.{option_map}
use Rattle.word_ops.specs.declared.Profile.{Profile}
use Rattle.text_tokens.specs.Registers.{register_of}
use Rattle.text_tokens.specs.Numbers.{is_digit}
use Rattle.formula_text.specs.declared.keywords.PhraseSort.{PhraseSort}
use Rattle.formula_text.specs.Keywords.{keyword_of}

-- a lower-case letter
abbrev pub is_lower : ℕ → Bool
is_lower b = nat_le 97 b && nat_le b 122

-- lower-case letters and decimal digits
abbrev pub are_lower_or_digits : List ℕ → Bool
are_lower_or_digits [] = true
are_lower_or_digits (b ∷ bs) = (is_lower b || is_digit b) && are_lower_or_digits bs

-- a lower-case letter, and then lower-case letters and digits
abbrev pub is_identifier : List ℕ → Bool
is_identifier [] = false
is_identifier (b ∷ bs) = is_lower b && are_lower_or_digits bs

-- the name of the steps that are left, where the flag allows it
abbrev pub is_left : Bool → List ℕ → Bool
is_left left w = bytes_eq w (codes "left") && left

-- a keyword of the profile, `tt`, `ff` or `m`, or the name of the steps that are left
abbrev pub is_reserved : Profile → Bool → List ℕ → Bool
is_reserved profile left w =
    is_some (keyword_of profile w) || (bytes_eq w (codes "tt")
    || (bytes_eq w (codes "ff") || (bytes_eq w (codes "m") || is_left left w)))

-- a name that may be bound: an identifier that names no register and isn't reserved
unfoldable pub is_name : Profile → Bool → List ℕ → Bool
is_name profile left w =
    is_identifier w && (not (is_some (register_of w)) && not (is_reserved profile left w))

-- the names that are bound and what they stand for, the nearest binder first
abbrev pub Bindings : Type 0
Bindings = List (List ℕ × PhraseSort)

-- the nearest binding of the name: its number and sort; it hides those outside
abbrev pub nearest_binding : Bindings → List ℕ → Option (ℕ × PhraseSort)
nearest_binding [] x = None
nearest_binding (b ∷ bs) x = if bytes_eq b.0 x then Some (0, b.1) else option_map (λ p. (suc p.0, p.1)) (nearest_binding bs x)
