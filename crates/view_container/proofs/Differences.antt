-- Where other code differs from code.
use Rattle.std.proofs.Common.{◌≡◌, ◌↔◌, ℕ, ◌/◌, Bool, true, false, cond, List, [], ◌∷◌, Some, None, refl, ap}
use Rattle.std.specs.Str.{bytes_eq}
use Rattle.std.proofs.lemmas.Slice.Eq.{bytes_eq-Decides}
use Rattle.view_container.specs.Beside.{common_front, first_other}

-- nothing is in common with no bytes
pub front_none : (code : List ℕ) → common_front code [] ≡ 0
front_none [] = refl
front_none (b ∷ code) = refl

by_test : (t : Bool) (n : ℕ) → cond t None (Some n) ≡ None → t ≡ true
by_test true n e = refl
by_test false n e = absurd cc

-- nothing differs exactly where the other code is this code
pub same_code : (code other : List ℕ) → (first_other code other ≡ None) ↔ (code ≡ other)
same_code code other =
    let decides = bytes_eq-Decides code other in (
      λ none. decides.0 (by_test (bytes_eq code other) (common_front code other / 4) none),
      λ same. ap (λ t. cond t None (Some (common_front code other / 4))) (decides.1 same),
    )
