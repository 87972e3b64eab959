-- Whether a tree of two lists is too high.
use Rattle.std.proofs.Common.{◌≡◌, Bool, true, false, cond, List, [], ◌∷◌, ◌++◌, refl, Option, Some}
use Rattle.std.specs.Prelude.{ℕ, nat_lt, is_some}
use Rattle.term_table.specs.Tree.{Tree}
use Rattle.term_table.specs.Measures.{height_of}
use Rattle.vcgen.specs.declared.condition.TheConstants.{MAX_HEIGHT}
use Rattle.pcc_gate.specs.First.{too_high}

found-first : (b : Bool) (h : ℕ) (o p : Option ℕ) → is_some (cond b (Some h) o) ≡ true
    → (is_some o ≡ true → is_some p ≡ true) → is_some (cond b (Some h) p) ≡ true
found-first true h o p e next = refl
found-first false h o p e next = next e

none-first : (b : Bool) (h : ℕ) (o p : Option ℕ) (c : Bool) → is_some (cond b (Some h) o) ≡ false
    → (is_some o ≡ false → is_some p ≡ c) → is_some (cond b (Some h) p) ≡ c
none-first true h o p c e next = absurd cc
none-first false h o p c e next = next e

-- one of the first is
pub high-first : (xs ys : List Tree) → is_some (too_high xs) ≡ true
    → is_some (too_high (xs ++ ys)) ≡ true
high-first [] ys e = absurd cc
high-first (x ∷ xs) ys e =
    found-first (nat_lt MAX_HEIGHT (height_of x)) (height_of x) (too_high xs) (too_high (xs ++ ys))
    e (high-first xs ys)

-- none of the first is
pub high-later : (xs ys : List Tree) (c : Bool) → is_some (too_high xs) ≡ false
    → is_some (too_high ys) ≡ c → is_some (too_high (xs ++ ys)) ≡ c
high-later [] ys c e h = h
high-later (x ∷ xs) ys c e h =
    none-first (nat_lt MAX_HEIGHT (height_of x)) (height_of x) (too_high xs) (too_high (xs ++ ys))
    c e (λ f. high-later xs ys c f h)
