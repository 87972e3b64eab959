-- Members of a list with one replaced.
use Rattle.std.proofs.Common.{◌≡◌, ◌≢◌, ℕ, zero, suc, ◌==◌, Bool, true, false, List, [], ◌∷◌, slice_get, Option, Some, refl, sym, ◌∙◌, ap, subst}
use Rattle.std.proofs.Common.{eqb-true, eq-eqb, true≢false}
use Rattle.std.proofs.lemmas.Option.{none-some, same_Some}
use Rattle.std.specs.Prelude.{slice_set}

-- the member that is replaced
pub set_at : {A : Type 0} (xs : List A) (i : ℕ) (v x : A) → slice_get xs i ≡ Some x → slice_get (slice_set xs i v) i ≡ Some v
set_at [] i v x e = absurd (none-some x e)
set_at (y ∷ xs) zero v x e = refl
set_at (y ∷ xs) (suc i) v x e = set_at xs i v x e

-- each other stays
pub set_other : {A : Type 0} (xs : List A) (i j : ℕ) (v : A) → j ≢ i → slice_get (slice_set xs i v) j ≡ slice_get xs j
set_other [] i j v apart = refl
set_other (y ∷ xs) zero zero v apart = absurd (apart refl)
set_other (y ∷ xs) zero (suc j) v apart = refl
set_other (y ∷ xs) (suc i) zero v apart = refl
set_other (y ∷ xs) (suc i) (suc j) v apart = set_other xs i j v (λ e. apart (ap suc e))

-- lists with the same members are the same
pub same_members : {A : Type 0} (xs ys : List A) → ((i : ℕ) → slice_get xs i ≡ slice_get ys i) → xs ≡ ys
same_members [] [] same = refl
same_members [] (y ∷ ys) same = absurd (none-some y (same 0))
same_members (x ∷ xs) [] same = absurd (none-some x (sym (same 0)))
same_members (x ∷ xs) (y ∷ ys) same =
    ap (λ z. z ∷ xs) (same_Some x y (same 0)) ∙ ap (λ zs. y ∷ zs) (same_members xs ys (λ i. same (suc i)))

-- of two lists, each with one replaced at the same place
module _ {A : Type 0} (P : ℕ → Option A → Option A → Type 0) (xs ys : List A) (a : ℕ) (v w : A) where
  both-at : (i : ℕ) (same : Bool) → (i == a) ≡ same → (x y : A) → slice_get xs a ≡ Some x → slice_get ys a ≡ Some y → P a (Some v) (Some w) →
      ((j : ℕ) → j ≢ a → P j (slice_get xs j) (slice_get ys j)) → P i (slice_get (slice_set xs a v) i) (slice_get (slice_set ys a w) i)
  both-at i true e x y is_x is_y there others =
      subst (λ k. P k (slice_get (slice_set xs a v) k) (slice_get (slice_set ys a w) k)) (sym (eqb-true i a e))
      (subst (λ (o : Option A). P a o (slice_get (slice_set ys a w) a)) (sym (set_at xs a v x is_x))
      (subst (λ (o : Option A). P a (Some v) o) (sym (set_at ys a w y is_y)) there))
  both-at i false e x y is_x is_y there others =
      let apart : i ≢ a = λ it. true≢false (sym (eq-eqb i a it) ∙ e) in
      subst (λ (o : Option A). P i o (slice_get (slice_set ys a w) i)) (sym (set_other xs a i v apart))
      (subst (λ (o : Option A). P i (slice_get xs i) o) (sym (set_other ys a i w apart)) (others i apart))

  pub set_both : (x y : A) → slice_get xs a ≡ Some x → slice_get ys a ≡ Some y → P a (Some v) (Some w) →
      ((j : ℕ) → j ≢ a → P j (slice_get xs j) (slice_get ys j)) → (i : ℕ) → P i (slice_get (slice_set xs a v) i) (slice_get (slice_set ys a w) i)
  set_both x y is_x is_y there others i = both-at i (i == a) refl x y is_x is_y there others
