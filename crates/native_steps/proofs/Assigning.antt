-- Places stay lawful as Alpha registers are assigned.
use Rattle.std.proofs.Common.{◌≡◌, ◌≢◌, ℕ, ◌<◌, Bool, true, false, not, length, set, refl, sym, ap, ◌∙◌, arith, inl, inr, length-set}
use Rattle.std.proofs.lemmas.Bool.{cases_eq, cases_lt, and_parts, eq-eqb}
use Rattle.std.proofs.lemmas.List.{get_or-set_same, get_or-set_other, get_or_past, get_or-replicate}
use Rattle.std.proofs.lemmas.List.Elements.{Contains-get_or}
use Rattle.std.proofs.lemmas.List.Folds.{list_any-from_Any}
use Rattle.native_steps.specs.declared.places.Place.{Place}
use Rattle.native_steps.specs.declared.places.Place.TheVariants.{Register, Slot, Nowhere}
use Rattle.native_steps.specs.Places.{Places, ArePlaces, place_at, is_free, is_in, is_taken, may_have, unplaced}

no-place : (r : ℕ) → place_at unplaced r ≡ Nowhere
no-place r = elim (cases_lt r 31) [ inl h ↦ get_or-replicate 31 r Nowhere Nowhere h | inr h ↦ get_or_past unplaced r Nowhere h ]

apart : (q : ℕ) (place : Place) → place ≡ Nowhere → place ≡ Register q → ⊥
apart q place n e = let wrong : Register q ≡ Nowhere = sym e ∙ n in cc

pub none-lawful : ArePlaces unplaced
none-lawful = record {
  count = refl;
  free = λ r q e. absurd (apart q (place_at unplaced r) (no-place r) e);
  apart = λ r k q e f. absurd (apart q (place_at unplaced r) (no-place r) e);
}

same-register : (x y : ℕ) → Register x ≡ Register y → x ≡ y
same-register x y e = cc

is-false : (b : Bool) → not b ≡ true → b ≡ false
is-false true e = cc
is-false false e = refl

-- no Alpha register is where none is
untaken : (p : Places) (k q : ℕ) → is_taken p q ≡ false → place_at p k ≡ Register q → ⊥
untaken p k q free e = elim (cases_lt k (length p)) [
  | inl h ↦
      let c = Contains-get_or p k Nowhere h in
      let test : is_in (place_at p k) q ≡ true = ap (λ o. is_in o q) e ∙ eq-eqb q q refl in
      let taken : is_taken p q ≡ true = list_any-from_Any (λ place. is_in place q) p (c.0, place_at p k, c.1, c.2, test) in
      let wrong : true ≡ false = sym taken ∙ free in cc
  | inr h ↦ apart q (place_at p k) (get_or_past p k Nowhere h) e
]

-- the place may be an Alpha register's
abbrev pub MayBe : Places → Place → Type 0
MayBe p (Register q) = may_have p q ≡ true
MayBe p _ = Unit {0}

-- it is free, if it is a register of the processor
place-free : (p : Places) (q : ℕ) (place : Place) → MayBe p place → place ≡ Register q → is_free q ≡ true
place-free p q (Register j) may e =
    ap is_free (sym (same-register j q e)) ∙ (and_parts (is_free j) (not (is_taken p j)) may).0
place-free p q Slot may e = let wrong : Slot ≡ Register q = e in cc
place-free p q Nowhere may e = let wrong : Nowhere ≡ Register q = e in cc

-- and no Alpha register has it
place-untaken : (p : Places) (q : ℕ) (place : Place) → MayBe p place → place ≡ Register q → is_taken p q ≡ false
place-untaken p q (Register j) may e =
    ap (is_taken p) (sym (same-register j q e)) ∙ is-false (is_taken p j) (and_parts (is_free j) (not (is_taken p j)) may).1
place-untaken p q Slot may e = let wrong : Slot ≡ Register q = e in cc
place-untaken p q Nowhere may e = let wrong : Nowhere ≡ Register q = e in cc

module _ (p : Places) (r : ℕ) (place : Place) (places : ArePlaces p) (low : r < 31) (may : MayBe p place) where
  abbrev after : Places
  after = set p r place

  at-this : (k : ℕ) → k ≡ r → place_at after k ≡ place
  at-this k same = ap (place_at after) same ∙ get_or-set_same p r place Nowhere (let n = places.count in omega (arith, n, low))

  at-other : (k : ℕ) → k ≢ r → place_at after k ≡ place_at p k
  at-other k n = get_or-set_other p r k place Nowhere n

  -- no other is where r is
  alone : (k m q : ℕ) → k ≡ r → m ≢ r → place_at after k ≡ Register q → place_at after m ≡ Register q → ⊥
  alone k m q same n e f = untaken p m q (place-untaken p q place may (sym (at-this k same) ∙ e)) (sym (at-other m n) ∙ f)

  pub assigned-lawful : ArePlaces after
  assigned-lawful = record {
    count = length-set p r place ∙ places.count;
    free = λ k q e. elim (cases_eq k r) [
      | inl same ↦ place-free p q place may (sym (at-this k same) ∙ e)
      | inr n ↦ places.free k q (sym (at-other k n) ∙ e)
    ];
    apart = λ k m q e f. elim (cases_eq k r) [
      | inl same ↦ elim (cases_eq m r) [ inl too ↦ same ∙ sym too | inr n ↦ absurd (alone k m q same n e f) ]
      | inr n ↦ elim (cases_eq m r) [
        | inl too ↦ absurd (alone m k q too n f e)
        | inr o ↦ places.apart k m q (sym (at-other k n) ∙ e) (sym (at-other m o) ∙ f)
      ]
    ];
  }
