-- Marks that are the flags of annotated indices say which index has an invariant.
use Rattle.std.proofs.Common.{◌≡◌, ℕ, zero, suc, ◌<◌, inl, inr, Bool, true, false, List, [], ◌∷◌, map, length, get_or, Contains, is_some, refl, sym, arith, eqb}
use Rattle.std.specs.Prelude.{slice_index_or}
use Rattle.std.proofs.lemmas.Bool.{cases_Bool, eq-eqb, eqb-true, false≢true}
use Rattle.alpha_cfg.specs.Cuts.{AreFlags}
use Rattle.formula_tree.specs.Formulas.{Form}
use Rattle.vcgen.specs.Conditions.{invariant_at}

-- an index with an invariant is listed
listed : (ps : List (ℕ × Form)) (i : ℕ) → is_some (invariant_at ps i) ≡ true → Contains (map (λ p. p.0) ps) i
listed [] i h = absurd (false≢true h)
listed (p ∷ ps) i h =
    elim (cases_Bool (eqb p.0 i)) [
      | inl e ↦ (zero, omega arith, eqb-true p.0 i e)
      | inr e ↦ let later = listed ps i (rw e at h) in (suc later.0, omega (arith, later.1), later.2)
    ]

-- a listed index has one
has-one : (ps : List (ℕ × Form)) (i k : ℕ) → k < length (map (λ p. p.0) ps) → get_or (map (λ p. p.0) ps) k i ≡ i → is_some (invariant_at ps i) ≡ true
has-one [] i k lt h = absurd (omega (arith, lt))
has-one (p ∷ ps) i zero lt h = rw (eq-eqb p.0 i h) refl
has-one (p ∷ ps) i (suc k) lt h =
    elim (cases_Bool (eqb p.0 i)) [ inl e ↦ rw e refl | inr e ↦ rw e (has-one ps i k (omega (arith, lt)) h) ]

-- tests that are true in the same cases are the same
same-test : (a b : Bool) → (a ≡ true → b ≡ true) → (b ≡ true → a ≡ true) → a ≡ b
same-test true b f g = sym (f refl)
same-test false true f g = g refl
same-test false false f g = refl

pub marked-is : (ps : List (ℕ × Form)) (count : ℕ) (marks : List Bool) → AreFlags (map (λ p. p.0) ps) count marks
    → (i : ℕ) → is_some (invariant_at ps i) ≡ slice_index_or marks i false
marked-is ps count marks flags i =
    same-test (is_some (invariant_at ps i)) (slice_index_or marks i false)
    (λ h. (flags.exact i).1 (listed ps i h))
    (λ h. let has = (flags.exact i).0 h in has-one ps i has.0 has.1 has.2)
