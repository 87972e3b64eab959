-- Entries of lists, and the formulas of lemmas.
use Rattle.std.proofs.Common.{◌≡◌, ℕ, zero, suc, ◌<◌, Some, None, List, [], ◌∷◌, ◌++◌, length, take, refl, ◌∙◌, ap, arith}
use Rattle.std.proofs.lemmas.List.{append_assoc, map-append, length-map}
use Rattle.term_table.specs.Tree.{Tree, at}
use Rattle.term_table.proofs.Options.{some_injective}
use Rattle.lf_lemmas.specs.Lemmas.{formulas_of}

-- the entry behind others
pub at_middle : {A : Type 0} (l : List A) (a : A) (r : List A) → at (l ++ a ∷ r) (length l) ≡ Some a
at_middle [] a r = refl
at_middle (b ∷ l) a r = at_middle l a r

-- the first entries of a list are the list's
pub at-take : {A : Type 0} (l : List A) (k n : ℕ) → n < k → at (take k l) n ≡ at l n
at-take l zero n h = absurd (omega (arith, h))
at-take [] (suc k) n h = refl
at-take (a ∷ l) (suc k) zero h = refl
at-take (a ∷ l) (suc k) (suc n) h = at-take l k n (omega (arith, h))

pub at_take : {A : Type 0} (l : List A) (k n : ℕ) (a : A) → at (take k l) n ≡ Some a →
    (n < k) × (at l n ≡ Some a)
at_take l zero n a e = let z : at (take 0 l) n ≡ None = refl in cc (z, e)
at_take [] (suc k) n a e = cc
at_take (b ∷ l) (suc k) zero a e = (omega arith, e)
at_take (b ∷ l) (suc k) (suc n) a e =
    let h = at_take l k n a e in
    let l = h.0 in
    (omega (arith, l), h.1)

pub formulas_length : (lemmas : List (Tree × Tree)) → length (formulas_of lemmas) ≡ length lemmas
formulas_length lemmas = length-map lemmas (λ l. l.0)

pub formulas_below : (lemmas : List (Tree × Tree)) (n : ℕ) (F : Tree) →
    at (formulas_of lemmas) n ≡ Some F → n < length lemmas
formulas_below [] n F e = cc
formulas_below (l ∷ lemmas) zero F e = omega arith
formulas_below (l ∷ lemmas) (suc n) F e = let h = formulas_below lemmas n F e in omega (arith, h)

-- the formulas where one lemma more stands behind
pub formulas_push : (lemmas : List (Tree × Tree)) (F p : Tree) →
    formulas_of (lemmas ++ (F, p) ∷ []) ≡ formulas_of lemmas ++ F ∷ []
formulas_push lemmas F p = map-append (λ l. l.0) lemmas ((F, p) ∷ [])

-- a lemma moves over from those that stand behind
pub formulas_move : (lemmas : List (Tree × Tree)) (F p : Tree) (forms : List Tree) →
    formulas_of (lemmas ++ (F, p) ∷ []) ++ forms ≡ formulas_of lemmas ++ F ∷ forms
formulas_move lemmas F p forms =
    ap (λ z. z ++ forms) (formulas_push lemmas F p)
    ∙ append_assoc (formulas_of lemmas) (F ∷ []) forms

pub lemma_formula : (lemmas : List (Tree × Tree)) (n : ℕ) → n < length lemmas →
    (F : Tree) × (at (formulas_of lemmas) n ≡ Some F)
lemma_formula [] n h = absurd (omega (arith, h))
lemma_formula (l ∷ lemmas) zero h = (l.0, refl)
lemma_formula (l ∷ lemmas) (suc n) h = lemma_formula lemmas n (omega (arith, h))

-- the lemma of a formula
pub lemma_at : (lemmas : List (Tree × Tree)) (n : ℕ) (F : Tree) →
    at (formulas_of lemmas) n ≡ Some F → (l : Tree × Tree) × (at lemmas n ≡ Some l) × (l.0 ≡ F)
lemma_at [] n F e = cc
lemma_at (l ∷ lemmas) zero F e = (l, refl, some_injective e)
lemma_at (l ∷ lemmas) (suc n) F e = lemma_at lemmas n F e

-- the formula of a lemma
pub formula_at : (lemmas : List (Tree × Tree)) (n : ℕ) (l : Tree × Tree) →
    at lemmas n ≡ Some l → at (formulas_of lemmas) n ≡ Some l.0
formula_at [] n l e = cc
formula_at (m ∷ lemmas) zero l e = ap (λ (x : Tree × Tree). Some x.0) (some_injective e)
formula_at (m ∷ lemmas) (suc n) l e = formula_at lemmas n l e
