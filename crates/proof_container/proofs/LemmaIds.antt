-- The lemmas of a container by their ids: how many there are, and that each is a tree of the table.
use Rattle.std.proofs.Common.{◌≡◌, ℕ, zero, suc, ◌<◌, ◌≤◌, true, false, List, [], ◌∷◌, ◌++◌, length, get_or, refl, ap, subst, sym, ◌∙◌, true≢false, arith}
use Rattle.term_table.specs.Tree.{Tree}
use Rattle.term_table.specs.Table.{TableView, tree_at}
use Rattle.lf_lemmas.specs.Tables.{lemmas_in, LemmasBelow}
use Rattle.proof_container.specs.Versions.{has_lemmas, AreLemmasOf}
use Rattle.proof_container.specs.Contents.{lemma_roots}
use Rattle.proof_container.specs.Postorder.{is_emitted, AreEmitted}

-- there are at most 256
pub few_lemmas : {A : Type 0} (v : ℕ) (lemmas : List A) → AreLemmasOf v lemmas → length lemmas ≤ 256
few_lemmas v [] h = omega arith
few_lemmas v (l ∷ lemmas) h = h.1

-- a version with lemmas may have so many
pub so_many_lemmas : {A : Type 0} (v : ℕ) (lemmas : List A) → has_lemmas v ≡ true
    → length lemmas ≤ 256 → AreLemmasOf v lemmas
so_many_lemmas v [] has h = tt
so_many_lemmas v (l ∷ lemmas) has h = (has, h)

-- another version has none
pub no_lemmas : {A : Type 0} (v : ℕ) (lemmas : List A) → has_lemmas v ≡ false
    → AreLemmasOf v lemmas → lemmas ≡ []
no_lemmas v [] other h = refl
no_lemmas v (l ∷ lemmas) other h = absurd (true≢false (sym h.0 ∙ other))

pub length-lemmas_in : (t : TableView) (ids : List (ℕ × ℕ)) → length (lemmas_in t ids) ≡ length ids
length-lemmas_in t [] = refl
length-lemmas_in t (p ∷ ids) = ap suc (length-lemmas_in t ids)

-- the ids are as many as the version may have where what they stand for is
pub of_ids : (t : TableView) (v : ℕ) (ids : List (ℕ × ℕ)) → AreLemmasOf v (lemmas_in t ids)
    → AreLemmasOf v ids
of_ids t v [] h = tt
of_ids t v (p ∷ ids) h =
    (h.0, subst (λ (n : ℕ). n ≤ 256) (length-lemmas_in t (p ∷ ids)) h.1)

pub in_ids : (t : TableView) (v : ℕ) (ids : List (ℕ × ℕ)) → AreLemmasOf v ids
    → AreLemmasOf v (lemmas_in t ids)
in_ids t v [] h = tt
in_ids t v (p ∷ ids) h =
    (h.0, subst (λ (n : ℕ). n ≤ 256) (sym (length-lemmas_in t (p ∷ ids))) h.1)

-- one more
pub below_push : (n : ℕ) (ids : List (ℕ × ℕ)) (p : ℕ × ℕ) → LemmasBelow n ids → p.0 < n → p.1 < n
    → LemmasBelow n (ids ++ p ∷ [])
below_push n [] p h a b = (a, b, tt)
below_push n (q ∷ ids) p h a b = (h.0, h.1, below_push n ids p h.2 a b)

-- both ids of one
pub below_at : (n : ℕ) (ids : List (ℕ × ℕ)) (i : ℕ) (d : ℕ × ℕ) → LemmasBelow n ids → i < length ids
    → ((get_or ids i d).0 < n) × ((get_or ids i d).1 < n)
below_at n [] i d h lt = absurd (omega arith)
below_at n (p ∷ ids) zero d h lt = (h.0, h.1)
below_at n (p ∷ ids) (suc i) d h lt = below_at n ids i d h.2 (omega arith)

-- both trees of one were left
pub left_at : (t : TableView) (es : List Tree) (ids : List (ℕ × ℕ)) (i : ℕ) (d : ℕ × ℕ)
    → AreEmitted es (lemma_roots (lemmas_in t ids)) → i < length ids
    → (is_emitted (tree_at t (get_or ids i d).0) es ≡ true)
    × (is_emitted (tree_at t (get_or ids i d).1) es ≡ true)
left_at t es [] i d h lt = absurd (omega arith)
left_at t es (p ∷ ids) zero d h lt = (h.0, h.1.0)
left_at t es (p ∷ ids) (suc i) d h lt = left_at t es ids i d h.1.1 (omega arith)
