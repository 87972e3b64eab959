-- The search through a slice of lemmas, as the table grows.
use Rattle.std.proofs.Common.{◌≡◌, ℕ, suc, ◌+◌, ◌-◌, ◌≤◌, Bool, true, cond, Option, Some, List, [], ◌∷◌, length, get_or, take, drop, Result, IfOk, sym, ◌∙◌, ap, subst, add-one, arith}
use Rattle.std.proofs.lemmas.List.{take_all}
use Rattle.term_table.specs.Tree.{Tree, Const}
use Rattle.term_table.specs.Table.{TableView, tree_at, Extends}
use Rattle.lf_lemmas.specs.Tables.{lemmas_in, LemmasKnown}
use Rattle.lf_lemmas.specs.Laws.Lawful.{lemmas_stay}
use Rattle.lf_lemma_check.specs.First.{first_failing, lemma_passes}
use Rattle.lf_lemma_check.specs.declared.searches.Asked.{Asked}

-- a slice is its first member and the rest
pub parted : {A : Type 0} (l : List A) (a : A) → 1 ≤ length l → a ≡ get_or l 0 a →
    l ≡ a ∷ take (length l - 1) (drop 1 l)
parted [] a h e = absurd (omega (arith, h))
parted (b ∷ l) a h e = λ i. sym e i ∷ sym (take_all (suc (length l) - 1) l (omega arith)) i

module _ (sig later : Const → Option Tree) (t u : TableView) (asked : Asked) where
  -- the first lemma passes, and the others are searched in a later table
  pub rest_searched : {E : Type 0} (l ids : List (ℕ × ℕ)) (p : ℕ × ℕ) (k : ℕ) (b : Bool)
      (r : Result (Option ℕ) E) → later ≡ sig → Extends t u → l ≡ p ∷ ids → LemmasKnown t l →
      b ≡ lemma_passes sig asked (tree_at t p.0, tree_at t p.1) → b ≡ true →
      IfOk r (λ found. found ≡ first_failing (λ n. lemma_passes later asked) (k + 1) (lemmas_in u ids)) →
      IfOk r (λ found. found ≡ first_failing (λ n. lemma_passes sig asked) k (lemmas_in t l))
  rest_searched l ids p k b r q x parts known is passed searched =
      let stay = lemmas_stay ids t u (subst (LemmasKnown t) parts known).2 x in
      let rest = first_failing (λ n. lemma_passes sig asked) (suc k) (lemmas_in t ids) in
      let same : first_failing (λ n. lemma_passes later asked) (k + 1) (lemmas_in u ids) ≡ rest =
      λ i. first_failing (λ n. lemma_passes (q i) asked) (add-one k i) (stay i) in
      let whole = ap (λ z. first_failing (λ n. lemma_passes sig asked) k (lemmas_in t z)) (sym parts) in
      subst (λ z. IfOk r (λ found. found ≡ z))
      (same ∙ sym (ap (λ b. cond b rest (Some k)) (sym is ∙ passed)) ∙ whole) searched
