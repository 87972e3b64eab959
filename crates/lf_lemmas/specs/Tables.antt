-- Lemmas by the ids of a table.
use Rattle.std.specs.Prelude.{ℕ, ◌<◌, Option, List, [], ◌∷◌, length, map}
use Rattle.term_table.specs.Tree.{Tree, Const}
use Rattle.term_table.specs.Table.{TableView, tree_at}
use Rattle.lf_lemmas.specs.Lemmas.{formulas_of, HasNoLemmas, AreFormulas}
use Rattle.lf_lemmas.specs.Checking.{LemmasCheck}

-- the lemmas whose formulas and proofs the ids stand for
abbrev pub lemmas_in : TableView → List (ℕ × ℕ) → List (Tree × Tree)
lemmas_in t ids = map (λ p. (tree_at t p.0, tree_at t p.1)) ids

-- each formula and each proof is below the number
abbrev pub LemmasBelow : ℕ → List (ℕ × ℕ) → Type 0
LemmasBelow n [] = Unit {0}
LemmasBelow n (p ∷ ids) = (p.0 < n) × (p.1 < n) × LemmasBelow n ids

-- each is a tree of the table
abbrev pub LemmasKnown : TableView → List (ℕ × ℕ) → Type 0
LemmasKnown t ids = LemmasBelow (length t.trees) ids

-- the table has the lemmas' trees, and they can be added to the signature: it has none of its own,
-- and each formula is one; of their proofs nothing is said
pub record HoldsLemmas (sig : Const → Option Tree) (t : TableView) (ids : List (ℕ × ℕ))
    : Type 0 where
  pub known : LemmasKnown t ids
  pub free : HasNoLemmas sig
  pub formulas : AreFormulas sig (formulas_of (lemmas_in t ids))

-- besides, each lemma's proof checks with the lemmas before it
pub record HoldsProvedLemmas (sig : Const → Option Tree) (t : TableView) (ids : List (ℕ × ℕ))
    : Type 0 where
  pub lemmas : HoldsLemmas sig t ids
  pub proved : LemmasCheck sig (lemmas_in t ids)
