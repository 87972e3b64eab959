-- What a container holds, apart from how it is written down.
use Rattle.std.specs.Prelude.{ℕ, List, [], ◌∷◌, ◌++◌, map, Option, Some, None}
use Rattle.term_table.specs.Tree.{Tree}
use Rattle.proof_container.specs.declared.container.Head.{Head}

-- the version, what names the policy, how many steps the code makes at most, where they are
-- bounded, code as bytes, the invariants with their indices, the lemmas, each a formula and its
-- proof, and the proof, if any
pub record Contents : Type 0 where
  pub version : ℕ
  pub head : Head
  pub bound : Option ℕ
  pub code : List ℕ
  pub invs : List (ℕ × Tree)
  pub lemmas : List (Tree × Tree)
  pub proof : Option Tree

-- the tree alone, if there is one
abbrev pub one_or_none : Option Tree → List Tree
one_or_none None = []
one_or_none (Some t) = t ∷ []

-- each lemma's formula and its proof, in order
abbrev pub lemma_roots : List (Tree × Tree) → List Tree
lemma_roots [] = []
lemma_roots (l ∷ lemmas) = l.0 ∷ l.1 ∷ lemma_roots lemmas

-- the roots: the invariants in order, then each lemma's formula and proof, then the proof
abbrev pub roots : Contents → List Tree
roots c = map (λ p. p.1) c.invs ++ (lemma_roots c.lemmas ++ one_or_none c.proof)
