-- Sequents over a table.
use Rattle.std.specs.Prelude.{Option, List, [], ◌∷◌}
use Rattle.term_table.specs.Tree.{Tree, Const}
use Rattle.term_table.specs.Table.{TableView, IsKnown, AllKnown, tree_at, ctx_of}
use Rattle.lf_signature.specs.Terms.{pf}
use Rattle.lf_signature.specs.Typing.{Checks}
use Rattle.lf_sequents.specs.declared.sequent.Sequent.{Sequent}

-- the sequent's ids are of the table
pub record IsOfTable (t : TableView) (s : Sequent) : Type 0 where
  pub hyps : AllKnown t s.hyps.items
  pub goal : IsKnown t s.goal
  pub term : IsKnown t s.term

-- each one's
abbrev pub AreOfTable : TableView → List Sequent → Type 0
AreOfTable t [] = Unit {0}
AreOfTable t (s ∷ l) = IsOfTable t s × AreOfTable t l

-- in the table, over the signature, the term is a proof of the goal under the hypotheses, types whose nearest stands last
pub record IsSequent (sig : Const → Option Tree) (t : TableView) (s : Sequent) : Type 0 where
  pub placed : IsOfTable t s
  pub proves : Checks sig (ctx_of t s.hyps.items) (tree_at t s.term) (pf (tree_at t s.goal))

-- each is one
abbrev pub AreSequents : (Const → Option Tree) → TableView → List Sequent → Type 0
AreSequents sig t [] = Unit {0}
AreSequents sig t (s ∷ l) = IsSequent sig t s × AreSequents sig t l
