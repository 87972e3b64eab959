-- A context as a tree: a node for each type, the nearest outermost.
use Rattle.std.specs.Prelude.{◌≡◌, ℕ, Option, List, [], ◌∷◌}
use Rattle.term_table.specs.Tree.{Tree, Const, Var, Con, App, Lam, Fam, TApp, Pi}
use Rattle.term_table.specs.Table.{TableView, IsKnown, tree_at}
use Rattle.lf_signature.specs.Decide.{synth_of, checks_of, is_type_of}

-- the types of a context that a tree is, the nearest first
abbrev pub types_of : Tree → List Tree
types_of (TApp p a) = a ∷ types_of p
types_of (Var n) = []
types_of (Con c) = []
types_of (App f a) = []
types_of (Lam b) = []
types_of (Fam a) = []
types_of (Pi a b) = []

-- in this other context the tree is judged as in the one
pub record IsPart (m : Tree) (ctx part : List Tree) : Type 0 where
  pub synth : (sig : Const → Option Tree) → synth_of sig m part ≡ synth_of sig m ctx
  pub checks : (sig : Const → Option Tree) (a : Tree) → checks_of sig m part a ≡ checks_of sig m ctx a
  pub formed : (sig : Const → Option Tree) → is_type_of sig m part ≡ is_type_of sig m ctx

-- the id stands for a context of these types
abbrev pub IsContextId : TableView → List Tree → ℕ → Type 0
IsContextId t ctx c = IsKnown t c × (types_of (tree_at t c) ≡ ctx)
