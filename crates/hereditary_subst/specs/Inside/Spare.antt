-- What can be said of a substitution for a variable that doesn't occur: words of the private functions.
use Rattle.std.specs.Prelude.{◌≡◌, ℕ, zero, suc, true, Option, Some, None}
use Rattle.term_table.specs.Tree.{Tree, shift, fits}
use Rattle.term_table.specs.Measures.{height_of}
use Rattle.term_table.specs.Scope.{is_scoped}
use Rattle.term_table.specs.Table.{TableView, IsKnown, tree_at}

-- the tree can be raised so many times
abbrev pub CanRaise : ℕ → Tree → Type 0
CanRaise zero m = Unit {0}
CanRaise (suc n) m = (fits (shift 1 0 m) ≡ true) × CanRaise n (shift 1 0 m)

-- r is canonical, and m can be raised as often as r is high
pub record IsLowerable (m r : Tree) : Type 0 where
  pub scope : ℕ
  pub within : is_scoped scope r ≡ true
  pub raises : CanRaise (height_of r) m

-- the id, if there is one, stands for a canonical tree that becomes t where one more binder stands outside the x nearest, and m can be raised in it
abbrev pub Spares : TableView → Tree → ℕ → Tree → Option ℕ → Type 0
Spares ts m x t None = Unit {0}
Spares ts m x t (Some r) = IsKnown ts r × (shift 1 x (tree_at ts r) ≡ t) × IsLowerable m (tree_at ts r)
