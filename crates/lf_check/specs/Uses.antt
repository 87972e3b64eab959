-- Which variables a tree uses, and sets of variables as trees.
use Rattle.std.specs.Prelude.{◌≡◌, ℕ, zero, suc, Bool, true, false, ◌||◌, ◌==◌, List}
use Rattle.term_table.specs.Tree.{Tree, Var, Con, App, Lam, Fam, TApp, Pi, at}
use Rattle.term_table.specs.Table.{TableView, IsKnown, tree_at}

-- whether the variable occurs in the tree
abbrev pub occurs : ℕ → Tree → Bool
occurs i (Var n) = i == n
occurs i (Con c) = false
occurs i (App f a) = occurs i f || occurs i a
occurs i (Lam b) = occurs (suc i) b
occurs i (Fam a) = false
occurs i (TApp p a) = occurs i p || occurs i a
occurs i (Pi a b) = occurs i a || occurs (suc i) b

-- the set without variables
abbrev pub empty : ℕ → Bool
empty i = false

-- the variable g, and those past it whose distance, less one, is in the set
abbrev pub past : ℕ → (ℕ → Bool) → ℕ → Bool
past zero s zero = true
past zero s (suc i) = s i
past (suc g) s zero = false
past (suc g) s (suc i) = past g s i

-- whether the tree is a variable
abbrev pub is_variable : Tree → Bool
is_variable (Var n) = true
is_variable _ = false

-- whether the tree stands for a set with variables
abbrev pub is_set : Tree → Bool
is_set (App v r) = is_variable v
is_set _ = false

-- what is in the set behind the nearest variable, which a tree is
abbrev pub past_of : Tree → (ℕ → Bool) → ℕ → Bool
past_of (Var g) s i = past g s i
past_of _ s i = false

-- whether the variable is in the set that a tree stands for: an application of the nearest variable to
-- the set of the others, counted from behind it
abbrev pub member : Tree → ℕ → Bool
member (App v r) i = past_of v (member r) i
member _ i = false

-- each variable of the one set is in the other
abbrev pub IsSubset : (ℕ → Bool) → (ℕ → Bool) → Type 0
IsSubset s u = (i : ℕ) → s i ≡ true → u i ≡ true

-- the id stands for a set with all variables of both
pub record IsUnion (t : TableView) (one other : ℕ → Bool) (u : ℕ) : Type 0 where
  pub known : IsKnown t u
  pub has_one : IsSubset one (member (tree_at t u))
  pub has_other : IsSubset other (member (tree_at t u))

-- the set has each variable that occurs in the tree
abbrev pub Covers : Tree → Tree → Type 0
Covers s m = (i : ℕ) → occurs i m ≡ true → member s i ≡ true

-- the two contexts give each variable of the set the same type, or both none
abbrev pub AgreeOn : (ℕ → Bool) → List Tree → List Tree → Type 0
AgreeOn s ctx other = (i : ℕ) → s i ≡ true → at ctx i ≡ at other i
