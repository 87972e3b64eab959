-- What the head of an atomic term becomes when a term is put for a variable: words of the private functions.
use Rattle.std.specs.Prelude.{◌≡◌, ℕ, ◌<◌, ◌≤◌, List, [], ◌∷◌, Option, Some, None}
use Rattle.term_table.specs.Tree.{Tree, apps, IsAtomic}
use Rattle.term_table.specs.Subst.{Simple, erase, walk, reduce, hsub, hsub_type}
use Rattle.term_table.specs.Table.{TableView, IsKnown, tree_at}
use Rattle.hereditary_subst.specs.declared.kept.Atom.{Atom}

-- the head is another than the variable, and the term becomes r
abbrev pub Keeps : Simple → Tree → ℕ → Tree → Tree → Type 0
Keeps s m x t r = (acc : List Tree) → walk (reduce s) m x t acc ≡ Some (apps r acc)

-- the head is the variable, and the term becomes r at the simple type u
abbrev pub Meets : Simple → Tree → ℕ → Tree → Tree → Simple → Type 0
Meets s m x t r u = (acc : List Tree) → walk (reduce s) m x t acc ≡ reduce u r acc

-- the term has no result
abbrev pub Fails : Simple → Tree → ℕ → Tree → Type 0
Fails s m x t = ((z : Tree) (acc : List Tree) → walk (reduce s) m x t (z ∷ acc) ≡ None) × (IsAtomic t → walk (reduce s) m x t [] ≡ None)

-- what the head of an atomic term was, where the term becomes r: the id is that of a type whose erasure is the simple type left
abbrev pub MetIs : TableView → ℕ → Simple → Tree → ℕ → Tree → Tree → Option ℕ → Type 0
MetIs ts ty s m x t r None = Keeps s m x t r
MetIs ts ty s m x t r (Some u) = IsKnown ts u × (u ≤ ty) × Meets s m x t r (erase (tree_at ts u))

-- what an atomic term becomes
abbrev pub HeadIs : ℕ → Simple → Tree → ℕ → Tree → TableView → Option Atom → Type 0
HeadIs ty s m x t ts None = Fails s m x t
HeadIs ty s m x t ts (Some a) = IsKnown ts a.term × MetIs ts ty s m x t (tree_at ts a.term) a.met

-- what g at the simple type u becomes, applied to b and more: it is r at the next simple type
abbrev pub NextIs : TableView → ℕ → Simple → Tree → Tree → Tree → Option ℕ → Type 0
NextIs ts ty u g b r None = ⊥
NextIs ts ty u g b r (Some v) = IsKnown ts v × (v < ty) × ((acc : List Tree) → reduce u g (b ∷ acc) ≡ reduce (erase (tree_at ts v)) r acc)

-- what g at the simple type u becomes, applied to b: the answer
abbrev pub GoesTo : ℕ → Simple → Tree → Tree → TableView → Option Atom → Type 0
GoesTo ty u g b ts None = (acc : List Tree) → reduce u g (b ∷ acc) ≡ None
GoesTo ty u g b ts (Some a) = IsKnown ts a.term × NextIs ts ty u g b (tree_at ts a.term) a.met

-- the term of id with that of m for the variable x, at the simple type of the type ty
abbrev pub put_of : TableView → ℕ → ℕ → ℕ → ℕ → Option Tree
put_of t ty m x id = hsub (erase (tree_at t ty)) (tree_at t m) x (tree_at t id)

-- the same of a type
abbrev pub put_type_of : TableView → ℕ → ℕ → ℕ → ℕ → Option Tree
put_type_of t ty m x id = hsub_type (erase (tree_at t ty)) (tree_at t m) x (tree_at t id)

-- the answer, which speaks of the later table, is what the atomic term of id becomes
abbrev pub HeadPut : TableView → ℕ → ℕ → ℕ → ℕ → TableView → Option Atom → Type 0
HeadPut t ty m x id = HeadIs ty (erase (tree_at t ty)) (tree_at t m) x (tree_at t id)

-- the answer, which speaks of the later table, is what the term of g at the simple type of u becomes, applied to that of b
abbrev pub HeadApplied : TableView → ℕ → ℕ → ℕ → TableView → Option Atom → Type 0
HeadApplied t u g b = GoesTo u (erase (tree_at t u)) (tree_at t g) (tree_at t b)
