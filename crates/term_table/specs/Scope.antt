-- How far the variables of a tree reach, and which trees are canonical.
use Rattle.std.specs.Prelude.{◌≡◌, ℕ, suc, ◌<◌, ◌≤◌, Bool, true, false, ◌&&◌, not, nat_lt}
use Rattle.term_table.specs.Tree.{Tree, Var, Con, App, Lam, Fam, TApp, Pi}

-- whether each variable is bound, or among the n next outside
abbrev pub is_over : ℕ → Tree → Bool
is_over n (Var k) = nat_lt k n
is_over n (Con c) = true
is_over n (App f a) = is_over n f && is_over n a
is_over n (Lam b) = is_over (suc n) b
is_over n (Fam a) = true
is_over n (TApp p a) = is_over n p && is_over n a
is_over n (Pi a b) = is_over n a && is_over (suc n) b

-- whether the tree is a variable, a constant or an application
abbrev pub is_atomic_shape : Tree → Bool
is_atomic_shape (Var n) = true
is_atomic_shape (Con c) = true
is_atomic_shape (App f a) = true
is_atomic_shape (Lam b) = false
is_atomic_shape (Fam a) = false
is_atomic_shape (TApp p a) = false
is_atomic_shape (Pi a b) = false

-- whether it is one of these, or an abstraction
abbrev pub is_term_shape : Tree → Bool
is_term_shape (Var n) = true
is_term_shape (Con c) = true
is_term_shape (App f a) = true
is_term_shape (Lam b) = true
is_term_shape (Fam a) = false
is_term_shape (TApp p a) = false
is_term_shape (Pi a b) = false

-- whether the tree is a canonical term or type each of whose variables is bound, or among the n next outside
abbrev pub is_scoped : ℕ → Tree → Bool
is_scoped n (Var k) = nat_lt k n
is_scoped n (Con c) = true
is_scoped n (App f a) = (is_atomic_shape f && is_term_shape a) && (is_scoped n f && is_scoped n a)
is_scoped n (Lam b) = is_term_shape b && is_scoped (suc n) b
is_scoped n (Fam a) = true
is_scoped n (TApp p a) = (not (is_term_shape p) && is_term_shape a) && (is_scoped n p && is_scoped n a)
is_scoped n (Pi a b) = (not (is_term_shape a) && not (is_term_shape b)) && (is_scoped n a && is_scoped (suc n) b)

-- the tree is scoped from this number on; 4,294,967,295 says nothing
abbrev pub HasReach : ℕ → Tree → Type 0
HasReach r t = r < 4294967295 → (n : ℕ) → r ≤ n → is_scoped n t ≡ true
