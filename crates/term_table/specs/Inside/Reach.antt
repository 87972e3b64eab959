-- How far a node's variables reach, by its parts.
use Rattle.std.specs.Prelude.{ℕ, Bool, true, false, ◌-◌, ◌==◌, if◌then◌else◌}
use Rattle.term_table.specs.declared.Node.{Node}
use Rattle.term_table.specs.declared.Node.TheVariants as N

-- whether the node is that of a variable, a constant or an application
abbrev pub is_atomic_node : Node → Bool
is_atomic_node (N.Var n) = true
is_atomic_node (N.Const n) = true
is_atomic_node (N.Lit w) = true
is_atomic_node (N.Calc o a b) = true
is_atomic_node (N.Fact p a b) = true
is_atomic_node (N.Deny p a b) = true
is_atomic_node (N.Lemma n) = true
is_atomic_node (N.App f a) = true
is_atomic_node (N.Lam b) = false
is_atomic_node (N.Fam a) = false
is_atomic_node (N.TApp p a) = false
is_atomic_node (N.Pi a b) = false

-- whether the node is that of a term
abbrev pub is_term_node : Node → Bool
is_term_node (N.Var n) = true
is_term_node (N.Const n) = true
is_term_node (N.Lit w) = true
is_term_node (N.Calc o a b) = true
is_term_node (N.Fact p a b) = true
is_term_node (N.Deny p a b) = true
is_term_node (N.Lemma n) = true
is_term_node (N.App f a) = true
is_term_node (N.Lam b) = true
is_term_node (N.Fam a) = false
is_term_node (N.TApp p a) = false
is_term_node (N.Pi a b) = false

-- the reach of a body, one binder further out
abbrev pub reach_outside : ℕ → ℕ
reach_outside r = if r == 4294967295 then 4294967295 else r - 1
