-- How a table keeps its trees: a list of entries, each with its node and measures, and an index from nodes to ids.
use Rattle.std.specs.Prelude.{◌≡◌, ℕ, ◌-◌, ◌^◌, ◌<◌, List, [], ◌∷◌, ◌++◌, length, get_or, Option, Some}
use Rattle.term_table.specs.Tree.{Tree}
use Rattle.term_table.specs.Measures.{height_of, weight_of, arguments, head_parameters, capped}
use Rattle.term_table.specs.Table.{tree_in, node_tree_in, PartsBelow, AreDifferent}
use Rattle.term_table.specs.Scope.{HasReach, is_atomic_shape, is_term_shape}
use Rattle.term_table.specs.Inside.Reach.{is_atomic_node, is_term_node}
use Rattle.term_table.specs.declared.Node.{Node}
use Rattle.term_table.specs.declared.Node.TheVariants as N
use Rattle.term_table.specs.declared.Entry.{Entry}

-- the trees of entries, those of the earlier entries being ts
abbrev pub grow : List Tree → List Entry → List Tree
grow ts [] = ts
grow ts (e ∷ es) = grow (ts ++ node_tree_in ts e.node ∷ []) es

-- the trees of entries
abbrev pub entry_trees : List Entry → List Tree
entry_trees es = grow [] es

-- the entry has the tree's measures, and how many of its head's parameter places are left
pub record IsMeasured (places : List ℕ) (t : Tree) (e : Entry) : Type 0 where
  pub height : e.height ≡ capped (height_of t)
  pub weight : e.weight ≡ capped (weight_of places t)
  pub left : e.left ≡ head_parameters places t - arguments t
  pub atom : is_atomic_node e.node ≡ is_atomic_shape t
  pub term : is_term_node e.node ≡ is_term_shape t
  pub reach : HasReach e.reach t

-- the numbers of a node's own
abbrev pub IsSmallNode : Node → Type 0
IsSmallNode (N.Var n) = n < 2 ^ 32
IsSmallNode (N.Const n) = n < 2 ^ 32
IsSmallNode (N.Lit w) = w < 2 ^ 64
IsSmallNode (N.Calc o a b) = (o < 2 ^ 32) × (a < 2 ^ 64) × (b < 2 ^ 64)
IsSmallNode (N.Fact p a b) = (p < 2 ^ 32) × (a < 2 ^ 64) × (b < 2 ^ 64)
IsSmallNode (N.Deny p a b) = (p < 2 ^ 32) × (a < 2 ^ 64) × (b < 2 ^ 64)
IsSmallNode (N.Lemma n) = n < 2 ^ 32
IsSmallNode (N.App f a) = Unit {0}
IsSmallNode (N.Lam b) = Unit {0}
IsSmallNode (N.Fam a) = a < 2 ^ 32
IsSmallNode (N.TApp p a) = Unit {0}
IsSmallNode (N.Pi a b) = Unit {0}

-- each entry has its tree's measures
pub record AreMeasured (places : List ℕ) (es : List Entry) : Type 0 where
  pub at : (i : ℕ) (e : Entry) → i < length es → IsMeasured places (tree_in (entry_trees es) i) (get_or es i e)

-- parts come before what they are parts of, no tree comes twice, the measures are right, and the index has each node with its id and no other
pub record AreEntries (places : List ℕ) (es : List Entry) (index : Node → Option ℕ) : Type 0 where
  pub parts : (i : ℕ) (e : Entry) → i < length es → PartsBelow i (get_or es i e).node
  pub small : (i : ℕ) (e : Entry) → i < length es → IsSmallNode (get_or es i e).node
  pub different : AreDifferent (entry_trees es)
  pub measured : AreMeasured places es
  pub listed : (i : ℕ) (e : Entry) → i < length es → index (get_or es i e).node ≡ Some i
  pub found : (n : Node) (i : ℕ) (e : Entry) → index n ≡ Some i → (i < length es) × ((get_or es i e).node ≡ n)
