-- The keys by which the index of a table orders nodes.
use Rattle.std.specs.Prelude.{ℕ, max}
use Rattle.term_table.specs.declared.Node.{Node}
use Rattle.term_table.specs.declared.Node.TheVariants as N
use Rattle.term_table.specs.declared.Key.{Key}
use Rattle.term_table.specs.declared.Key.TheVariants.{Of}

-- that of the node's parts that came in last, or 0
abbrev pub latest_of : Node → ℕ
latest_of (N.App f a) = max f a
latest_of (N.Lam b) = b
latest_of (N.TApp p a) = max p a
latest_of (N.Pi a b) = max a b
latest_of _ = 0

-- the key of a node
abbrev pub key_of : Node → Key
key_of n = Of (latest_of n) n

-- the node of a key
abbrev pub node_in : Key → Node
node_in (Of latest n) = n
