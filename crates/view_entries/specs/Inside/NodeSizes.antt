-- The size of a node by the sizes of its parts.
use Rattle.std.specs.Prelude.{ℕ, ◌+◌, List, get_or}
use Rattle.term_table.specs.Measures.{capped}
use Rattle.term_table.specs.declared.Node.{Node}
use Rattle.term_table.specs.declared.Node.TheVariants as N

-- the size of a node, its parts being places of a list of sizes
abbrev pub node_size : List ℕ → Node → ℕ
node_size sizes (N.App f a) = capped (1 + (get_or sizes f 0 + get_or sizes a 0))
node_size sizes (N.Lam b) = capped (1 + get_or sizes b 0)
node_size sizes (N.TApp p a) = capped (1 + (get_or sizes p 0 + get_or sizes a 0))
node_size sizes (N.Pi a b) = capped (1 + (get_or sizes a 0 + get_or sizes b 0))
node_size sizes _ = 1
