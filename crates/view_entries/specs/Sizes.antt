-- How large a tree is.
use Rattle.std.specs.Prelude.{ℕ, ◌+◌}
use Rattle.term_table.specs.Tree.{Tree, Var, Con, App, Lam, Fam, TApp, Pi}
use Rattle.term_table.specs.Measures.{capped}

-- how many nodes the tree has
abbrev pub node_count : Tree → ℕ
node_count (Var n) = 1
node_count (Con c) = 1
node_count (App f a) = 1 + (node_count f + node_count a)
node_count (Lam b) = 1 + node_count b
node_count (Fam a) = 1
node_count (TApp p a) = 1 + (node_count p + node_count a)
node_count (Pi a b) = 1 + (node_count a + node_count b)

-- the same, or 4,294,967,295 where it is more
abbrev pub tree_size : Tree → ℕ
tree_size t = capped (node_count t)
