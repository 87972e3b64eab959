-- How many nodes are left of so many.
use Rattle.std.specs.Prelude.{ℕ, ◌-◌, nat_le, if◌then◌else◌, Option, Some, None}
use Rattle.term_table.specs.Tree.{Tree}
use Rattle.term_table.specs.Table.{TableView, tree_at}
use Rattle.term_table.specs.declared.Node.{Node}
use Rattle.term_table.specs.declared.Node.TheVariants as N
use Rattle.view_entries.specs.Sizes.{node_count}

-- what is left of a budget behind so many, where it is enough
abbrev pub rest_after : ℕ → ℕ → Option ℕ
rest_after budget n = if nat_le n budget then Some (budget - n) else None

-- the same behind a tree's nodes
unfoldable pub rest_after_tree : ℕ → Tree → Option ℕ
rest_after_tree budget t = rest_after budget (node_count t)

-- behind those of two trees
abbrev pub rest_behind : Option ℕ → Tree → Option ℕ
rest_behind None t = None
rest_behind (Some rest) t = rest_after_tree rest t

-- behind a node and its parts, of a budget that isn't 0
abbrev pub rest_of_node : TableView → ℕ → Node → Option ℕ
rest_of_node t budget (N.App f a) =
    rest_behind (rest_after_tree (budget - 1) (tree_at t f)) (tree_at t a)
rest_of_node t budget (N.Lam b) = rest_after_tree (budget - 1) (tree_at t b)
rest_of_node t budget (N.TApp p a) =
    rest_behind (rest_after_tree (budget - 1) (tree_at t p)) (tree_at t a)
rest_of_node t budget (N.Pi a b) =
    rest_behind (rest_after_tree (budget - 1) (tree_at t a)) (tree_at t b)
rest_of_node t budget node = Some (budget - 1)
