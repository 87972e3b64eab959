-- Formulas taken apart, on ids.
use Rattle.std.specs.Prelude.{◌≡◌, Option, Some, None}
use Rattle.term_table.specs.Tree.{Tree}
use Rattle.term_table.specs.Table.{TableView, IsKnown, tree_at}
use Rattle.gate_match.specs.declared.goals.Pair.{Pair}

-- The ids stand for two trees of which the tree is made in this way, or there are none.
abbrev pub AreSides : (Tree → Tree → Tree) → TableView → Tree → Option Pair → Type 0
AreSides make t tree None = (a b : Tree) → tree ≡ make a b → ⊥
AreSides make t tree (Some p) = IsKnown t p.first × IsKnown t p.second × (tree ≡ make (tree_at t p.first) (tree_at t p.second))
