-- The sizes of nodes and of the entries of a table.
use Rattle.std.proofs.Common.{◌≡◌, ℕ, zero, suc, ◌+◌, ◌<◌, List, [], ◌∷◌, length, length-take, map, take, get_or, refl, ◌∙◌, ap, arith}
use Rattle.std.proofs.lemmas.List.{get_or-take}
use Rattle.term_table.specs.Tree.{Tree, Var}
use Rattle.term_table.specs.Table.{TableView, IsKnown, tree_in, tree_at, node_tree_in, PartsBelow}
use Rattle.term_table.specs.Measures.{capped}
use Rattle.term_table.specs.declared.Node.{Node}
use Rattle.term_table.specs.declared.Node.TheVariants as N
use Rattle.view_entries.specs.Sizes.{node_count, tree_size}
use Rattle.view_entries.specs.Inside.NodeSizes.{node_size}

-- what sizes has at a place
pub size_in : (trees : List Tree) (id : ℕ) → id < length trees →
    get_or (map tree_size trees) id 0 ≡ tree_size (tree_in trees id)
size_in [] id h = absurd (omega arith)
size_in (t ∷ trees) zero h = refl
size_in (t ∷ trees) (suc id) h = size_in trees id (omega arith)

-- the same of a table
pub size_at : (t : TableView) (id : ℕ) → IsKnown t id →
    get_or (map tree_size t.trees) id 0 ≡ tree_size (tree_at t id)
size_at t id h = size_in t.trees id h

capped_two : (a b : ℕ) → capped (1 + (capped a + capped b)) ≡ capped (1 + (a + b))
capped_two a b = omega arith

capped_one : (a : ℕ) → capped (1 + capped a) ≡ capped (1 + a)
capped_one a = omega arith

part_size : (trees : List Tree) (n id : ℕ) → n < length trees → id < n →
    get_or (map tree_size (take n trees)) id 0 ≡ tree_size (tree_in trees id)
part_size trees n id w h =
    size_in (take n trees) id (simp length-take (omega arith))
    ∙ ap tree_size (get_or-take n trees id (Var 0) h)

pub node_is : (trees : List Tree) (n : ℕ) (node : Node) → n < length trees → PartsBelow n node →
    node_size (map tree_size (take n trees)) node ≡ tree_size (node_tree_in trees node)
node_is trees n (N.App f a) w p =
    (λ i. capped (1 + (part_size trees n f w p.0 i + part_size trees n a w p.1 i)))
    ∙ capped_two (node_count (tree_in trees f)) (node_count (tree_in trees a))
node_is trees n (N.Lam b) w p =
    (λ i. capped (1 + part_size trees n b w p i)) ∙ capped_one (node_count (tree_in trees b))
node_is trees n (N.TApp f a) w p =
    (λ i. capped (1 + (part_size trees n f w p.0 i + part_size trees n a w p.1 i)))
    ∙ capped_two (node_count (tree_in trees f)) (node_count (tree_in trees a))
node_is trees n (N.Pi a b) w p =
    (λ i. capped (1 + (part_size trees n a w p.0 i + part_size trees n b w p.1 i)))
    ∙ capped_two (node_count (tree_in trees a)) (node_count (tree_in trees b))
node_is trees n node w p = refl
