-- Lists of trees that hold the parts of each of their trees.
use Rattle.std.specs.Prelude.{◌≡◌, ℕ, suc, ◌+◌, true, List, [], ◌∷◌, ◌++◌}
use Rattle.term_table.specs.Tree.{Tree, App, Lam, TApp, Pi}
use Rattle.proof_container.specs.Postorder.{is_emitted, HasPartsFirst}

-- with each of its trees the list holds the tree's parts
abbrev pub HoldsParts : List Tree → Type 0
HoldsParts held = (t : Tree) → is_emitted t held ≡ true → HasPartsFirst held t

-- the tree and all that stands in it, each as often as it stands there
unfoldable pub subtrees : Tree → List Tree
subtrees (App f a) = App f a ∷ (subtrees f ++ subtrees a)
subtrees (Lam b) = Lam b ∷ subtrees b
subtrees (TApp p a) = TApp p a ∷ (subtrees p ++ subtrees a)
subtrees (Pi a b) = Pi a b ∷ (subtrees a ++ subtrees b)
subtrees t = t ∷ []

-- how many these are
abbrev pub subtree_count : Tree → ℕ
subtree_count (App f a) = suc (subtree_count f + subtree_count a)
subtree_count (Lam b) = suc (subtree_count b)
subtree_count (TApp p a) = suc (subtree_count p + subtree_count a)
subtree_count (Pi a b) = suc (subtree_count a + subtree_count b)
subtree_count t = 1
