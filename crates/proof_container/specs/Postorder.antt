-- The walk that orders a container's entries: it leaves each tree once, after its parts.
use Rattle.std.specs.Prelude.{◌≡◌, Bool, true, false, if◌then◌else◌, List, [], ◌∷◌, ◌++◌}
use Rattle.std.specs.List.{list_any}
use Rattle.term_table.specs.Tree.{Tree, App, Lam, TApp, Pi}
use Rattle.term_table.specs.Equality.{tree_eq}

-- whether a tree is one of these
abbrev pub is_emitted : Tree → List Tree → Bool
is_emitted t ts = list_any (tree_eq t) ts

-- ts, where the tree is listed there; else the trees left with its parts, and it
abbrev pub unless_emitted : Tree → List Tree → List Tree → List Tree
unless_emitted t ts with_parts = if is_emitted t ts then ts else with_parts ++ t ∷ []

-- Where a walk has left the trees ts, in this order, the trees that it has left once it has left this one too.
abbrev pub emitted_with : Tree → List Tree → List Tree
emitted_with (App f a) ts = unless_emitted (App f a) ts (emitted_with a (emitted_with f ts))
emitted_with (Lam b) ts = unless_emitted (Lam b) ts (emitted_with b ts)
emitted_with (TApp p a) ts = unless_emitted (TApp p a) ts (emitted_with a (emitted_with p ts))
emitted_with (Pi a b) ts = unless_emitted (Pi a b) ts (emitted_with b (emitted_with a ts))
emitted_with t ts = unless_emitted t ts ts

-- the same for all of these trees, the first first
abbrev pub emitted_with_all : List Tree → List Tree → List Tree
emitted_with_all [] ts = ts
emitted_with_all (r ∷ rs) ts = emitted_with_all rs (emitted_with r ts)

-- the trees that a walk from these roots leaves, in the order in which it first leaves them
unfoldable pub entries : List Tree → List Tree
entries roots = emitted_with_all roots []

-- the tree's parts are listed
abbrev pub HasPartsFirst : List Tree → Tree → Type 0
HasPartsFirst ts (App f a) = (is_emitted f ts ≡ true) × (is_emitted a ts ≡ true)
HasPartsFirst ts (Lam b) = is_emitted b ts ≡ true
HasPartsFirst ts (TApp p a) = (is_emitted p ts ≡ true) × (is_emitted a ts ≡ true)
HasPartsFirst ts (Pi a b) = (is_emitted a ts ≡ true) × (is_emitted b ts ≡ true)
HasPartsFirst ts t = Unit {0}

-- behind ts, each of these trees has its parts before it and isn't listed before
abbrev pub ArePostorder : List Tree → List Tree → Type 0
ArePostorder ts [] = Unit {0}
ArePostorder ts (u ∷ us) = HasPartsFirst ts u × (is_emitted u ts ≡ false) × ArePostorder (ts ++ u ∷ []) us

-- each of these trees is listed
abbrev pub AreEmitted : List Tree → List Tree → Type 0
AreEmitted ts [] = Unit {0}
AreEmitted ts (u ∷ us) = (is_emitted u ts ≡ true) × AreEmitted ts us
