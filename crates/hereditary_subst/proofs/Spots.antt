-- Removing a variable, by cases as the code makes them.
use Rattle.std.proofs.Common.{◌≡◌, ℕ, zero, suc, ◌-◌, ◌<◌, Some, Option, None, List, [], refl, sym, ◌∙◌, ap, arith}
use Rattle.term_table.specs.Tree.{Tree, Var, Here, Other, spot, later, apps}
use Rattle.term_table.specs.Subst as L
use Rattle.term_table.specs.Table.{TableView, IsKnown, tree_at}
use Rattle.hereditary_subst.specs.declared.kept.Atom.{Atom}
use Rattle.hereditary_subst.specs.Heads.{MetIs, HeadIs}

pub spot_here : (x : ℕ) → spot x x ≡ Here
spot_here zero = refl
spot_here (suc x) = ap later (spot_here x)

pub spot_below : (x n : ℕ) → n < x → spot x n ≡ Other n
spot_below zero n h = absurd (omega arith)
spot_below (suc x) zero h = refl
spot_below (suc x) (suc n) h = ap later (spot_below x n (omega arith))

pub spot_above : (x n : ℕ) → x < n → spot x n ≡ Other (n - 1)
spot_above x zero h = absurd (omega arith)
spot_above zero (suc n) h = ap Other (omega arith)
spot_above (suc x) (suc zero) h = absurd (omega arith)
spot_above (suc x) (suc (suc n)) h = ap later (spot_above x (suc n) (omega arith)) ∙ ap Other (omega arith)

pub walk_here : (s : L.Simple) (m : Tree) (x n : ℕ) (t : Tree) → Var n ≡ t → n ≡ x → (acc : List Tree) → L.walk (L.reduce s) m x t acc ≡ L.reduce s m acc
walk_here s m x n t e q acc =
    ap (λ z. L.walk (L.reduce s) m x z acc) (sym e) ∙ ap (L.at_spot (L.reduce s m acc) (λ k. Some (apps (Var k) acc))) (ap (spot x) q ∙ spot_here x)

pub walk_other : (s : L.Simple) (m : Tree) (x n k : ℕ) (t r : Tree) → Var n ≡ t → spot x n ≡ Other k → r ≡ Var k → (acc : List Tree) → L.walk (L.reduce s) m x t acc ≡ Some (apps r acc)
walk_other s m x n k t r e q w acc =
    ap (λ z. L.walk (L.reduce s) m x z acc) (sym e) ∙ ap (L.at_spot (L.reduce s m acc) (λ k. Some (apps (Var k) acc))) q ∙ ap (λ z. Some (apps z acc)) (sym w)

pub reduce_none : (s : L.Simple) (m : Tree) → L.reduce s m [] ≡ Some m
reduce_none (L.Base b) m = refl
reduce_none (L.Arrow s t) m = refl

-- what the answer on an atomic term says of its substitution
pub head_result : (ty : ℕ) (s : L.Simple) (m : Tree) (x : ℕ) (t : Tree) (ts : TableView) (a : Atom) → HeadIs ty s m x t ts (Some a) → IsKnown ts a.term × (L.hsub s m x t ≡ Some (tree_at ts a.term))
head_result ty s m x t ts a h = (h.0, go a.met h.1)
  where
    go : (u : Option ℕ) → MetIs ts ty s m x t (tree_at ts a.term) u → L.hsub s m x t ≡ Some (tree_at ts a.term)
    go None k = k []
    go (Some u) k = k.2 [] ∙ reduce_none (L.erase (tree_at ts u)) (tree_at ts a.term)
