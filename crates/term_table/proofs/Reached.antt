-- How far a node's variables reach, by its parts.
use Rattle.std.proofs.Common.{◌≡◌, ℕ, suc, ◌-◌, ◌<◌, ◌≤◌, max, List, Bool, true, false, cond, ◌&&◌, ◌==◌, refl, sym, ap, subst, arith, eq-eqb}
use Rattle.std.specs.Prelude.{not}
use Rattle.std.specs.Cmp.Derive.{both_true}
use Rattle.term_table.specs.Tree.{Tree, App, Lam, TApp, Pi}
use Rattle.term_table.specs.Scope.{is_atomic_shape, is_term_shape, is_scoped, HasReach}
use Rattle.term_table.specs.Inside.Reach.{is_atomic_node, is_term_node, reach_outside}
use Rattle.term_table.specs.declared.Node.{Node}
use Rattle.term_table.specs.declared.Node.TheVariants as N
use Rattle.term_table.specs.Table.{node_tree_in}

pub atom_node : (n : Node) (ts : List Tree) → is_atomic_node n ≡ is_atomic_shape (node_tree_in ts n)
atom_node (N.Var v) ts = refl
atom_node (N.Const v) ts = refl
atom_node (N.Lit v) ts = refl
atom_node (N.Calc o v w) ts = refl
atom_node (N.Fact o v w) ts = refl
atom_node (N.Deny o v w) ts = refl
atom_node (N.Lemma v) ts = refl
atom_node (N.App f x) ts = refl
atom_node (N.Lam x) ts = refl
atom_node (N.Fam v) ts = refl
atom_node (N.TApp f x) ts = refl
atom_node (N.Pi f x) ts = refl

pub term_node : (n : Node) (ts : List Tree) → is_term_node n ≡ is_term_shape (node_tree_in ts n)
term_node (N.Var v) ts = refl
term_node (N.Const v) ts = refl
term_node (N.Lit v) ts = refl
term_node (N.Calc o v w) ts = refl
term_node (N.Fact o v w) ts = refl
term_node (N.Deny o v w) ts = refl
term_node (N.Lemma v) ts = refl
term_node (N.App f x) ts = refl
term_node (N.Lam x) ts = refl
term_node (N.Fam v) ts = refl
term_node (N.TApp f x) ts = refl
term_node (N.Pi f x) ts = refl

-- nothing is said by the greatest number
nothing : (r : ℕ) (t : Tree) → r ≡ 4294967295 → HasReach r t
nothing r t e h n l = absurd (omega arith)

pub reach_app : (f a : Tree) (x y : Bool) (r p q : ℕ) → x ≡ is_atomic_shape f → y ≡ is_term_shape a → HasReach p f → HasReach q a → r ≡ cond (x && y) (max p q) 4294967295 → HasReach r (App f a)
reach_app f a true true r p q i j hf ha e h n l =
    both_true (both_true (sym i) (sym j)) (both_true (hf (omega arith) n (omega arith)) (ha (omega arith) n (omega arith)))
reach_app f a true false r p q i j hf ha e h n l = nothing r (App f a) e h n l
reach_app f a false y r p q i j hf ha e h n l = nothing r (App f a) e h n l

-- one binder further out
inner : (b : Tree) (q : ℕ) → HasReach q b → (n : ℕ) → reach_outside q < 4294967295 → reach_outside q ≤ n → is_scoped (suc n) b ≡ true
inner b q hb n h l = go (q == 4294967295) refl h l
  where
    go : (t : Bool) → (q == 4294967295) ≡ t → cond t 4294967295 (q - 1) < 4294967295 → cond t 4294967295 (q - 1) ≤ n → is_scoped (suc n) b ≡ true
    go true e h l = absurd (omega arith)
    go false e h l = hb (below (omega arith) e) (suc n) (omega arith)
      where
        below : q ≤ 4294967295 → (q == 4294967295) ≡ false → q < 4294967295
        below g e = grind (arith, eq-eqb)

pub reach_lam : (b : Tree) (x : Bool) (r q : ℕ) → x ≡ is_term_shape b → HasReach q b → r ≡ cond x (reach_outside q) 4294967295 → HasReach r (Lam b)
reach_lam b true r q i hb e h n l = both_true (sym i) (inner b q hb n (subst (λ z. z < 4294967295) e h) (subst (λ z. z ≤ n) e l))
reach_lam b false r q i hb e h n l = nothing r (Lam b) e h n l

pub reach_tapp : (f a : Tree) (x y : Bool) (r p q : ℕ) → x ≡ is_term_shape f → y ≡ is_term_shape a → HasReach p f → HasReach q a → r ≡ cond (not x && y) (max p q) 4294967295 → HasReach r (TApp f a)
reach_tapp f a false true r p q i j hf ha e h n l =
    both_true (both_true (ap not (sym i)) (sym j)) (both_true (hf (omega arith) n (omega arith)) (ha (omega arith) n (omega arith)))
reach_tapp f a false false r p q i j hf ha e h n l = nothing r (TApp f a) e h n l
reach_tapp f a true y r p q i j hf ha e h n l = nothing r (TApp f a) e h n l

pub reach_pi : (a b : Tree) (x y : Bool) (r p q : ℕ) → x ≡ is_term_shape a → y ≡ is_term_shape b → HasReach p a → HasReach q b → r ≡ cond (not x && not y) (max p (reach_outside q)) 4294967295 → HasReach r (Pi a b)
reach_pi a b false false r p q i j hf hb e h n l =
    let g : max p (reach_outside q) < 4294967295 = subst (λ z. z < 4294967295) e h in
    let k : max p (reach_outside q) ≤ n = subst (λ z. z ≤ n) e l in
    both_true (both_true (ap not (sym i)) (ap not (sym j))) (both_true (hf (left p (reach_outside q) 4294967295 g) n (left_le p (reach_outside q) n k)) (inner b q hb n (right p (reach_outside q) 4294967295 g) (right_le p (reach_outside q) n k)))
  where
    left : (u v w : ℕ) → max u v < w → u < w
    left u v w h = omega arith

    right : (u v w : ℕ) → max u v < w → v < w
    right u v w h = omega arith

    left_le : (u v w : ℕ) → max u v ≤ w → u ≤ w
    left_le u v w h = omega arith

    right_le : (u v w : ℕ) → max u v ≤ w → v ≤ w
    right_le u v w h = omega arith
reach_pi a b false true r p q i j hf hb e h n l = nothing r (Pi a b) e h n l
reach_pi a b true y r p q i j hf hb e h n l = nothing r (Pi a b) e h n l
