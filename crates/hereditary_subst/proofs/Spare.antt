-- Substitution for a variable that doesn't occur gives the tree back that was shifted past it.
use Rattle.std.proofs.Common.{◌≡◌, ℕ, zero, suc, ◌+◌, ◌<◌, ◌≤◌, ◌^◌, max, Bool, true, false, ◌&&◌, cond, Option, Some, None, List, [], ◌∷◌, refl, ◌∙◌, ap, arith, option_map, one-add, lt-ltb, ltb-true}
use Rattle.std.specs.Prelude.{not}
use Rattle.std.specs.Cmp.Derive.{both_true}
use Rattle.term_table.specs.Tree.{Tree, Var, Con, App, Lam, Fam, TApp, Pi, shift, raise, fits, apps, Other, spot, later, shifted}
use Rattle.term_table.specs.Subst.{Simple, at_spot, bind, walk, reduce, hsub, hsub_type}
use Rattle.term_table.specs.Measures.{height_of, capped}
use Rattle.term_table.specs.Scope.{is_atomic_shape, is_term_shape, is_scoped, HasReach}
use Rattle.term_table.specs.Table.{IsSmall}
use Rattle.term_table.proofs.Shifts.{shift-over, scoped-over}
use Rattle.hereditary_subst.specs.Inside.Spare.{CanRaise, IsLowerable}

pub both : (a b : Bool) → (a && b) ≡ true → (a ≡ true) × (b ≡ true)
both true b q = (refl, q)
both false b q = cc

pub not_true : (b : Bool) → not b ≡ true → b ≡ false
not_true true q = cc
not_true false q = refl

-- a shift past all variables
pub shift-scoped : (k c : ℕ) (t : Tree) → is_scoped c t ≡ true → shift k c t ≡ t
shift-scoped k c t h = shift-over k c t (scoped-over c t h)

-- the trees of a table fit
pub fits_small : (t : Tree) → IsSmall t → fits t ≡ true
fits_small (Var n) h = lt-ltb n (2 ^ 32) h
fits_small (Con c) h = refl
fits_small (App f a) h = both_true (fits_small f h.0) (fits_small a h.1)
fits_small (Lam b) h = fits_small b h
fits_small (Fam a) h = refl
fits_small (TApp p a) h = both_true (fits_small p h.0) (fits_small a h.1)
fits_small (Pi a b) h = both_true (fits_small a h.0) (fits_small b h.1)

pub shifted_scoped : (k c : ℕ) (t : Tree) → IsSmall t → is_scoped c t ≡ true → shifted k c t ≡ Some t
shifted_scoped k c t s h = rw (shift-scoped k c t h, fits_small t s)

-- numbers of variables
abbrev Below : ℕ → Tree → Type 0
Below n (Var k) = k < n
Below n (Con c) = Unit {0}
Below n (App f a) = Below n f × Below n a
Below n (Lam b) = Below n b
Below n (Fam a) = Unit {0}
Below n (TApp p a) = Below n p × Below n a
Below n (Pi a b) = Below n a × Below n b

below-more : (m n : ℕ) (t : Tree) → m ≤ n → Below m t → Below n t
below-more m n (Var k) l h = omega arith
below-more m n (Con c) l h = tt
below-more m n (App f a) l h = (below-more m n f l h.0, below-more m n a l h.1)
below-more m n (Lam b) l h = below-more m n b l h
below-more m n (Fam a) l h = tt
below-more m n (TApp f a) l h = (below-more m n f l h.0, below-more m n a l h.1)
below-more m n (Pi f a) l h = (below-more m n f l h.0, below-more m n a l h.1)

below_scoped : (n : ℕ) (t : Tree) → is_scoped n t ≡ true → Below (n + height_of t) t
below_scoped n (Var k) h = let q = ltb-true k n h in omega arith
below_scoped n (Con c) h = tt
below_scoped n (App f a) h = let s : (is_scoped n f ≡ true) × (is_scoped n a ≡ true) = both (is_scoped n f) (is_scoped n a) (both _ _ h).1 in (below-more (n + height_of f) (n + (1 + max (height_of f) (height_of a))) f (omega arith) (below_scoped n f s.0), below-more (n + height_of a) (n + (1 + max (height_of f) (height_of a))) a (omega arith) (below_scoped n a s.1))
below_scoped n (Lam b) h = below-more (suc n + height_of b) (n + (1 + height_of b)) b (omega arith) (below_scoped (suc n) b (both _ _ h).1)
below_scoped n (Fam a) h = tt
below_scoped n (TApp f a) h = let s : (is_scoped n f ≡ true) × (is_scoped n a ≡ true) = both (is_scoped n f) (is_scoped n a) (both _ _ h).1 in (below-more (n + height_of f) (n + (1 + max (height_of f) (height_of a))) f (omega arith) (below_scoped n f s.0), below-more (n + height_of a) (n + (1 + max (height_of f) (height_of a))) a (omega arith) (below_scoped n a s.1))
below_scoped n (Pi f a) h = let s : (is_scoped n f ≡ true) × (is_scoped (suc n) a ≡ true) = both (is_scoped n f) (is_scoped (suc n) a) (both _ _ h).1 in (below-more (n + height_of f) (n + (1 + max (height_of f) (height_of a))) f (omega arith) (below_scoped n f s.0), below-more (suc n + height_of a) (n + (1 + max (height_of f) (height_of a))) a (omega arith) (below_scoped (suc n) a s.1))

raise_most : (c n : ℕ) → raise 1 c n ≤ suc n
raise_most zero n = omega arith
raise_most (suc c) zero = omega arith
raise_most (suc c) (suc n) = let q = raise_most c n in omega arith

below_shift : (n c : ℕ) (t : Tree) → Below n t → Below (suc n) (shift 1 c t)
below_shift n c (Var k) h = let q = raise_most c k in omega arith
below_shift n c (Con d) h = tt
below_shift n c (App f a) h = (below_shift n c f h.0, below_shift n c a h.1)
below_shift n c (Lam b) h = below_shift n (suc c) b h
below_shift n c (Fam a) h = tt
below_shift n c (TApp f a) h = (below_shift n c f h.0, below_shift n c a h.1)
below_shift n c (Pi f a) h = (below_shift n c f h.0, below_shift n (suc c) a h.1)

below_fits : (n : ℕ) (t : Tree) → n ≤ 2 ^ 32 → Below n t → fits t ≡ true
below_fits n (Var k) l h = lt-ltb k (2 ^ 32) (omega arith)
below_fits n (Con d) l h = refl
below_fits n (App f a) l h = both_true (below_fits n f l h.0) (below_fits n a l h.1)
below_fits n (Lam b) l h = below_fits n b l h
below_fits n (Fam a) l h = refl
below_fits n (TApp f a) l h = both_true (below_fits n f l h.0) (below_fits n a l h.1)
below_fits n (Pi f a) l h = both_true (below_fits n f l h.0) (below_fits n a l h.1)

can_raise : (k n : ℕ) (m : Tree) → n + k ≤ 2 ^ 32 → Below n m → CanRaise k m
can_raise zero n m l h = tt
can_raise (suc k) n m l h =
    let b = below_shift n 0 m h in
    (below_fits (suc n) (shift 1 0 m) (omega arith) b, can_raise k (suc n) (shift 1 0 m) (omega arith) b)

raise-fewer : (k n : ℕ) (m : Tree) → k ≤ n → CanRaise n m → CanRaise k m
raise-fewer zero n m l h = tt
raise-fewer (suc k) zero m l h = absurd (omega arith)
raise-fewer (suc k) (suc n) m l h = (h.0, raise-fewer k n (shift 1 0 m) (omega arith) h.1)

-- what the table knows of m and r
pub ready : (m r : Tree) (i j h k : ℕ) → HasReach i m → HasReach j r → h ≡ capped (height_of m) → k ≡ capped (height_of r) → j < 4294967295 → i + h + k < 4294967295 → IsLowerable m r
ready m r i j h k hm hr eh ek lj l = record {
  scope = j;
  within = hr lj j (omega arith);
  raises = can_raise (height_of r) (i + height_of m) m (omega arith) (below_scoped i m (hm (omega arith) i (omega arith)));
}

spot-raise : (x n : ℕ) → spot x (raise 1 x n) ≡ Other n
spot-raise zero n = ap (spot zero) (one-add n)
spot-raise (suc x) zero = refl
spot-raise (suc x) (suc n) = ap later (spot-raise x n)

higher_left : (f a : Tree) (m : Tree) → CanRaise (1 + max (height_of f) (height_of a)) m → CanRaise (height_of f) m
higher_left f a m h = raise-fewer (height_of f) (1 + max (height_of f) (height_of a)) m (omega arith) h

higher_right : (f a : Tree) (m : Tree) → CanRaise (1 + max (height_of f) (height_of a)) m → CanRaise (height_of a) m
higher_right f a m h = raise-fewer (height_of a) (1 + max (height_of f) (height_of a)) m (omega arith) h

module _ (r : Tree → List Tree → Option Tree) where
  mutual
    pub cancel_atom : (n x : ℕ) (t m : Tree) (acc : List Tree) → is_atomic_shape t ≡ true → is_scoped n t ≡ true → CanRaise (height_of t) m → walk r m x (shift 1 x t) acc ≡ Some (apps t acc)
    cancel_atom n x (Var k) m acc q s h = ap (at_spot (r m acc) (λ k. Some (apps (Var k) acc))) (spot-raise x k)
    cancel_atom n x (Con c) m acc q s h = refl
    cancel_atom n x (App f a) m acc q s h =
        let p = both _ _ s in
        let shape = both (is_atomic_shape f) (is_term_shape a) p.0 in
        let scope = both (is_scoped n f) (is_scoped n a) p.1 in
        ap (λ o. bind o (λ z. walk r m x (shift 1 x f) (z ∷ acc))) (cancel_term n x a m shape.1 scope.1 (higher_right f a m h))
        ∙ cancel_atom n x f m (a ∷ acc) shape.0 scope.0 (higher_left f a m h)
    cancel_atom n x (Lam b) m acc q s h = cc
    cancel_atom n x (Fam a) m acc q s h = cc
    cancel_atom n x (TApp p a) m acc q s h = cc
    cancel_atom n x (Pi a b) m acc q s h = cc

    pub cancel_term : (n x : ℕ) (t m : Tree) → is_term_shape t ≡ true → is_scoped n t ≡ true → CanRaise (height_of t) m → walk r m x (shift 1 x t) [] ≡ Some t
    cancel_term n x (Var k) m q s h = ap (at_spot (r m []) (λ k. Some (Var k))) (spot-raise x k)
    cancel_term n x (Con c) m q s h = refl
    cancel_term n x (App f a) m q s h =
        let p = both _ _ s in
        let shape = both (is_atomic_shape f) (is_term_shape a) p.0 in
        let scope = both (is_scoped n f) (is_scoped n a) p.1 in
        ap (λ o. bind o (λ z. walk r m x (shift 1 x f) (z ∷ []))) (cancel_term n x a m shape.1 scope.1 (higher_right f a m h))
        ∙ cancel_atom n x f m (a ∷ []) shape.0 scope.0 (higher_left f a m h)
    cancel_term n x (Lam b) m q s h =
        let p = both (is_term_shape b) (is_scoped (suc n) b) s in
        let c = raise-fewer (suc (height_of b)) (1 + height_of b) m (omega arith) h in
        ap (λ z. bind (cond z (Some (shift 1 0 m)) None) (λ m'. option_map Lam (walk r m' (suc x) (shift 1 (suc x) b) []))) c.0
        ∙ ap (option_map Lam) (cancel_term (suc n) (suc x) b (shift 1 0 m) p.0 p.1 c.1)
    cancel_term n x (Fam a) m q s h = cc
    cancel_term n x (TApp p a) m q s h = cc
    cancel_term n x (Pi a b) m q s h = cc

pub cancel_type : (u : Simple) (n x : ℕ) (t m : Tree) → is_term_shape t ≡ false → is_scoped n t ≡ true → CanRaise (height_of t) m → hsub_type u m x (shift 1 x t) ≡ Some t
cancel_type u n x (Var k) m q s h = cc
cancel_type u n x (Con c) m q s h = cc
cancel_type u n x (App f a) m q s h = cc
cancel_type u n x (Lam b) m q s h = cc
cancel_type u n x (Fam a) m q s h = refl
cancel_type u n x (TApp f a) m q s h =
    let p = both _ _ s in
    let shape = both (not (is_term_shape f)) (is_term_shape a) p.0 in
    let scope = both (is_scoped n f) (is_scoped n a) p.1 in
    ap (λ o. bind o (λ z. option_map (TApp z) (hsub u m x (shift 1 x a)))) (cancel_type u n x f m (not_true (is_term_shape f) shape.0) scope.0 (higher_left f a m h))
    ∙ ap (option_map (TApp f)) (cancel_term (reduce u) n x a m shape.1 scope.1 (higher_right f a m h))
cancel_type u n x (Pi a b) m q s h =
    let p = both _ _ s in
    let shape = both (not (is_term_shape a)) (not (is_term_shape b)) p.0 in
    let scope = both (is_scoped n a) (is_scoped (suc n) b) p.1 in
    let c = raise-fewer (suc (height_of b)) (1 + max (height_of a) (height_of b)) m (omega arith) h in
    ap (λ o. bind o (λ z. bind (shifted 1 0 m) (λ m'. option_map (Pi z) (hsub_type u m' (suc x) (shift 1 (suc x) b))))) (cancel_type u n x a m (not_true (is_term_shape a) shape.0) scope.0 (higher_left a b m h))
    ∙ ap (λ z. bind (cond z (Some (shift 1 0 m)) None) (λ m'. option_map (Pi a) (hsub_type u m' (suc x) (shift 1 (suc x) b)))) c.0
    ∙ ap (option_map (Pi a)) (cancel_type u (suc n) (suc x) b (shift 1 0 m) (not_true (is_term_shape b) shape.1) scope.1 c.1)
