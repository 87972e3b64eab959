-- What hereditary substitution does in plain terms.
use Rattle.std.proofs.Common.{◌≡◌, ℕ, zero, suc, ◌+◌, ◌^◌, ◌<◌, ◌≤◌, ◌==◌, Bool, true, false, nat_lt, Option, Some, List, [], ◌∷◌, refl, sym, ◌∙◌, ap, option_map, arith}
use Rattle.std.proofs.lemmas.Bool.{ltb-true, ltb-false, eqb-true, eq-eqb}
use Rattle.term_table.specs.Tree.{Tree, Var, Con, App, Lam, Fam, TApp, Pi, shift, raise, apps, IsAtomic, IsTerm, Spot, Here, Other, spot}
use Rattle.term_table.specs.Subst.{Base, at_spot, bind, walk, reduce, hsub}
use Rattle.term_table.proofs.Options.{some_injective, walk_app, walk_lam}
use Rattle.lf_terms.specs.Plain.{IsHeadBut, IsUnapplied, plain_spot, plain_subst, var_bound, binder_depth}
use Rattle.lf_terms.proofs.Room.{var_bound_shift, raised_room}
use Rattle.lf_terms.proofs.Shifts.{shift-more, spot-raise, spot-own, spot-here, spot-under, spot-over, raise-under, raise-least}

module _ (r : Tree → List Tree → Option Tree) where
  pub app_walk : (m : Tree) (x : ℕ) (f a a' : Tree) (acc : List Tree) → walk r m x a [] ≡ Some a' → walk r m x (App f a) acc ≡ walk r m x f (a' ∷ acc)
  app_walk m x f a a' acc e = ap (λ o. bind o (λ z. walk r m x f (z ∷ acc))) e

  pub lam_walk : (m : Tree) (x : ℕ) (b b' : Tree) → var_bound m + 1 ≤ 2 ^ 32 → walk r (shift 1 0 m) (suc x) b [] ≡ Some b' → walk r m x (Lam b) [] ≡ Some (Lam b')
  lam_walk m x b b' h e = ap (λ o. bind o (λ m'. option_map Lam (walk r m' (suc x) b []))) (raised_room m h) ∙ ap (option_map Lam) e

  -- in a term that was shifted past the variable nothing happens
  mutual
    pub cancel : (t : Tree) → IsTerm t → (m : Tree) (x : ℕ) → var_bound m + binder_depth t ≤ 2 ^ 32 → walk r m x (shift 1 x t) [] ≡ Some t
    cancel (Var n) p m x h = ap (at_spot (r m []) (λ k. Some (Var k))) (spot-raise x n)
    cancel (Con c) p m x h = refl
    cancel (App f a) p m x h =
        app_walk m x (shift 1 x f) (shift 1 x a) a [] (cancel a p.2 m x (omega (arith, h))) ∙ cancel_head f p.1 p.0 m x (a ∷ []) (omega (arith, h))
    cancel (Lam b) p m x h = lam_walk m x (shift 1 (suc x) b) b (omega (arith, h)) (cancel b p (shift 1 0 m) (suc x) (omega (arith, h, var_bound_shift m 1 0)))
    cancel (Fam a) p m x h = elim p [ ]
    cancel (TApp f a) p m x h = elim p [ ]
    cancel (Pi a b) p m x h = elim p [ ]

    pub cancel_head : (t : Tree) → IsAtomic t → IsTerm t → (m : Tree) (x : ℕ) (acc : List Tree) → var_bound m + binder_depth t ≤ 2 ^ 32 → walk r m x (shift 1 x t) acc ≡ Some (apps t acc)
    cancel_head (Con c) q p m x acc h = refl
    cancel_head (App f a) q p m x acc h =
        app_walk m x (shift 1 x f) (shift 1 x a) a acc (cancel a p.2 m x (omega (arith, h))) ∙ cancel_head f p.1 p.0 m x (a ∷ acc) (omega (arith, h))
    cancel_head (Var n) q p m x acc h = ap (at_spot (r m acc) (λ k. Some (apps (Var k) acc))) (spot-raise x n)
    cancel_head (Lam b) q p m x acc h = elim q [ ]
    cancel_head (Fam a) q p m x acc h = elim q [ ]
    cancel_head (TApp f a) q p m x acc h = elim q [ ]
    cancel_head (Pi a b) q p m x acc h = elim q [ ]

  -- X stands at variable 0 of a plain term, and becomes X'
  module _ (m : Tree) (x : ℕ) (X X' : Tree) (L : ℕ) (goes : (c y : ℕ) → y ≡ c + x → c ≤ L → walk r (shift c 0 m) y (shift c 0 X) [] ≡ Some (shift c 0 X')) (room : var_bound m + L ≤ 2 ^ 32) where
    -- a variable past the one put in
    over_next : (n k c y : ℕ) (acc : List Tree) → n ≡ suc k → c ≤ k → walk r (shift c 0 m) y (plain_subst (shift c 0 X) c (Var (raise 1 (suc y) n))) acc ≡ Some (apps (plain_subst (shift c 0 X') c (Var n)) acc)
    over_next n k c y acc q h =
        ap (λ z. walk r (shift c 0 m) y (plain_subst (shift c 0 X) c (Var (raise 1 (suc y) z))) acc) q
        ∙ ap (λ p. walk r (shift c 0 m) y (plain_spot (shift c 0 X) p) acc) (spot-over c (raise 1 y k) (omega (arith, h, raise-least 1 y k)))
        ∙ ap (at_spot (r (shift c 0 m) acc) (λ k. Some (apps (Var k) acc))) (spot-raise y k)
        ∙ sym (ap (λ p. Some (apps (plain_spot (shift c 0 X') p) acc)) (ap (spot c) q ∙ spot-over c k h))

    -- one below it
    under_next : (n c y : ℕ) (acc : List Tree) → y ≡ c + x → n < c → walk r (shift c 0 m) y (plain_subst (shift c 0 X) c (Var (raise 1 (suc y) n))) acc ≡ Some (apps (plain_subst (shift c 0 X') c (Var n)) acc)
    under_next n c y acc e h =
        let a : raise 1 (suc y) n ≡ n = raise-under 1 (suc y) n (omega (arith, h, e)) in
        ap (λ p. walk r (shift c 0 m) y (plain_spot (shift c 0 X) p) acc) (ap (spot c) a ∙ spot-under c n h)
        ∙ ap (at_spot (r (shift c 0 m) acc) (λ k. Some (apps (Var k) acc))) (spot-under y n (omega (arith, h, e)))
        ∙ sym (ap (λ p. Some (apps (plain_spot (shift c 0 X') p) acc)) (spot-under c n h))

    -- that one
    own_next : (n c y : ℕ) → y ≡ c + x → c ≤ L → n ≡ c → walk r (shift c 0 m) y (plain_subst (shift c 0 X) c (Var (raise 1 (suc y) n))) [] ≡ Some (plain_subst (shift c 0 X') c (Var n))
    own_next n c y e l q =
        let a : raise 1 (suc y) n ≡ n = raise-under 1 (suc y) n (omega (arith, q, e)) in
        let b : spot c n ≡ Here = ap (spot c) q ∙ spot-own c in
        ap (λ p. walk r (shift c 0 m) y (plain_spot (shift c 0 X) p) []) (ap (spot c) a ∙ b)
        ∙ goes c y e l ∙ sym (ap (λ p. Some (plain_spot (shift c 0 X') p)) b)

    -- another than that one
    other_next : (n c y : ℕ) (acc : List Tree) → y ≡ c + x → (n ≡ c → ⊥) → walk r (shift c 0 m) y (plain_subst (shift c 0 X) c (Var (raise 1 (suc y) n))) acc ≡ Some (apps (plain_subst (shift c 0 X') c (Var n)) acc)
    other_next n c y acc e other = below (nat_lt n c) refl
      where
        past : (n' : ℕ) → n ≡ n' → c ≤ n' → walk r (shift c 0 m) y (plain_subst (shift c 0 X) c (Var (raise 1 (suc y) n))) acc ≡ Some (apps (plain_subst (shift c 0 X') c (Var n)) acc)
        past zero q h = absurd (other (omega (arith, q, h)))
        past (suc k) q h = which (nat_lt k c) refl
          where
            which : (b : Bool) → nat_lt k c ≡ b → walk r (shift c 0 m) y (plain_subst (shift c 0 X) c (Var (raise 1 (suc y) n))) acc ≡ Some (apps (plain_subst (shift c 0 X') c (Var n)) acc)
            which true g = absurd (other (omega (arith, q, h, ltb-true k c g)))
            which false g = over_next n k c y acc q (ltb-false k c g)

        below : (b : Bool) → nat_lt n c ≡ b → walk r (shift c 0 m) y (plain_subst (shift c 0 X) c (Var (raise 1 (suc y) n))) acc ≡ Some (apps (plain_subst (shift c 0 X') c (Var n)) acc)
        below true g = under_next n c y acc e (ltb-true n c g)
        below false g = past n refl (ltb-false n c g)

    var_next : (n c y : ℕ) → y ≡ c + x → c ≤ L → walk r (shift c 0 m) y (plain_subst (shift c 0 X) c (Var (raise 1 (suc y) n))) [] ≡ Some (plain_subst (shift c 0 X') c (Var n))
    var_next n c y e l = which (n == c) refl
      where
        which : (b : Bool) → (n == c) ≡ b → walk r (shift c 0 m) y (plain_subst (shift c 0 X) c (Var (raise 1 (suc y) n))) [] ≡ Some (plain_subst (shift c 0 X') c (Var n))
        which true g = own_next n c y e l (eqb-true n c g)
        which false g = other_next n c y [] e (λ q. let h : true ≡ false = sym (eq-eqb n c q) ∙ g in cc)

    mutual
      pub plain_next : (b : Tree) (c y : ℕ) → IsUnapplied c b → y ≡ c + x → c + binder_depth b ≤ L → walk r (shift c 0 m) y (plain_subst (shift c 0 X) c (shift 1 (suc y) b)) [] ≡ Some (plain_subst (shift c 0 X') c b)
      plain_next (Var n) c y p e l = var_next n c y e (omega (arith, l))
      plain_next (Con d) c y p e l = refl
      plain_next (App f a) c y p e l =
          app_walk (shift c 0 m) y (plain_subst (shift c 0 X) c (shift 1 (suc y) f)) (plain_subst (shift c 0 X) c (shift 1 (suc y) a)) (plain_subst (shift c 0 X') c a) [] (plain_next a c y p.2 e (omega (arith, l)))
          ∙ plain_next_head f c y p.0 p.1 e (plain_subst (shift c 0 X') c a ∷ []) (omega (arith, l))
      plain_next (Lam b) c y p e l =
          lam_walk (shift c 0 m) y (plain_subst (shift 1 0 (shift c 0 X)) (suc c) (shift 1 (suc (suc y)) b)) (plain_subst (shift 1 0 (shift c 0 X')) (suc c) b) (omega (arith, l, room, var_bound_shift m c 0))
          ((λ i. walk r (shift-more m 0 c i) (suc y) (plain_subst (shift-more X 0 c i) (suc c) (shift 1 (suc (suc y)) b)) [])
          ∙ plain_next b (suc c) (suc y) p (omega (arith, e)) (omega (arith, l))
          ∙ (λ i. Some (plain_subst (sym (shift-more X' 0 c) i) (suc c) b)))
      plain_next (Fam a) c y p e l = elim p [ ]
      plain_next (TApp f a) c y p e l = elim p [ ]
      plain_next (Pi a b) c y p e l = elim p [ ]

      plain_next_head : (b : Tree) (c y : ℕ) → IsHeadBut c b → IsUnapplied c b → y ≡ c + x → (acc : List Tree) → c + binder_depth b ≤ L → walk r (shift c 0 m) y (plain_subst (shift c 0 X) c (shift 1 (suc y) b)) acc ≡ Some (apps (plain_subst (shift c 0 X') c b) acc)
      plain_next_head (Con d) c y q p e acc l = refl
      plain_next_head (App f a) c y q p e acc l =
          app_walk (shift c 0 m) y (plain_subst (shift c 0 X) c (shift 1 (suc y) f)) (plain_subst (shift c 0 X) c (shift 1 (suc y) a)) (plain_subst (shift c 0 X') c a) acc (plain_next a c y p.2 e (omega (arith, l)))
          ∙ plain_next_head f c y p.0 p.1 e (plain_subst (shift c 0 X') c a ∷ acc) (omega (arith, l))
      plain_next_head (Var n) c y q p e acc l = other_next n c y acc e q
      plain_next_head (Lam b) c y q p e acc l = elim q [ ]
      plain_next_head (Fam a) c y q p e acc l = elim q [ ]
      plain_next_head (TApp f a) c y q p e acc l = elim q [ ]
      plain_next_head (Pi a b) c y q p e acc l = elim q [ ]

var_plain : (m : Tree) (p : Spot) → at_spot (Some m) (λ k. Some (Var k)) p ≡ Some (plain_spot m p)
var_plain m Here = refl
var_plain m (Other k) = refl

-- at a base type substitution puts the term in the variable's place
mutual
  pub hsub_plain : (t : Tree) (x : ℕ) → IsUnapplied x t → (s : ℕ) (m : Tree) → var_bound m + binder_depth t ≤ 2 ^ 32 → hsub (Base s) m x t ≡ Some (plain_subst m x t)
  hsub_plain (Var n) x p s m h = var_plain m (spot x n)
  hsub_plain (Con c) x p s m h = refl
  hsub_plain (App f a) x p s m h =
      app_walk (reduce (Base s)) m x f a (plain_subst m x a) [] (hsub_plain a x p.2 s m (omega (arith, h))) ∙ hsub_plain_head f x p.0 p.1 s m (plain_subst m x a ∷ []) (omega (arith, h))
  hsub_plain (Lam b) x p s m h =
      lam_walk (reduce (Base s)) m x b (plain_subst (shift 1 0 m) (suc x) b) (omega (arith, h)) (hsub_plain b (suc x) p s (shift 1 0 m) (omega (arith, h, var_bound_shift m 1 0)))
  hsub_plain (Fam a) x p s m h = elim p [ ]
  hsub_plain (TApp f a) x p s m h = elim p [ ]
  hsub_plain (Pi a b) x p s m h = elim p [ ]

  hsub_plain_head : (t : Tree) (x : ℕ) → IsHeadBut x t → IsUnapplied x t → (s : ℕ) (m : Tree) (acc : List Tree) → var_bound m + binder_depth t ≤ 2 ^ 32 → walk (reduce (Base s)) m x t acc ≡ Some (apps (plain_subst m x t) acc)
  hsub_plain_head (Con c) x q p s m acc h = refl
  hsub_plain_head (App f a) x q p s m acc h =
      app_walk (reduce (Base s)) m x f a (plain_subst m x a) acc (hsub_plain a x p.2 s m (omega (arith, h))) ∙ hsub_plain_head f x p.0 p.1 s m (plain_subst m x a ∷ acc) (omega (arith, h))
  hsub_plain_head (Var n) x q p s m acc h = by_spot (spot x n) refl
    where
      by_spot : (p : Spot) → spot x n ≡ p → walk (reduce (Base s)) m x (Var n) acc ≡ Some (apps (plain_subst m x (Var n)) acc)
      by_spot Here e = absurd (q (spot-here x n e))
      by_spot (Other k) e = ap (at_spot (reduce (Base s) m acc) (λ k. Some (apps (Var k) acc))) e ∙ sym (ap (λ p. Some (apps (plain_spot m p) acc)) e)
  hsub_plain_head (Lam b) x q p s m acc h = elim q [ ]
  hsub_plain_head (Fam a) x q p s m acc h = elim q [ ]
  hsub_plain_head (TApp f a) x q p s m acc h = elim q [ ]
  hsub_plain_head (Pi a b) x q p s m acc h = elim q [ ]

-- at a base type a result is the plain one, whatever the term: a variable that is applied has none
pub walk_base : (t : Tree) (s : ℕ) (m : Tree) (x : ℕ) (acc : List Tree) (out : Tree) → walk (reduce (Base s)) m x t acc ≡ Some out → out ≡ apps (plain_subst m x t) acc
walk_base (Var n) s m x acc out e = by_spot (spot x n) acc e
  where
    by_spot : (p : Spot) (acc : List Tree) → at_spot (reduce (Base s) m acc) (λ k. Some (apps (Var k) acc)) p ≡ Some out → out ≡ apps (plain_spot m p) acc
    by_spot Here [] e = sym (some_injective e)
    by_spot Here (a ∷ acc) e = cc
    by_spot (Other k) acc e = sym (some_injective e)
walk_base (Con c) s m x acc out e = sym (some_injective e)
walk_base (App f a) s m x acc out e =
    let w = walk_app (reduce (Base s)) m x f a acc out e in
    walk_base f s m x (w.0 ∷ acc) out w.2 ∙ ap (λ z. apps (plain_subst m x f) (z ∷ acc)) (walk_base a s m x [] w.0 w.1)
walk_base (Lam b) s m x [] out e =
    let w = walk_lam (reduce (Base s)) m x b out e in
    sym w.3 ∙ ap Lam (walk_base b s (shift 1 0 m) (suc x) [] w.0 w.2)
walk_base (Lam b) s m x (a ∷ acc) out e = cc
walk_base (Fam a) s m x acc out e = cc
walk_base (TApp f a) s m x acc out e = cc
walk_base (Pi a b) s m x acc out e = cc

pub hsub_base : (s : ℕ) (m t out : Tree) → hsub (Base s) m 0 t ≡ Some out → out ≡ plain_subst m 0 t
hsub_base s m t out e = walk_base t s m 0 [] out e
