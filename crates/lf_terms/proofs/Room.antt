-- Variables below 2 ^ 32: what shifts and binder_depth need.
use Rattle.std.proofs.Common.{◌≡◌, ℕ, zero, suc, ◌+◌, ◌^◌, ◌≤◌, ◌<◌, max, true, cond, Some, None, refl, ap, arith}
use Rattle.std.proofs.lemmas.Bool.{lt-ltb}
use Rattle.term_table.specs.Tree.{Tree, Var, Con, App, Lam, Fam, TApp, Pi, shift, raise, fits, IsAtomic, IsTerm}
use Rattle.term_table.specs.Subst.{raised}
use Rattle.lf_signature.specs.Laws.Booleans.{and_of}
use Rattle.lf_terms.specs.Plain.{IsHeadBut, IsUnapplied, var_bound, binder_depth}

raise_le : (k c n : ℕ) → raise k c n ≤ n + k
raise_le k zero n = omega arith
raise_le k (suc c) zero = omega arith
raise_le k (suc c) (suc n) = let h = raise_le k c n in omega (arith, h)

pub var_bound_shift : (t : Tree) (k c : ℕ) → var_bound (shift k c t) ≤ var_bound t + k
var_bound_shift (Var n) k c = let h = raise_le k c n in omega (arith, h)
var_bound_shift (Con d) k c = omega arith
var_bound_shift (App f a) k c = omega (arith, var_bound_shift f k c, var_bound_shift a k c)
var_bound_shift (Lam b) k c = var_bound_shift b k (suc c)
var_bound_shift (Fam a) k c = omega arith
var_bound_shift (TApp f a) k c = omega (arith, var_bound_shift f k c, var_bound_shift a k c)
var_bound_shift (Pi a b) k c = omega (arith, var_bound_shift a k c, var_bound_shift b k (suc c))

pub binder_depth_shift : (t : Tree) (k c : ℕ) → binder_depth (shift k c t) ≡ binder_depth t
binder_depth_shift (Var n) k c = refl
binder_depth_shift (Con d) k c = refl
binder_depth_shift (App f a) k c = λ i. max (binder_depth_shift f k c i) (binder_depth_shift a k c i)
binder_depth_shift (Lam b) k c = ap suc (binder_depth_shift b k (suc c))
binder_depth_shift (Fam a) k c = refl
binder_depth_shift (TApp f a) k c = λ i. max (binder_depth_shift f k c i) (binder_depth_shift a k c i)
binder_depth_shift (Pi a b) k c = λ i. max (binder_depth_shift a k c i) (suc (binder_depth_shift b k (suc c) i))

pub fits_bound : (t : Tree) → var_bound t ≤ 2 ^ 32 → fits t ≡ true
fits_bound (Var n) h = lt-ltb n (2 ^ 32) (omega (arith, h))
fits_bound (Con d) h = refl
fits_bound (App f a) h = and_of _ _ (fits_bound f (omega (arith, h))) (fits_bound a (omega (arith, h)))
fits_bound (Lam b) h = fits_bound b h
fits_bound (Fam a) h = refl
fits_bound (TApp f a) h = and_of _ _ (fits_bound f (omega (arith, h))) (fits_bound a (omega (arith, h)))
fits_bound (Pi a b) h = and_of _ _ (fits_bound a (omega (arith, h))) (fits_bound b (omega (arith, h)))

pub fits_shift : (t : Tree) (k c : ℕ) → var_bound t + k ≤ 2 ^ 32 → fits (shift k c t) ≡ true
fits_shift t k c h = fits_bound (shift k c t) (omega (arith, h, var_bound_shift t k c))

pub raised_room : (m : Tree) → var_bound m + 1 ≤ 2 ^ 32 → raised m ≡ Some (shift 1 0 m)
raised_room m h = ap (λ b. cond b (Some (shift 1 0 m)) None) (fits_shift m 1 0 h)

atomic_shift : (t : Tree) (k c : ℕ) → IsAtomic t → IsAtomic (shift k c t)
atomic_shift (Var n) k c h = tt
atomic_shift (Con d) k c h = tt
atomic_shift (App f a) k c h = tt
atomic_shift (Lam b) k c h = elim h [ ]
atomic_shift (Fam a) k c h = elim h [ ]
atomic_shift (TApp p a) k c h = elim h [ ]
atomic_shift (Pi a b) k c h = elim h [ ]

pub term_shift : (t : Tree) (k c : ℕ) → IsTerm t → IsTerm (shift k c t)
term_shift (Var n) k c h = tt
term_shift (Con d) k c h = tt
term_shift (App f a) k c h = (term_shift f k c h.0, atomic_shift f k c h.1, term_shift a k c h.2)
term_shift (Lam b) k c h = term_shift b k (suc c) h
term_shift (Fam a) k c h = elim h [ ]
term_shift (TApp p a) k c h = elim h [ ]
term_shift (Pi a b) k c h = elim h [ ]

-- a shift past a variable keeps it, and makes none of another
raise_is : (k c n x : ℕ) → x < c → raise k c n ≡ x → n ≡ x
raise_is k zero n x l e = absurd (omega (arith, l))
raise_is k (suc c) zero x l e = e
raise_is k (suc c) (suc n) zero l e = cc
raise_is k (suc c) (suc n) (suc x) l e = ap suc (raise_is k c n x (omega (arith, l)) (omega (arith, e)))

head_but_shift : (t : Tree) (x k c : ℕ) → x < c → IsHeadBut x t → IsHeadBut x (shift k c t)
head_but_shift (Var n) x k c l h = λ e. h (raise_is k c n x l e)
head_but_shift (Con d) x k c l h = tt
head_but_shift (App f a) x k c l h = tt
head_but_shift (Lam b) x k c l h = elim h [ ]
head_but_shift (Fam a) x k c l h = elim h [ ]
head_but_shift (TApp p a) x k c l h = elim h [ ]
head_but_shift (Pi a b) x k c l h = elim h [ ]

pub unapplied_shift : (t : Tree) (x k c : ℕ) → x < c → IsUnapplied x t → IsUnapplied x (shift k c t)
unapplied_shift (Var n) x k c l h = tt
unapplied_shift (Con d) x k c l h = tt
unapplied_shift (App f a) x k c l h = (head_but_shift f x k c l h.0, unapplied_shift f x k c l h.1, unapplied_shift a x k c l h.2)
unapplied_shift (Lam b) x k c l h = unapplied_shift b (suc x) k (suc c) (omega (arith, l)) h
unapplied_shift (Fam a) x k c l h = elim h [ ]
unapplied_shift (TApp p a) x k c l h = elim h [ ]
unapplied_shift (Pi a b) x k c l h = elim h [ ]
