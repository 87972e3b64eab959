-- How shifts meet one another, and how far the variables of a tree reach.
use Rattle.std.proofs.Common.{◌≡◌, ℕ, zero, suc, ◌+◌, ◌<◌, Bool, true, false, ◌&&◌, refl, ap, arith}
use Rattle.std.proofs.lemmas.Bool.{ltb-true}
use Rattle.std.specs.Cmp.Derive.{both_true}
use Rattle.term_table.specs.Tree.{Tree, Var, Con, App, Lam, Fam, TApp, Pi, shift, raise}
use Rattle.term_table.specs.Scope.{is_over, is_scoped}

both : (a b : Bool) → (a && b) ≡ true → (a ≡ true) × (b ≡ true)
both true b q = (refl, q)
both false b q = cc

raise-raise : (j k c n : ℕ) → raise j c (raise k c n) ≡ raise (j + k) c n
raise-raise j k zero n = omega arith
raise-raise j k (suc c) zero = refl
raise-raise j k (suc c) (suc n) = ap suc (raise-raise j k c n)

-- shifts at one place add up
pub shift-shift : (j k c : ℕ) (t : Tree) → shift j c (shift k c t) ≡ shift (j + k) c t
shift-shift j k c (Var n) = ap Var (raise-raise j k c n)
shift-shift j k c (Con d) = refl
shift-shift j k c (App f a) = λ i. App (shift-shift j k c f i) (shift-shift j k c a i)
shift-shift j k c (Lam b) = ap Lam (shift-shift j k (suc c) b)
shift-shift j k c (Fam a) = refl
shift-shift j k c (TApp p a) = λ i. TApp (shift-shift j k c p i) (shift-shift j k c a i)
shift-shift j k c (Pi a b) = λ i. Pi (shift-shift j k c a i) (shift-shift j k (suc c) b i)

-- a variable below the place stays
pub raise-over : (k c n : ℕ) → n < c → raise k c n ≡ n
raise-over k zero n l = absurd (omega (arith, l))
raise-over k (suc c) zero l = refl
raise-over k (suc c) (suc n) l = ap suc (raise-over k c n (omega (arith, l)))

-- a tree without later variables stays as it is
pub shift-over : (k c : ℕ) (t : Tree) → is_over c t ≡ true → shift k c t ≡ t
shift-over k c (Var n) o = ap Var (raise-over k c n (ltb-true n c o))
shift-over k c (Con d) o = refl
shift-over k c (App f a) o = let b = both _ _ o in λ i. App (shift-over k c f b.0 i) (shift-over k c a b.1 i)
shift-over k c (Lam b) o = ap Lam (shift-over k (suc c) b o)
shift-over k c (Fam a) o = refl
shift-over k c (TApp p a) o = let b = both _ _ o in λ i. TApp (shift-over k c p b.0 i) (shift-over k c a b.1 i)
shift-over k c (Pi a b) o = let d = both _ _ o in λ i. Pi (shift-over k c a d.0 i) (shift-over k (suc c) b d.1 i)

-- what is scoped reaches no further
pub scoped-over : (n : ℕ) (t : Tree) → is_scoped n t ≡ true → is_over n t ≡ true
scoped-over n (Var k) s = s
scoped-over n (Con c) s = refl
scoped-over n (App f a) s =
    let p = both _ _ s in let q = both _ _ p.1 in both_true (scoped-over n f q.0) (scoped-over n a q.1)
scoped-over n (Lam b) s = let p = both _ _ s in scoped-over (suc n) b p.1
scoped-over n (Fam a) s = refl
scoped-over n (TApp p a) s =
    let d = both _ _ s in let q = both _ _ d.1 in both_true (scoped-over n p q.0) (scoped-over n a q.1)
scoped-over n (Pi a b) s =
    let p = both _ _ s in let q = both _ _ p.1 in both_true (scoped-over n a q.0) (scoped-over (suc n) b q.1)
