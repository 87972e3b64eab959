-- What typing says of a term: its shape, its variables, and that a variable of a family's type is applied to nothing.
use Rattle.std.proofs.Common.{◌≡◌, ℕ, zero, suc, ◌+◌, ◌≤◌, Option, Some, List, [], ◌∷◌, refl, sym, ◌∙◌, ap, length, arith}
use Rattle.term_table.specs.Tree.{Tree, Fam, Pi, shift, at, Const, IsAtomic, IsTerm}
use Rattle.term_table.proofs.Options.{some_injective}
use Rattle.lf_signature.specs.Typing.{Checks, Synth, lam_checks, atom_checks, var_synth, con_synth, app_synth}
use Rattle.lf_terms.specs.Plain.{IsHeadBut, IsUnapplied, var_bound, binder_depth}

at-below : (ctx : List Tree) (n : ℕ) (a : Tree) → at ctx n ≡ Some a → suc n ≤ length ctx
at-below [] n a e = cc
at-below (b ∷ ctx) zero a e = omega arith
at-below (b ∷ ctx) (suc n) a e = omega (arith, at-below ctx n a e)

module _ {sig : Const → Option Tree} where
  mutual
    pub is_term : {ctx : List Tree} {t a : Tree} → Checks sig ctx t a → IsTerm t
    is_term (lam_checks h) = is_term h
    is_term (atom_checks h q) = (is_atomic h).1

    is_atomic : {ctx : List Tree} {t a : Tree} → Synth sig ctx t a → IsAtomic t × IsTerm t
    is_atomic (var_synth e f) = (tt, tt)
    is_atomic (con_synth e) = (tt, tt)
    is_atomic (app_synth h c s) = (tt, ((is_atomic h).1, (is_atomic h).0, is_term c))

  -- a head of a product's type is no variable of a family's
  head : {ctx : List Tree} {t a b : Tree} → Synth sig ctx t (Pi a b) → (x f : ℕ) → at ctx x ≡ Some (Fam f) → IsHeadBut x t
  head {ctx = ctx} {t = t} {a = a} {b = b} h x f e = by_head t (Pi a b) h refl
    where
      by_head : (t c : Tree) → Synth sig ctx t c → c ≡ Pi a b → IsHeadBut x t
      by_head t c (var_synth {n = n} {a = d} g q) p = λ r.
          let own : Some d ≡ Some (Fam f) = sym g ∙ ap (at ctx) r ∙ e in
          let same : shift (suc n) 0 d ≡ Fam f = ap (shift (suc n) 0) (some_injective own) in
          cc
      by_head t c (con_synth g) p = tt
      by_head t c (app_synth g k s) p = tt

  mutual
    pub unapplied : {ctx : List Tree} {t a : Tree} → Checks sig ctx t a → (x f : ℕ) → at ctx x ≡ Some (Fam f) → IsUnapplied x t
    unapplied (lam_checks h) x f e = unapplied h (suc x) f e
    unapplied (atom_checks h q) x f e = unapplied_atom h x f e

    unapplied_atom : {ctx : List Tree} {t a : Tree} → Synth sig ctx t a → (x f : ℕ) → at ctx x ≡ Some (Fam f) → IsUnapplied x t
    unapplied_atom (var_synth g q) x f e = tt
    unapplied_atom (con_synth g) x f e = tt
    unapplied_atom (app_synth h c s) x f e = (head h x f e, unapplied_atom h x f e, unapplied c x f e)

  mutual
    pub bounded : {ctx : List Tree} {t a : Tree} → Checks sig ctx t a → var_bound t ≤ length ctx + binder_depth t
    bounded (lam_checks h) = omega (arith, bounded h)
    bounded (atom_checks h q) = bounded_atom h

    bounded_atom : {ctx : List Tree} {t a : Tree} → Synth sig ctx t a → var_bound t ≤ length ctx + binder_depth t
    bounded_atom {ctx = ctx} (var_synth {n = n} {a = a} e f) = omega (arith, at-below ctx n a e)
    bounded_atom (con_synth e) = omega arith
    bounded_atom (app_synth h c s) = omega (arith, bounded_atom h, bounded c)
