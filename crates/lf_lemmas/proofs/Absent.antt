-- Where the variable doesn't occur, substitution doesn't depend on what is put, if only that fits.
use Rattle.std.proofs.Common.{◌≡◌, ℕ, suc, ◌+◌, Bool, true, false, ◌&&◌, sym, ◌∙◌, ap}
use Rattle.term_table.specs.Tree.{Tree, Var, Con, App, Lam, Fam, TApp, Pi, shift, fits, Spot, Here, Other, spot}
use Rattle.term_table.specs.Subst.{Simple, HSub, in_lam, in_other, in_head, Keeps, keep_var, keep_con, keep_app, Meets, meet_var, meet_app, HSubType, in_fam, in_tapp, in_pi}
use Rattle.term_table.proofs.Shifts.{shift-shift}
use Rattle.lf_signature.specs.Laws.Booleans.{both}

abbrev pub is_other : Spot → Bool
is_other Here = false
is_other (Other n) = true

-- whether the variable isn't free in the tree
abbrev pub is_absent : ℕ → Tree → Bool
is_absent x (Var n) = is_other (spot x n)
is_absent x (Con c) = true
is_absent x (App f a) = is_absent x f && is_absent x a
is_absent x (Lam b) = is_absent (suc x) b
is_absent x (Fam a) = true
is_absent x (TApp p a) = is_absent x p && is_absent x a
is_absent x (Pi a b) = is_absent x a && is_absent (suc x) b

-- each shift of the second fits where that of the first does
abbrev pub FitsWith : Tree → Tree → Type 0
FitsWith m m' = (k : ℕ) → fits (shift k 0 m) ≡ true → fits (shift k 0 m') ≡ true

fits_under : (m m' : Tree) → FitsWith m m' → FitsWith (shift 1 0 m) (shift 1 0 m')
fits_under m m' f k e =
    ap fits (shift-shift k 1 0 m') ∙ f (k + 1) (sym (ap fits (shift-shift k 1 0 m)) ∙ e)

mutual
  hsub_absent : {s : Simple} {m : Tree} {x : ℕ} {t out : Tree} → HSub s m x t out →
      (m' : Tree) → FitsWith m m' → is_absent x t ≡ true → HSub s m' x t out
  hsub_absent (in_lam {m = m} e h) m' f a =
      in_lam (f 1 e) (hsub_absent h (shift 1 0 m') (fits_under m m' f) a)
  hsub_absent (in_other h) m' f a = in_other (keeps_absent h m' f a)
  hsub_absent (in_head h) m' f a = absurd (meets_absent h a)

  keeps_absent : {s : Simple} {m : Tree} {x : ℕ} {t out : Tree} → Keeps s m x t out →
      (m' : Tree) → FitsWith m m' → is_absent x t ≡ true → Keeps s m' x t out
  keeps_absent (keep_var e) m' f a = keep_var e
  keeps_absent keep_con m' f a = keep_con
  keeps_absent (keep_app h g) m' f a =
      let b = both _ _ a in
      keep_app (keeps_absent h m' f b.0) (hsub_absent g m' f b.1)

  meets_absent : {s u : Simple} {m : Tree} {x : ℕ} {t out : Tree} → Meets s m x t out u →
      is_absent x t ≡ true → ⊥
  meets_absent (meet_var {x = x} {n = n} e) a =
      let q : false ≡ true = sym (ap is_other e) ∙ a in
      cc
  meets_absent (meet_app h g k) a = meets_absent h (both _ _ a).0

pub hsub_type_absent : {s : Simple} {m : Tree} {x : ℕ} {t out : Tree} → HSubType s m x t out →
    (m' : Tree) → FitsWith m m' → is_absent x t ≡ true → HSubType s m' x t out
hsub_type_absent in_fam m' f a = in_fam
hsub_type_absent (in_tapp h g) m' f a =
    let b = both _ _ a in
    in_tapp (hsub_type_absent h m' f b.0) (hsub_absent g m' f b.1)
hsub_type_absent (in_pi {m = m} h e g) m' f a =
    let b = both _ _ a in
    in_pi (hsub_type_absent h m' f b.0) (f 1 e)
    (hsub_type_absent g (shift 1 0 m') (fits_under m m' f) b.1)
