-- Hereditary substitution keeps simple types.
use Rattle.std.proofs.Common.{◌≡◌, ℕ, zero, suc, Option, Some, List, [], ◌∷◌, refl, sym, ◌∙◌, ap, subst, one-add}
use Rattle.term_table.specs.Tree.{Tree, Var, Con, App, shift, raise, Const, at, apps, Spot, Here, Other, spot, later}
use Rattle.term_table.specs.Subst.{Simple, Base, Arrow, erase, at_spot, walk, reduce, hsub}
use Rattle.term_table.proofs.Options.{bind_some, some_injective, walk_lam, walk_app}
use Rattle.lf_signature.specs.Simply.{SChecks, lam_schecks, atom_schecks, SSynth, var_ssynth, con_ssynth, app_ssynth, SFam, fam_sfam, tapp_sfam, SType, fam_stype, pi_stype}
use Rattle.lf_signature.specs.Laws.Simple.{erase-shift}

-- what a variable has, where one of simple type s stands among others
abbrev pub type_or : Simple → List Simple → Spot → Option Simple
type_or s Δ Here = Some s
type_or s Δ (Other k) = at Δ k

-- the second context is the first with s at x
abbrev pub SplitsTypes : ℕ → Simple → List Simple → List Simple → Type 0
SplitsTypes x s Δ Δ' = (n : ℕ) → at Δ' n ≡ type_or s Δ (spot x n)

type_or-later : (s t : Simple) (Δ : List Simple) (p : Spot) → type_or s Δ p ≡ type_or s (t ∷ Δ) (later p)
type_or-later s t Δ Here = refl
type_or-later s t Δ (Other k) = refl

pub SplitsTypes-under : (x : ℕ) (s t : Simple) (Δ Δ' : List Simple) → SplitsTypes x s Δ Δ' → SplitsTypes (suc x) s (t ∷ Δ) (t ∷ Δ')
SplitsTypes-under x s t Δ Δ' h zero = refl
SplitsTypes-under x s t Δ Δ' h (suc n) = h n ∙ type_or-later s t Δ (spot x n)

pub SplitsTypes-first : (s : Simple) (Δ : List Simple) → SplitsTypes 0 s Δ (s ∷ Δ)
SplitsTypes-first s Δ zero = refl
SplitsTypes-first s Δ (suc n) = refl

-- k simple types more stand outside the c nearest
abbrev pub WidensTypes : ℕ → ℕ → List Simple → List Simple → Type 0
WidensTypes k c Δ Δ' = (n : ℕ) → at Δ' (raise k c n) ≡ at Δ n

pub WidensTypes-under : (k c : ℕ) (Δ Δ' : List Simple) (s : Simple) → WidensTypes k c Δ Δ' → WidensTypes k (suc c) (s ∷ Δ) (s ∷ Δ')
WidensTypes-under k c Δ Δ' s h zero = refl
WidensTypes-under k c Δ Δ' s h (suc n) = h n

pub WidensTypes-one : (s : Simple) (Δ : List Simple) → WidensTypes 1 0 Δ (s ∷ Δ)
WidensTypes-one s Δ n = rw one-add refl

module _ (sig : Const → Option Simple) where
  mutual
    pub schecks-shift : {Δ : List Simple} {t : Tree} {s : Simple} → SChecks sig Δ t s → (k c : ℕ) (Δ' : List Simple) → WidensTypes k c Δ Δ' → SChecks sig Δ' (shift k c t) s
    schecks-shift (lam_schecks {ctx = Δ} {s = s} d) k c Δ' h = lam_schecks (schecks-shift d k (suc c) (s ∷ Δ') (WidensTypes-under k c Δ Δ' s h))
    schecks-shift (atom_schecks d) k c Δ' h = atom_schecks (ssynth-shift d k c Δ' h)

    pub ssynth-shift : {Δ : List Simple} {t : Tree} {s : Simple} → SSynth sig Δ t s → (k c : ℕ) (Δ' : List Simple) → WidensTypes k c Δ Δ' → SSynth sig Δ' (shift k c t) s
    ssynth-shift (var_ssynth {n = n} e) k c Δ' h = var_ssynth (h n ∙ e)
    ssynth-shift (con_ssynth e) k c Δ' h = con_ssynth e
    ssynth-shift (app_ssynth d e) k c Δ' h = app_ssynth (ssynth-shift d k c Δ' h) (schecks-shift e k c Δ' h)

  pub sfam-shift : {Δ : List Simple} {p : Tree} {l : List Simple} → SFam sig Δ p l → (k c : ℕ) (Δ' : List Simple) → WidensTypes k c Δ Δ' → SFam sig Δ' (shift k c p) l
  sfam-shift (fam_sfam e) k c Δ' h = fam_sfam e
  sfam-shift (tapp_sfam d g) k c Δ' h = tapp_sfam (sfam-shift d k c Δ' h) (schecks-shift g k c Δ' h)

  pub stype-shift : {Δ : List Simple} {t : Tree} → SType sig Δ t → (k c : ℕ) (Δ' : List Simple) → WidensTypes k c Δ Δ' → SType sig Δ' (shift k c t)
  stype-shift (fam_stype d) k c Δ' h = fam_stype (sfam-shift d k c Δ' h)
  stype-shift (pi_stype {ctx = Δ} {a = a} {b = b} d g) k c Δ' h =
      pi_stype (stype-shift d k c Δ' h)
      (subst (λ z. SType sig (z ∷ Δ') (shift k (suc c) b)) (sym (erase-shift a k c)) (stype-shift g k (suc c) (erase a ∷ Δ') (WidensTypes-under k c Δ Δ' (erase a) h)))

  -- arguments from one simple type to another
  pub data AreArguments : List Simple → Simple → List Tree → Simple → Type 0 where
    no_arguments : {Δ : List Simple} {s : Simple} → AreArguments Δ s [] s
    more_arguments : {Δ : List Simple} {s t u : Simple} {a : Tree} {l : List Tree} → SChecks sig Δ a s → AreArguments Δ t l u → AreArguments Δ (Arrow s t) (a ∷ l) u

  pub ssynth-apps : {Δ : List Simple} {u t : Simple} {l : List Tree} → AreArguments Δ u l t → (h : Tree) → SSynth sig Δ h u → SSynth sig Δ (apps h l) t
  ssynth-apps no_arguments h d = d
  ssynth-apps (more_arguments da args) h d = ssynth-apps args (App h _) (app_ssynth d da)

  -- what is done at the variable keeps simple types
  abbrev pub ReducesWell : Simple → (Tree → List Tree → Option Tree) → Type 0
  ReducesWell s r = (Δ : List Simple) (m : Tree) (acc : List Tree) (a : ℕ) (out : Tree) → SChecks sig Δ m s → AreArguments Δ s acc (Base a) → r m acc ≡ Some out → SChecks sig Δ out (Base a)

  module _ (s : Simple) (r : Tree → List Tree → Option Tree) (well : ReducesWell s r) where
    -- a head that stays
    known : (Δ : List Simple) (h : Tree) (u : Simple) (acc : List Tree) (a : ℕ) (out : Tree) → SSynth sig Δ h u → AreArguments Δ u acc (Base a) → apps h acc ≡ out → SChecks sig Δ out (Base a)
    known Δ h u acc a out d args e = subst (λ z. SChecks sig Δ z (Base a)) e (atom_schecks (ssynth-apps args h d))

    -- a variable: the one that is replaced, or another
    hit : (n : ℕ) (u : Simple) (acc : List Tree) (a : ℕ) (out m : Tree) (x : ℕ) (Δ Δ' : List Simple) → SplitsTypes x s Δ Δ' → SChecks sig Δ m s → AreArguments Δ u acc (Base a) →
        at Δ' n ≡ Some u → (p : Spot) → spot x n ≡ p → at_spot (r m acc) (λ k. Some (apps (Var k) acc)) p ≡ Some out → SChecks sig Δ out (Base a)
    hit n u acc a out m x Δ Δ' hΔ dm args e Here q we =
        let us : u ≡ s = some_injective (sym e ∙ hΔ n ∙ ap (type_or s Δ) q) in
        well Δ m acc a out dm (subst (λ z. AreArguments Δ z acc (Base a)) us args) we
    hit n u acc a out m x Δ Δ' hΔ dm args e (Other k) q we =
        let ku : at Δ k ≡ Some u = sym (hΔ n ∙ ap (type_or s Δ) q) ∙ e in
        known Δ (Var k) u acc a out (var_ssynth ku) args (some_injective we)

    mutual
      walk_term : {Δ' : List Simple} {t : Tree} {u : Simple} → SChecks sig Δ' t u → (m : Tree) (x : ℕ) (Δ : List Simple) (out : Tree) →
          SplitsTypes x s Δ Δ' → SChecks sig Δ m s → walk r m x t [] ≡ Some out → SChecks sig Δ out u
      walk_term (lam_schecks {ctx = Δ'} {m = b} {s = u} {t = t} d) m x Δ out hΔ dm e =
          let w = walk_lam r m x b out e in
          subst (λ z. SChecks sig Δ z (Arrow u t)) w.3
          (lam_schecks (walk_term d (shift 1 0 m) (suc x) (u ∷ Δ) w.0 (SplitsTypes-under x s u Δ Δ' hΔ) (schecks-shift dm 1 0 (u ∷ Δ) (WidensTypes-one u Δ)) w.2))
      walk_term (atom_schecks {r = t} {a = a} d) m x Δ out hΔ dm e = walk_atom d m x Δ [] a out hΔ dm no_arguments e

      walk_atom : {Δ' : List Simple} {t : Tree} {u : Simple} → SSynth sig Δ' t u → (m : Tree) (x : ℕ) (Δ : List Simple) (acc : List Tree) (a : ℕ) (out : Tree) →
          SplitsTypes x s Δ Δ' → SChecks sig Δ m s → AreArguments Δ u acc (Base a) → walk r m x t acc ≡ Some out → SChecks sig Δ out (Base a)
      walk_atom (var_ssynth {ctx = Δ'} {n = n} {s = u} e) m x Δ acc a out hΔ dm args we = hit n u acc a out m x Δ Δ' hΔ dm args e (spot x n) refl we
      walk_atom (con_ssynth {c = c} {s = u} e) m x Δ acc a out hΔ dm args we = known Δ (Con c) u acc a out (con_ssynth e) args (some_injective we)
      walk_atom (app_ssynth {r = f} {m = b} df da) m x Δ acc a out hΔ dm args we =
          let w = walk_app r m x f b acc out we in
          walk_atom df m x Δ (w.0 ∷ acc) a out hΔ dm (more_arguments (walk_term da m x Δ w.0 hΔ dm w.1) args) w.2

  reduces_well : (s : Simple) → ReducesWell s (reduce s)
  reduces_well (Base b) Δ m acc a out dm no_arguments e = subst (λ z. SChecks sig Δ z (Base b)) (some_injective e) dm
  reduces_well (Arrow s₁ s₂) Δ m acc a out (lam_schecks {m = b} db) (more_arguments {a = n} {l = ns} dn args) e =
      let w = bind_some (walk (reduce s₁) n 0 b []) (λ m'. reduce s₂ m' ns) out e in
      let h = walk_term s₁ (reduce s₁) (reduces_well s₁) db n 0 Δ w.0 (SplitsTypes-first s₁ Δ) dn w.1 in
      reduces_well s₂ Δ w.0 ns a out h args w.2

  -- hereditary substitution keeps simple types
  pub hsub_simply : (s : Simple) {Δ' : List Simple} {t : Tree} {u : Simple} → SChecks sig Δ' t u → (m : Tree) (x : ℕ) (Δ : List Simple) (out : Tree) →
      SplitsTypes x s Δ Δ' → SChecks sig Δ m s → hsub s m x t ≡ Some out → SChecks sig Δ out u
  hsub_simply s d m x Δ out hΔ dm e = walk_term s (reduce s) (reduces_well s) d m x Δ out hΔ dm e
