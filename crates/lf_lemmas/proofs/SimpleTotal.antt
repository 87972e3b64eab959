-- On simply typed terms hereditary substitution has a result, unless a shift on the way reaches 2 ^ 32.
use Rattle.std.proofs.Common.{◌≡◌, ℕ, suc, Bool, true, false, cond, Option, Some, None, List, [], ◌∷◌, ◌⊎◌, inl, inr, refl, sym, ◌∙◌, ap, subst, option_map}
use Rattle.term_table.specs.Tree.{Tree, Var, Con, App, Lam, shift, fits, Const, at, apps, Spot, Here, Other, spot}
use Rattle.term_table.specs.Subst.{Simple, Base, Arrow, at_spot, bind, walk, reduce, hsub, HSub, Meets, meet_var, meet_app}
use Rattle.lf_signature.specs.Simply.{SChecks, lam_schecks, atom_schecks, SSynth, var_ssynth, con_ssynth, app_ssynth}
use Rattle.term_table.proofs.Options.{some_injective}
use Rattle.term_table.proofs.Agree.{hsub_follows}
use Rattle.lf_lemmas.specs.Overflow.{Overflows, over_here, over_in, over_fun, over_arg, over_met}
use Rattle.lf_lemmas.proofs.SimpleSubst.{type_or, SplitsTypes, SplitsTypes-under, SplitsTypes-first, WidensTypes-one, schecks-shift, AreArguments, no_arguments, more_arguments, hsub_simply}

data OverReduce : Simple → Tree → List Tree → Type 0 where
  now : {s₁ s₂ : Simple} {b n : Tree} {ns : List Tree} → Overflows s₁ n 0 b → OverReduce (Arrow s₁ s₂) (Lam b) (n ∷ ns)
  later : {s₁ s₂ : Simple} {b n m' : Tree} {ns : List Tree} → HSub s₁ n 0 b m' → OverReduce s₂ m' ns → OverReduce (Arrow s₁ s₂) (Lam b) (n ∷ ns)

abbrev pub Has : Option Tree → Type 0 → Type 0
Has o P = ((out : Tree) × (o ≡ Some out)) ⊎ P

abbrev OverSpine : Simple → Tree → ℕ → Tree → List Tree → Type 0
OverSpine s m x t acc = Overflows s m x t ⊎ ((m' : Tree) × (u : Simple) × (Meets s m x t m' u) × (OverReduce u m' acc))

step_over : {s : Simple} {m : Tree} {x : ℕ} {f a a' : Tree} {acc : List Tree} → HSub s m x a a' → {u : Simple} {g : Tree} → Meets s m x f g u → OverReduce u g (a' ∷ acc) → OverSpine s m x (App f a) acc
step_over h k (now o) = inl (over_met k h o)
step_over h k (later {s₂ = s₂} {m' = m'} j o) = inr (m', s₂, meet_app k h j, o)

nothing_over : {u : Simple} {g : Tree} → OverReduce u g [] → ⊥
nothing_over h = elim h [ ]

lam_total : {s : Simple} (m : Tree) (x : ℕ) (b : Tree) (f : Bool) → fits (shift 1 0 m) ≡ f → Has (hsub s (shift 1 0 m) (suc x) b) (Overflows s (shift 1 0 m) (suc x) b) → Has (hsub s m x (Lam b)) (Overflows s m x (Lam b))
lam_total {s} m x b false e h = inr (over_here e)
lam_total {s} m x b true e (inr o) = inr (over_in o)
lam_total {s} m x b true e (inl h) =
    inl (Lam h.0, ap (λ z. bind (cond z (Some (shift 1 0 m)) None) (λ m'. option_map Lam (walk (reduce s) m' (suc x) b []))) e ∙ ap (option_map Lam) h.1)

atom_total : {s : Simple} (m : Tree) (x : ℕ) (t : Tree) → Has (hsub s m x t) (OverSpine s m x t []) → Has (hsub s m x t) (Overflows s m x t)
atom_total m x t (inl h) = inl h
atom_total m x t (inr (inl o)) = inr o
atom_total m x t (inr (inr k)) = absurd (nothing_over k.3)

app_total : {s : Simple} (m : Tree) (x : ℕ) (f a : Tree) (acc : List Tree) → Has (hsub s m x a) (Overflows s m x a) →
    ((a' : Tree) → hsub s m x a ≡ Some a' → Has (walk (reduce s) m x f (a' ∷ acc)) (OverSpine s m x f (a' ∷ acc))) → Has (walk (reduce s) m x (App f a) acc) (OverSpine s m x (App f a) acc)
app_total m x f a acc (inr o) g = inr (inl (over_arg o))
app_total {s} m x f a acc (inl h) g = go (g h.0 h.1)
  where
    go : Has (walk (reduce s) m x f (h.0 ∷ acc)) (OverSpine s m x f (h.0 ∷ acc)) → Has (walk (reduce s) m x (App f a) acc) (OverSpine s m x (App f a) acc)
    go (inl k) = inl (k.0, ap (λ o. bind o (λ z. walk (reduce s) m x f (z ∷ acc))) h.1 ∙ k.1)
    go (inr (inl o)) = inr (inl (over_fun o))
    go (inr (inr k)) = inr (step_over (hsub_follows s m x a h.0 h.1) k.2 k.3)

arrow_total : (s₁ s₂ : Simple) (b n : Tree) (ns : List Tree) → Has (hsub s₁ n 0 b) (Overflows s₁ n 0 b) → ((m' : Tree) → hsub s₁ n 0 b ≡ Some m' → Has (reduce s₂ m' ns) (OverReduce s₂ m' ns)) →
    Has (reduce (Arrow s₁ s₂) (Lam b) (n ∷ ns)) (OverReduce (Arrow s₁ s₂) (Lam b) (n ∷ ns))
arrow_total s₁ s₂ b n ns (inr o) g = inr (now o)
arrow_total s₁ s₂ b n ns (inl h) g = go (g h.0 h.1)
  where
    go : Has (reduce s₂ h.0 ns) (OverReduce s₂ h.0 ns) → Has (reduce (Arrow s₁ s₂) (Lam b) (n ∷ ns)) (OverReduce (Arrow s₁ s₂) (Lam b) (n ∷ ns))
    go (inl k) = inl (k.0, ap (λ o. bind o (λ z. reduce s₂ z ns)) h.1 ∙ k.1)
    go (inr o) = inr (later (hsub_follows s₁ n 0 b h.0 h.1) o)

module _ (sig : Const → Option Simple) where
  abbrev Totals : Simple → Type 0
  Totals s = (Δ : List Simple) (m : Tree) (acc : List Tree) (a : ℕ) → SChecks sig Δ m s → AreArguments sig Δ s acc (Base a) → Has (reduce s m acc) (OverReduce s m acc)

  module _ (s : Simple) (total : Totals s) where
    var_total : (Δ Δ' : List Simple) (m : Tree) (x n : ℕ) (u : Simple) (acc : List Tree) (a : ℕ) → SplitsTypes x s Δ Δ' → SChecks sig Δ m s → at Δ' n ≡ Some u → AreArguments sig Δ u acc (Base a) →
        (p : Spot) → spot x n ≡ p → Has (at_spot (reduce s m acc) (λ k. Some (apps (Var k) acc)) p) (OverSpine s m x (Var n) acc)
    var_total Δ Δ' m x n u acc a hΔ dm e args (Other k) q = inl (apps (Var k) acc, refl)
    var_total Δ Δ' m x n u acc a hΔ dm e args Here q =
        let us : u ≡ s = some_injective (sym e ∙ hΔ n ∙ ap (type_or s Δ) q) in
        go (total Δ m acc a dm (subst (λ z. AreArguments sig Δ z acc (Base a)) us args))
      where
        go : Has (reduce s m acc) (OverReduce s m acc) → Has (reduce s m acc) (OverSpine s m x (Var n) acc)
        go (inl h) = inl h
        go (inr o) = inr (inr (m, s, meet_var q, o))

    mutual
      totalC : {Δ' : List Simple} {t : Tree} {u : Simple} → SChecks sig Δ' t u → (m : Tree) (x : ℕ) (Δ : List Simple) → SplitsTypes x s Δ Δ' → SChecks sig Δ m s → Has (hsub s m x t) (Overflows s m x t)
      totalC (lam_schecks {ctx = Δ'} {m = b} {s = u} d) m x Δ hΔ dm =
          lam_total m x b (fits (shift 1 0 m)) refl (totalC d (shift 1 0 m) (suc x) (u ∷ Δ) (SplitsTypes-under x s u Δ Δ' hΔ) (schecks-shift sig dm 1 0 (u ∷ Δ) (WidensTypes-one u Δ)))
      totalC (atom_schecks {r = t} {a = a} d) m x Δ hΔ dm = atom_total m x t (totalR d m x Δ [] a hΔ dm no_arguments)

      totalR : {Δ' : List Simple} {t : Tree} {u : Simple} → SSynth sig Δ' t u → (m : Tree) (x : ℕ) (Δ : List Simple) (acc : List Tree) (a : ℕ) → SplitsTypes x s Δ Δ' → SChecks sig Δ m s → AreArguments sig Δ u acc (Base a) →
          Has (walk (reduce s) m x t acc) (OverSpine s m x t acc)
      totalR (var_ssynth {ctx = Δ'} {n = n} {s = u} e) m x Δ acc a hΔ dm args = var_total Δ Δ' m x n u acc a hΔ dm e args (spot x n) refl
      totalR (con_ssynth {c = c} e) m x Δ acc a hΔ dm args = inl (apps (Con c) acc, refl)
      totalR (app_ssynth {r = f} {m = b} d k) m x Δ acc a hΔ dm args =
          app_total m x f b acc (totalC k m x Δ hΔ dm)
          (λ b' e. totalR d m x Δ (b' ∷ acc) a hΔ dm (more_arguments (hsub_simply sig s k m x Δ b' hΔ dm e) args))

  reduce_total : (s : Simple) → Totals s
  reduce_total (Base b) Δ m acc a dm no_arguments = inl (m, refl)
  reduce_total (Arrow s₁ s₂) Δ m acc a (lam_schecks {m = b} db) (more_arguments {a = n} {l = ns} dn args) =
      arrow_total s₁ s₂ b n ns (totalC s₁ (reduce_total s₁) db n 0 Δ (SplitsTypes-first s₁ Δ) dn)
      (λ m' e. reduce_total s₂ Δ m' ns a (hsub_simply sig s₁ db n 0 Δ m' (SplitsTypes-first s₁ Δ) dn e) args)

  -- the law: a result, or a shift on the way that reaches 2 ^ 32
  pub hsub_total : (s : Simple) {Δ' : List Simple} {t : Tree} {u : Simple} → SChecks sig Δ' t u → (m : Tree) (x : ℕ) (Δ : List Simple) → SplitsTypes x s Δ Δ' → SChecks sig Δ m s →
      Has (hsub s m x t) (Overflows s m x t)
  hsub_total s d m x Δ hΔ dm = totalC s (reduce_total s) d m x Δ hΔ dm
