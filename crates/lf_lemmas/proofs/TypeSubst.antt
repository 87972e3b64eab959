-- Hereditary substitution keeps types simply well formed.
use Rattle.std.proofs.Common.{ℕ, suc, Option, List, ◌∷◌, sym, subst}
use Rattle.term_table.specs.Tree.{Tree, shift, Const}
use Rattle.term_table.specs.Subst.{Simple, erase, HSubType, in_fam, in_tapp, in_pi}
use Rattle.term_table.proofs.Agree.{hsub_is}
use Rattle.lf_signature.specs.Simply.{SChecks, SFam, fam_sfam, tapp_sfam, SType, fam_stype, pi_stype}
use Rattle.lf_signature.specs.Laws.Simple.{erase-hsub_type}
use Rattle.lf_lemmas.proofs.SimpleSubst.{SplitsTypes, SplitsTypes-under, WidensTypes-one, schecks-shift, hsub_simply}

module _ (sig : Const → Option Simple) where
  -- families applied
  sfam_sub : {s : Simple} {m : Tree} {x : ℕ} {p out : Tree} → HSubType s m x p out →
      {Δ' : List Simple} {l : List Simple} → SFam sig Δ' p l → (Δ : List Simple) →
      SplitsTypes x s Δ Δ' → SChecks sig Δ m s → SFam sig Δ out l
  sfam_sub in_fam (fam_sfam e) Δ hΔ dm = fam_sfam e
  sfam_sub {s = s} {m = m} {x = x} (in_tapp {n' = n'} h g) (tapp_sfam d k) Δ hΔ dm =
      tapp_sfam (sfam_sub h d Δ hΔ dm) (hsub_simply sig s k m x Δ n' hΔ dm (hsub_is g))
  sfam_sub (in_pi h e g) d Δ hΔ dm = elim d [ ]

  -- types
  pub stype_sub : {s : Simple} {m : Tree} {x : ℕ} {T out : Tree} → HSubType s m x T out →
      {Δ' : List Simple} → SType sig Δ' T → (Δ : List Simple) →
      SplitsTypes x s Δ Δ' → SChecks sig Δ m s → SType sig Δ out
  stype_sub h (fam_stype d) Δ hΔ dm = fam_stype (sfam_sub h d Δ hΔ dm)
  stype_sub {s = s} {m = m} {x = x} (in_pi {b' = b'} h e g) (pi_stype {ctx = Δ'} {a = a} d k) Δ hΔ dm =
      let under = SplitsTypes-under x s (erase a) Δ Δ' hΔ in
      let raised = schecks-shift sig dm 1 0 (erase a ∷ Δ) (WidensTypes-one (erase a) Δ) in
      pi_stype (stype_sub h d Δ hΔ dm)
      (subst (λ z. SType sig (z ∷ Δ) b') (sym (erase-hsub_type h))
      (stype_sub {m = shift 1 0 m} {x = suc x} g k (erase a ∷ Δ) under raised))
