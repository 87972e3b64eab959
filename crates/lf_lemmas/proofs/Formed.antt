-- What synthesises a type has one that is simply well formed and orderly.
use Rattle.std.proofs.Common.{◌≡◌, ℕ, zero, suc, ◌+◌, true, Option, Some, None, List, [], ◌∷◌, length, refl, ◌∙◌, ap, subst, suc-add, arith}
use Rattle.term_table.specs.Tree.{Tree, Pi, Const, at}
use Rattle.term_table.specs.Subst.{Simple, Arrow, erase}
use Rattle.term_table.proofs.Options.{some_injective}
use Rattle.term_table.proofs.Shifts.{shift-over}
use Rattle.lf_signature.specs.Typing.{Checks, Synth, var_synth, con_synth, app_synth}
use Rattle.lf_signature.specs.Simply.{simply, erased, SType, fam_stype, pi_stype}
use Rattle.lf_signature.specs.Order.{IsSignature}
use Rattle.lf_signature.specs.Terms.{form, pf}
use Rattle.lf_signature.specs.Laws.Applied.{pf_type}
use Rattle.lf_signature.specs.Laws.Booleans.{both}
use Rattle.lf_signature.specs.Laws.Restricted.{type_over_all}
use Rattle.lf_signature.specs.Laws.Simple.{erase-shift, erase-hsub_type, checks_simply, type_simply}
use Rattle.lf_lemmas.proofs.SimpleSubst.{SplitsTypes-first, WidensTypes, WidensTypes-one, stype-shift}
use Rattle.lf_lemmas.specs.Orderly.{is_orderly, AreOrderly}
use Rattle.lf_lemmas.proofs.TypeSubst.{stype_sub}

pi_parts : {sig : Const → Option Simple} {Δ : List Simple} {a b : Tree} → SType sig Δ (Pi a b) →
    SType sig Δ a × SType sig (erase a ∷ Δ) b
pi_parts (pi_stype d g) = (d, g)
pi_parts (fam_stype d) = elim d [ ]

-- the parts of an orderly arrow
pub arrow_parts : (s t : Simple) → is_orderly (Arrow s t) ≡ true →
    (is_orderly s ≡ true) × (is_orderly t ≡ true)
arrow_parts s t h = both _ _ (both _ _ h).0

-- a context has no variable past its own
past : (Δ : List Simple) (n : ℕ) → at Δ (length Δ + n) ≡ None
past [] n = refl
past (s ∷ Δ) n =
    let next : length (s ∷ Δ) + n ≡ suc (length Δ + n) = omega arith in
    ap (at (s ∷ Δ)) next ∙ past Δ n

-- a declared type is simply well formed in every context
declared_stype : (sig : Const → Option Tree) → IsSignature sig → (c : Const) (A : Tree) →
    sig c ≡ Some A → (Δ : List Simple) → SType (simply sig) Δ A
declared_stype sig lawful c A q Δ =
    let formed : SType (simply sig) [] A =
    type_simply sig (type_over_all sig c (lawful c A q).formed) in
    subst (λ z. SType (simply sig) Δ z) (shift-over (length Δ) 0 A (lawful c A q).closed)
    (stype-shift (simply sig) formed (length Δ) 0 Δ (past Δ))

module _ (sig : Const → Option Tree) where
  -- a type is simply well formed in a context, and orderly
  pub record IsFormed (Γ : List Tree) (A : Tree) : Type 0 where
    pub type : SType (simply sig) (erased Γ) A
    pub orderly : is_orderly (erase A) ≡ true

  -- each type of a context in what is further out
  abbrev pub AreFormed : List Tree → Type 0
  AreFormed [] = Unit {0}
  AreFormed (A ∷ Γ) = IsFormed Γ A × AreFormed Γ

  pub formed_pi : (Γ : List Tree) (a b : Tree) → IsFormed Γ (Pi a b) →
      IsFormed Γ a × IsFormed (a ∷ Γ) b
  formed_pi Γ a b f =
      let p = pi_parts f.type in
      let q = arrow_parts (erase a) (erase b) f.orderly in
      (record { type = p.0; orderly = q.0 }, record { type = p.1; orderly = q.1 })

  -- the proofs of a formula are a type
  pub formed_pf : (F : Tree) → Checks sig [] F form → IsFormed [] (pf F)
  formed_pf F d = record { type = type_simply sig (pf_type sig d); orderly = refl }

  -- a type of a context, in what is further out than it
  formed_at : (Γ : List Tree) (n : ℕ) (A : Tree) → AreFormed Γ → at Γ n ≡ Some A →
      (Δ : List Simple) × WidensTypes (suc n) 0 Δ (erased Γ) × SType (simply sig) Δ A
      × (is_orderly (erase A) ≡ true)
  formed_at [] n A ok e = cc
  formed_at (B ∷ Γ) zero A ok e =
      let q : B ≡ A = some_injective e in (
        erased Γ,
        WidensTypes-one (erase B) (erased Γ),
        subst (λ z. SType (simply sig) (erased Γ) z) q ok.0.type,
        subst (λ z. is_orderly (erase z) ≡ true) q ok.0.orderly,
      )
  formed_at (B ∷ Γ) (suc n) A ok e =
      let h = formed_at Γ n A ok.1 e in
      (h.0, (λ k. ap (at (erase B ∷ erased Γ)) (suc-add (suc n) k) ∙ h.1 k), h.2, h.3)

  module _ (lawful : IsSignature sig) (ordered : AreOrderly sig) where
    pub synth_formed : {Γ : List Tree} {t A : Tree} → Synth sig Γ t A → AreFormed Γ → IsFormed Γ A
    synth_formed (var_synth {ctx = Γ} {n = n} {a = A} e f) ok =
        let h = formed_at Γ n A ok e in
        record {
          type = stype-shift (simply sig) h.2 (suc n) 0 (erased Γ) h.1;
          orderly = ap is_orderly (erase-shift A (suc n) 0) ∙ h.3;
        }
    synth_formed (con_synth {ctx = Γ} {c = c} {a = A} e) ok =
        record { type = declared_stype sig lawful c A e (erased Γ); orderly = ordered c A e }
    synth_formed (app_synth {ctx = Γ} {a = A} {b = B} d g h) ok =
        let p = formed_pi Γ A B (synth_formed d ok) in
        let first = SplitsTypes-first (erase A) (erased Γ) in
        record {
          type = stype_sub (simply sig) h p.1.type (erased Γ) first (checks_simply sig g);
          orderly = ap is_orderly (erase-hsub_type h) ∙ p.1.orderly;
        }
