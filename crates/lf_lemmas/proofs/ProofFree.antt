-- Expressions, memories and formulas have no proofs in them: no lemmas, no variables for proofs.
use Rattle.std.proofs.Common.{◌≡◌, ℕ, zero, suc, Bool, true, false, cond, ◌&&◌, Option, Some, List, [], ◌∷◌, refl, sym, ◌∙◌, ap, subst, option_map}
use Rattle.term_table.specs.Tree.{Tree, Con, Const, Lemma, at, Spot, Here, Other, spot}
use Rattle.term_table.specs.Subst.{Simple, Base, Arrow, erase}
use Rattle.term_table.proofs.Options.{some_injective}
use Rattle.lf_signature.specs.Typing.{family_kind}
use Rattle.lf_signature.specs.Simply.{SChecks, lam_schecks, atom_schecks, SSynth, var_ssynth, con_ssynth, app_ssynth, domains, SFam, fam_sfam, tapp_sfam, SType, fam_stype, pi_stype}
use Rattle.lf_signature.specs.Laws.Booleans.{both, and_of}
use Rattle.lf_lemmas.proofs.SimpleSubst.{type_or, SplitsTypes, SplitsTypes-under}
use Rattle.lf_lemmas.specs.Orderly.{is_proof_free, ends_proof_free, is_orderly}
use Rattle.lf_lemmas.specs.WrittenOut.{cites_below}
use Rattle.lf_lemmas.proofs.Absent.{is_other, is_absent}
use Rattle.lf_lemmas.proofs.Formed.{arrow_parts}

then_holds : (a b : Bool) → cond a b true ≡ true → a ≡ true → b ≡ true
then_holds true b h e = h
then_holds false b h e = cc

then_of : (a b : Bool) → b ≡ true → cond a b true ≡ true
then_of true b h = h
then_of false b h = refl

-- what ends in an expression, a memory or a formula has no proofs in it
free_of : (s : Simple) → is_orderly s ≡ true → ends_proof_free s ≡ true → is_proof_free s ≡ true
free_of (Base a) o h = h
free_of (Arrow s t) o h =
    then_holds (ends_proof_free t) (is_proof_free s && is_proof_free t) (both _ _ o).1 h

-- what has no proofs in it is orderly
free_orderly : (s : Simple) → is_proof_free s ≡ true → is_orderly s ≡ true
free_orderly (Base a) h = refl
free_orderly (Arrow s t) h =
    let b = both _ _ h in
    and_of _ _ (and_of _ _ (free_orderly s b.0) (free_orderly t b.1))
    (then_of (ends_proof_free t) (is_proof_free s && is_proof_free t) h)

abbrev pub AllOrderly : List Simple → Type 0
AllOrderly Δ = (n : ℕ) (s : Simple) → at Δ n ≡ Some s → is_orderly s ≡ true

pub orderly_under : (s : Simple) (Δ : List Simple) → is_orderly s ≡ true → AllOrderly Δ →
    AllOrderly (s ∷ Δ)
orderly_under s Δ h all zero t e = subst (λ z. is_orderly z ≡ true) (some_injective e) h
orderly_under s Δ h all (suc n) t e = all n t e

abbrev AllFree : List Simple → Type 0
AllFree [] = Unit {0}
AllFree (s ∷ l) = (is_proof_free s ≡ true) × AllFree l

family_free : (a : ℕ) (l : List Simple) → option_map domains (family_kind a) ≡ Some l → AllFree l
family_free zero l e = subst AllFree (some_injective e) tt
family_free (suc zero) l e = subst AllFree (some_injective e) tt
family_free (suc (suc zero)) l e = subst AllFree (some_injective e) tt
family_free (suc (suc (suc zero))) l e = subst AllFree (some_injective e) (refl, tt)
family_free (suc (suc (suc (suc n)))) l e = cc

-- a signature of simple types whose lemmas, if any, are proofs
module _ (sig : Const → Option Simple)
    (ordered : (c : Const) (s : Simple) → sig c ≡ Some s → is_orderly s ≡ true) where
  sfam_free : {Δ : List Simple} {p : Tree} {l : List Simple} → SFam sig Δ p l → AllFree l
  sfam_free (fam_sfam {l = l} {a = a} e) = family_free a l e
  sfam_free (tapp_sfam d g) = (sfam_free d).1

  -- what an atomic term's simple type says of the term
  abbrev Says : Simple → Type 0 → Type 0
  Says s P =
      (is_orderly s ≡ true) × (ends_proof_free s ≡ true → (is_proof_free s ≡ true) × P)

  says : (s : Simple) (P : Type 0) → is_orderly s ≡ true → (ends_proof_free s ≡ true → P) → Says s P
  says s P o p = (o, λ h. (free_of s o h, p h))

  says_app : (s t : Simple) (P Q R : Type 0) → (P → Q → R) → Says (Arrow s t) P →
      (is_proof_free s ≡ true → Q) → Says t R
  says_app s t P Q R join h q =
      let o = arrow_parts s t h.0 in
      (o.1, λ l. let k = h.1 l in let b = both _ _ k.0 in (b.1, join k.1 (q b.0)))

  module _ (proofs : (n : ℕ) (s : Simple) → sig (Lemma n) ≡ Some s →
      ends_proof_free s ≡ false) where
    con_plain : (c : Const) (s : Simple) → sig c ≡ Some s → ends_proof_free s ≡ true →
        cites_below 0 (Con c) ≡ true
    con_plain (Lemma n) s e h = let z : false ≡ true = sym (proofs n s e) ∙ h in cc
    con_plain c s e h = refl

    mutual
      -- a term whose type has no proofs in it cites no lemma
      pub free_plain : {Δ : List Simple} {m : Tree} {s : Simple} → SChecks sig Δ m s →
          is_proof_free s ≡ true → AllOrderly Δ → cites_below 0 m ≡ true
      free_plain (lam_schecks {ctx = Δ} {s = s} d) h all =
          let b = both _ _ h in
          free_plain d b.1 (orderly_under s Δ (free_orderly s b.0) all)
      free_plain (atom_schecks d) h all = ((atom_plain d all).1 h).1

      atom_plain : {Δ : List Simple} {r : Tree} {s : Simple} → SSynth sig Δ r s →
          AllOrderly Δ → Says s (cites_below 0 r ≡ true)
      atom_plain (var_ssynth {n = n} {s = s} e) all = says s _ (all n s e) (λ h. refl)
      atom_plain (con_ssynth {c = c} {s = s} e) all =
          says s _ (ordered c s e) (λ h. con_plain c s e h)
      atom_plain (app_ssynth {s = s} {t = t} d g) all =
          says_app s t _ _ _ (and_of _ _) (atom_plain d all) (λ h. free_plain g h all)

  -- a variable whose type has proofs in it
  module _ (s₀ : Simple) (proofs : is_proof_free s₀ ≡ false) where
    var_absent : (Δ Δ' : List Simple) (x n : ℕ) (s : Simple) → SplitsTypes x s₀ Δ Δ' →
        at Δ' n ≡ Some s → is_proof_free s ≡ true → (p : Spot) → spot x n ≡ p →
        is_other (spot x n) ≡ true
    var_absent Δ Δ' x n s hΔ e h (Other k) q = ap is_other q
    var_absent Δ Δ' x n s hΔ e h Here q =
        let us : s ≡ s₀ = some_injective (sym e ∙ hΔ n ∙ ap (type_or s₀ Δ) q) in
        let z : false ≡ true = sym proofs ∙ sym (ap is_proof_free us) ∙ h in
        cc

    mutual
      term_absent : {Δ' : List Simple} {m : Tree} {s : Simple} → SChecks sig Δ' m s →
          is_proof_free s ≡ true → AllOrderly Δ' → (x : ℕ) (Δ : List Simple) →
          SplitsTypes x s₀ Δ Δ' → is_absent x m ≡ true
      term_absent (lam_schecks {ctx = Δ'} {s = s} d) h all x Δ hΔ =
          let b = both _ _ h in
          term_absent d b.1 (orderly_under s Δ' (free_orderly s b.0) all) (suc x) (s ∷ Δ)
          (SplitsTypes-under x s₀ s Δ Δ' hΔ)
      term_absent (atom_schecks d) h all x Δ hΔ = ((atom_absent d all x Δ hΔ).1 h).1

      atom_absent : {Δ' : List Simple} {r : Tree} {s : Simple} → SSynth sig Δ' r s →
          AllOrderly Δ' → (x : ℕ) (Δ : List Simple) → SplitsTypes x s₀ Δ Δ' →
          Says s (is_absent x r ≡ true)
      atom_absent (var_ssynth {ctx = Δ'} {n = n} {s = s} e) all x Δ hΔ =
          let o = all n s e in
          says s _ o (λ h. var_absent Δ Δ' x n s hΔ e (free_of s o h) (spot x n) refl)
      atom_absent (con_ssynth {c = c} {s = s} e) all x Δ hΔ = says s _ (ordered c s e) (λ h. refl)
      atom_absent (app_ssynth {s = s} {t = t} d g) all x Δ hΔ =
          says_app s t _ _ _ (and_of _ _) (atom_absent d all x Δ hΔ)
          (λ h. term_absent g h all x Δ hΔ)

    family_absent : {Δ' : List Simple} {p : Tree} {l : List Simple} → SFam sig Δ' p l →
        AllOrderly Δ' → (x : ℕ) (Δ : List Simple) → SplitsTypes x s₀ Δ Δ' →
        is_absent x p ≡ true
    family_absent (fam_sfam e) all x Δ hΔ = refl
    family_absent (tapp_sfam d g) all x Δ hΔ =
        and_of _ _ (family_absent d all x Δ hΔ) (term_absent g (sfam_free d).0 all x Δ hΔ)

    -- it isn't in an orderly type
    pub type_absent : {Δ' : List Simple} {T : Tree} → SType sig Δ' T →
        is_orderly (erase T) ≡ true → AllOrderly Δ' → (x : ℕ) (Δ : List Simple) →
        SplitsTypes x s₀ Δ Δ' → is_absent x T ≡ true
    type_absent (fam_stype d) o all x Δ hΔ = family_absent d all x Δ hΔ
    type_absent (pi_stype {ctx = Δ'} {a = a} {b = b} d g) o all x Δ hΔ =
        let p = arrow_parts (erase a) (erase b) o in
        and_of _ _ (type_absent d p.0 all x Δ hΔ)
        (type_absent g p.1 (orderly_under (erase a) Δ' p.0 all) (suc x) (erase a ∷ Δ)
        (SplitsTypes-under x s₀ (erase a) Δ Δ' hΔ))
