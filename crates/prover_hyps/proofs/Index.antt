-- The first proof of a formula in a list that has one more hypothesis at its end.
use Rattle.std.proofs.Common.{◌≡◌, ℕ, ◌==◌, Bool, true, false, cond, Option, Some, None, List, [], ◌∷◌, ◌++◌, refl, sym, ◌∙◌, ap, subst, eqb-true}
use Rattle.prover_ids.specs.declared.hypotheses.Hypothesis.{Hypothesis}
use Rattle.prover_hyps.specs.Places.{first_hyp_proof}

-- the first of two, if there is one
abbrev or_last : Option ℕ → Option ℕ → Option ℕ
or_last (Some p) o = Some p
or_last None o = o

or_last-none : (o : Option ℕ) → or_last o None ≡ o
or_last-none None = refl
or_last-none (Some p) = refl

first-push : (l : List Hypothesis) (h : Hypothesis) (k : ℕ) → first_hyp_proof (l ++ h ∷ []) k ≡ or_last (first_hyp_proof l k) (cond (h.form == k) (Some h.proof) None)
first-push [] h k = refl
first-push (x ∷ l) h k = go (x.form == k) (first-push l h k)
  where
    go : (b : Bool) → first_hyp_proof (l ++ h ∷ []) k ≡ or_last (first_hyp_proof l k) (cond (h.form == k) (Some h.proof) None) →
        cond b (Some x.proof) (first_hyp_proof (l ++ h ∷ []) k) ≡ or_last (cond b (Some x.proof) (first_hyp_proof l k)) (cond (h.form == k) (Some h.proof) None)
    go true e = refl
    go false e = e

-- a formula that has a proof already
pub first-old : (l : List Hypothesis) (h : Hypothesis) (form p : ℕ) → form ≡ h.form → first_hyp_proof l form ≡ Some p → (k : ℕ) → first_hyp_proof l k ≡ first_hyp_proof (l ++ h ∷ []) k
first-old l h form p f q k = go (h.form == k) refl ∙ sym (first-push l h k)
  where
    go : (b : Bool) → (h.form == k) ≡ b → first_hyp_proof l k ≡ or_last (first_hyp_proof l k) (cond b (Some h.proof) None)
    go true e =
        let is : first_hyp_proof l k ≡ Some p = ap (first_hyp_proof l) (sym (f ∙ eqb-true h.form k e)) ∙ q in
        subst (λ z. z ≡ or_last z (Some h.proof)) (sym is) refl
    go false e = sym (or_last-none (first_hyp_proof l k))

-- a formula that has none yet
pub first-new : (l : List Hypothesis) (h : Hypothesis) (form : ℕ) → form ≡ h.form → first_hyp_proof l form ≡ None → (k : ℕ) → cond (form == k) (Some h.proof) (first_hyp_proof l k) ≡ first_hyp_proof (l ++ h ∷ []) k
first-new l h form f q k = go (h.form == k) refl ∙ sym (first-push l h k)
  where
    go : (b : Bool) → (h.form == k) ≡ b → cond (form == k) (Some h.proof) (first_hyp_proof l k) ≡ or_last (first_hyp_proof l k) (cond b (Some h.proof) None)
    go true e =
        let is : first_hyp_proof l k ≡ None = ap (first_hyp_proof l) (sym (f ∙ eqb-true h.form k e)) ∙ q in
        subst (λ z. cond z (Some h.proof) (first_hyp_proof l k) ≡ or_last (first_hyp_proof l k) (Some h.proof)) (sym (ap (λ z. z == k) f ∙ e))
        (subst (λ z. Some h.proof ≡ or_last z (Some h.proof)) (sym is) refl)
    go false e =
        subst (λ z. cond z (Some h.proof) (first_hyp_proof l k) ≡ or_last (first_hyp_proof l k) None) (sym (ap (λ z. z == k) f ∙ e)) (sym (or_last-none (first_hyp_proof l k)))
