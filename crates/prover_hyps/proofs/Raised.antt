-- Hypotheses under one more binder.
use Rattle.std.proofs.Common.{◌≡◌, ◌<◌, ◌+◌, ℕ, zero, suc, List, [], ◌∷◌, ◌++◌, length, get_or, take, refl, sym, ◌∙◌, ap, subst, arith}
use Rattle.std.proofs.Math.Seq.{take-suc}
use Rattle.term_table.specs.Tree.{Tree, Lam, shift}
use Rattle.term_table.specs.Table.{TableView, IsKnown, tree_at}
use Rattle.lf_signature.specs.Numbers.{rel_constant}
use Rattle.lf_signature.specs.Terms.{app1, app2}
use Rattle.formula_tree.specs.Formulas.{Form, FTrue, FFalse, FRel, FRd, FWr, FAnd, FOr, FImp, FAll, FAllm, shift_form}
use Rattle.lf_terms.specs.Encoding.{form_encoding}
use Rattle.lf_terms.proofs.Encoded.{shift-exp_encoding}
use Rattle.prover_ids.specs.declared.hypotheses.Hypothesis.{Hypothesis}
use Rattle.prover_ids.specs.Hypotheses.{AreKnownHyps, AreHyps}
use Rattle.prover_class.specs.Hypotheses.{Hyps, raised_hyps}

pub shift-form_encoding : (A : Form) (k c : ℕ) → shift k c (form_encoding A) ≡ form_encoding (shift_form k c A)
shift-form_encoding FTrue k c = refl
shift-form_encoding FFalse k c = refl
shift-form_encoding (FRel p a b) k c = λ i. app2 (rel_constant p) (shift-exp_encoding a k c i) (shift-exp_encoding b k c i)
shift-form_encoding (FRd a) k c = ap (app1 20) (shift-exp_encoding a k c)
shift-form_encoding (FWr a) k c = ap (app1 21) (shift-exp_encoding a k c)
shift-form_encoding (FAnd A B) k c = λ i. app2 22 (shift-form_encoding A k c i) (shift-form_encoding B k c i)
shift-form_encoding (FOr A B) k c = λ i. app2 23 (shift-form_encoding A k c i) (shift-form_encoding B k c i)
shift-form_encoding (FImp A B) k c = λ i. app2 24 (shift-form_encoding A k c i) (shift-form_encoding B k c i)
shift-form_encoding (FAll A) k c = ap (λ z. app1 25 (Lam z)) (shift-form_encoding A k (suc c))
shift-form_encoding (FAllm A) k c = ap (λ z. app1 26 (Lam z)) (shift-form_encoding A k (suc c))

raised-append : (Γ : Hyps) (A : Form) (h : Tree) → raised_hyps (Γ ++ (A, h) ∷ []) ≡ raised_hyps Γ ++ (shift_form 1 0 A, shift 1 0 h) ∷ []
raised-append [] A h = refl
raised-append (x ∷ Γ) A h = ap (λ z. (shift_form 1 0 x.0, shift 1 0 x.1) ∷ z) (raised-append Γ A h)

-- the ids of one of the hypotheses
pub known-at : (t : TableView) (l : List Hypothesis) (i : ℕ) (d : Hypothesis) → AreKnownHyps t l → i < length l → IsKnown t (get_or l i d).form × IsKnown t (get_or l i d).proof
known-at t [] i d k n = absurd (omega (arith, n))
known-at t (y ∷ l) zero d k n = (k.0, k.1)
known-at t (y ∷ l) (suc i) d k n = known-at t l i d k.2 (omega (arith, n))

-- the hypotheses of a list with one more at its end
pub record AreMore (t : TableView) (l : List Hypothesis) (h : Hypothesis) (Γ : Hyps) : Type 0 where
  pub before : Hyps
  pub last : Form
  pub is : Γ ≡ before ++ (last, tree_at t h.proof) ∷ []
  pub before_are : AreHyps t l before
  pub last_is : tree_at t h.form ≡ form_encoding last

pub parted : (t : TableView) (l : List Hypothesis) (h : Hypothesis) (Γ : Hyps) → AreHyps t (l ++ h ∷ []) Γ → AreMore t l h Γ
parted t [] h [] a = absurd a
parted t [] h (x ∷ []) a = record { before = []; last = x.0; is = ap (λ (z : Tree). (x.0, z) ∷ []) (sym a.1); before_are = tt; last_is = a.0 }
parted t [] h (x ∷ z ∷ Γ) a = absurd a.2
parted t (y ∷ l) h [] a = absurd a
parted t (y ∷ l) h (x ∷ Γ) a =
    let p = parted t l h Γ a.2 in
    record { before = x ∷ p.before; last = p.last; is = ap (λ z. x ∷ z) p.is; before_are = (a.0, a.1, p.before_are); last_is = p.last_is }

pub same-at : (l : List Hypothesis) (i : ℕ) (d e : Hypothesis) → i < length l → get_or l i d ≡ get_or l i e
same-at [] i d e n = absurd (omega (arith, n))
same-at (y ∷ l) zero d e n = refl
same-at (y ∷ l) (suc i) d e n = same-at l i d e (omega (arith, n))

-- one more of the list is raised
pub raised-step : (t u : TableView) (l : List Hypothesis) (i : ℕ) (d e : Hypothesis) (under : List Hypothesis) → i < length l →
    ((Γ : Hyps) (A : Form) → AreHyps t (take i l) Γ → tree_at t (get_or l i d).form ≡ form_encoding A → AreHyps u under (raised_hyps Γ ++ (shift_form 1 0 A, shift 1 0 (tree_at t (get_or l i e).proof)) ∷ [])) →
    (Γ : Hyps) → AreHyps t (take (i + 1) l) Γ → AreHyps u under (raised_hyps Γ)
raised-step t u l i d e under n f Γ a =
    let next : i + 1 ≡ suc i = omega arith in
    let more : take (i + 1) l ≡ take i l ++ get_or l i e ∷ [] = ap (λ k. take k l) next ∙ take-suc l i e n in
    let p = parted t (take i l) (get_or l i e) Γ (subst (λ z. AreHyps t z Γ) more a) in
    subst (AreHyps u under) (sym (ap raised_hyps p.is ∙ raised-append p.before p.last (tree_at t (get_or l i e).proof)))
    (f p.before p.last p.before_are (ap (λ (z : Hypothesis). tree_at t z.form) (same-at l i d e n) ∙ p.last_is))
