-- Answers of calls as they are kept, and contexts.
use Rattle.std.proofs.Common.{◌≡◌, ℕ, suc, Option, Result, Ok, Err, IfOk, IfSome, List, sym, ◌∙◌, subst, arith}
use Rattle.term_table.specs.Table.{TableView, IsKnown, tree_at, Extends, Stands}
use Rattle.prover_ids.specs.declared.hypotheses.Hypothesis.{Hypothesis}
use Rattle.prover_ids.specs.Hypotheses.{AreKnownHyps, AreHyps}
use Rattle.term_table.specs.Tree.{Var}
use Rattle.formula_tree.specs.Formulas.{Form, shift_form}
use Rattle.lf_terms.specs.Encoding.{form_encoding}
use Rattle.prover_class.specs.Hypotheses.{Hyps, raised_hyps, split_hyps, with_new}
use Rattle.prover_class.specs.Goals.{absurdity}
use Rattle.prover_bounds.specs.KeptBounds.{AreBounds}
use Rattle.prover_ids.proofs.HypRows.{known_hyps-more, hyps-before, hyps-after}
use Rattle.prover_goals.specs.Provers.{whole_proof, prover_of, IsProofBy}
use Rattle.prover_goals.specs.Answers.{IsFoundProof, AreAnswers}
use Rattle.prover_goals.specs.Search.{IsContext, IsAfter}
use Rattle.prover_goals.specs.Contexts.{IsUnderBinder, IsUnderHypothesis}
use Rattle.prover_goals.specs.declared.answers.Means.{Means}
use Rattle.prover_goals.specs.declared.search.Search.{Search}
use Rattle.prover_goals.specs.declared.search.Context.{Context}

-- what was answered in a later table of an id of an earlier one
pub made_proof : (t u : TableView) (l : List Hypothesis) (n : ℕ) (means : Means) (goal : ℕ) (o : Option ℕ) → AreKnownHyps t l → IsKnown t goal → Extends t u → IfSome o (IsKnown u) →
    IsProofBy (whole_proof (prover_of means)) t u l n goal o → IsFoundProof u l n means goal o
made_proof t u l n means goal o k g x known h = record {
  of = omega (arith, g, x.longer);
  known = known;
  is = λ Γ A a q. h Γ A (hyps-before t u l Γ k x a) (sym (x.same goal g) ∙ q);
}

-- the same under the hypotheses of a context with the same ones
pub made_after : (u : TableView) (s : Search) (c d : Context) (means : Means) (goal : ℕ) (o : Option ℕ) → IsFoundProof u c.hyps c.outside means goal o → IsAfter u s c d → IsFoundProof u d.hyps d.outside means goal o
made_after u s c d means goal o h a =
    subst (λ (n : ℕ). IsFoundProof u d.hyps n means goal o) (sym a.outside) (subst (λ (l : List Hypothesis). IsFoundProof u l c.outside means goal o) (sym a.hyps) h)

-- ---- contexts

-- a context that was made of hypotheses
pub context_made : (t u : TableView) (c : Context) (l : List Hypothesis) → AreKnownHyps t l → Extends t u → c.hyps ≡ l → AreBounds u c.hyps c.bounds → IfSome c.absurd (IsKnown u) → ((Γ : Hyps) → AreHyps t l Γ → Stands u (absurdity Γ) c.absurd) →
    AreAnswers u c.hyps c.answers → IsContext u c
context_made t u c l k x same bounds known absurd answers = record {
  hyps = subst (AreKnownHyps u) (sym same) (known_hyps-more t u l k x);
  bounds = bounds;
  absurd = record { known = known; is = λ Γ g. absurd Γ (hyps-before t u l Γ k x (subst (λ (m : List Hypothesis). AreHyps u m Γ) same g)) };
  answers = answers;
}

-- the context under a binder
pub under_binder_made : {E : Type 0} (t u v : TableView) (l under : List Hypothesis) (n outside : ℕ) (r : Result Context E) → outside ≡ suc n → ((Γ : Hyps) → AreHyps t l Γ → AreHyps u under (raised_hyps Γ)) → AreKnownHyps u under → Extends u v →
    IfOk r (IsContext v) → IfOk r (λ (c : Context). c.hyps ≡ under) → IfOk r (λ (c : Context). c.outside ≡ outside) → IfOk r (IsUnderBinder t v l n)
under_binder_made t u v l under n outside (Err e) o h k x context hyps out = tt
under_binder_made t u v l under n outside (Ok c) o h k x context hyps out = record {
  context = context;
  outside_is = out ∙ o;
  is = λ Γ g. subst (λ (m : List Hypothesis). AreHyps v m (raised_hyps Γ)) (sym hyps) (hyps-after u v under (raised_hyps Γ) k x (h Γ g));
}

-- under a hypothesis
pub under_hypothesis_made : {E : Type 0} (t u v : TableView) (l under : List Hypothesis) (n outside a : ℕ) (r : Result Context E) → outside ≡ suc n →
    ((Γ : Hyps) (A : Form) → AreHyps t l Γ → tree_at t a ≡ form_encoding A → AreHyps u under (with_new (raised_hyps Γ) (split_hyps (shift_form 1 0 A) (Var 0)))) → AreKnownHyps u under → Extends u v →
    IfOk r (IsContext v) → IfOk r (λ (c : Context). c.hyps ≡ under) → IfOk r (λ (c : Context). c.outside ≡ outside) → IfOk r (IsUnderHypothesis t v l n a)
under_hypothesis_made t u v l under n outside a (Err e) o h k x context hyps out = tt
under_hypothesis_made t u v l under n outside a (Ok c) o h k x context hyps out = record {
  context = context;
  outside_is = out ∙ o;
  is = λ Γ A g q.
      let inner = with_new (raised_hyps Γ) (split_hyps (shift_form 1 0 A) (Var 0)) in
      subst (λ (m : List Hypothesis). AreHyps v m inner) (sym hyps) (hyps-after u v under inner k x (h Γ A g q));
}
