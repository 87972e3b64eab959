-- Contexts under one more binder.
use Rattle.std.specs.Prelude.{◌≡◌, ℕ, suc, List}
use Rattle.term_table.specs.Tree.{Var}
use Rattle.term_table.specs.Table.{TableView, tree_at}
use Rattle.formula_tree.specs.Formulas.{Form, shift_form}
use Rattle.lf_terms.specs.Encoding.{form_encoding}
use Rattle.prover_ids.specs.declared.hypotheses.Hypothesis.{Hypothesis}
use Rattle.prover_ids.specs.Hypotheses.{AreHyps}
use Rattle.prover_class.specs.Hypotheses.{Hyps, raised_hyps, split_hyps, with_new}
use Rattle.prover_goals.specs.Search.{IsContext}
use Rattle.prover_goals.specs.declared.search.Context.{Context}

-- the context under one more binder
pub record IsUnderBinder (t u : TableView) (hyps : List Hypothesis) (outside : ℕ) (under : Context)
    : Type 0 where
  pub context : IsContext u under
  pub outside_is : under.outside ≡ suc outside
  pub is : (Γ : Hyps) → AreHyps t hyps Γ → AreHyps u under.hyps (raised_hyps Γ)

-- the context under a hypothesis, whatever formula its id stands for
pub record IsUnderHypothesis (t u : TableView) (hyps : List Hypothesis) (outside a : ℕ)
    (under : Context) : Type 0 where
  pub context : IsContext u under
  pub outside_is : under.outside ≡ suc outside
  pub is : (Γ : Hyps) (A : Form) → AreHyps t hyps Γ → tree_at t a ≡ form_encoding A
      → AreHyps u under.hyps (with_new (raised_hyps Γ) (split_hyps (shift_form 1 0 A) (Var 0)))
