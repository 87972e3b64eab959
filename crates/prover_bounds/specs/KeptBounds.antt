-- What is kept of bounds says what the definition gives.
use Rattle.std.specs.Prelude.{◌≡◌, ℕ, true, Option, IfSome, List}
use Rattle.term_table.specs.Table.{TableView, IsKnown, tree_at}
use Rattle.formula_tree.specs.Formulas.{Exp}
use Rattle.lf_terms.specs.Encoding.{exp_encoding}
use Rattle.prover_ids.specs.Hypotheses.{AreHyps}
use Rattle.prover_ids.specs.Kept.{AreRight}
use Rattle.prover_ids.specs.declared.hypotheses.Hypothesis.{Hypothesis}
use Rattle.prover_class.specs.Hypotheses.{Hyps}
use Rattle.prover_class.specs.Bounds.{WordBound, upper_bound, lower_bound}
use Rattle.prover_bounds.specs.Choices.{IsChoice}
use Rattle.prover_bounds.specs.declared.bounds.Side.{Side}
use Rattle.prover_bounds.specs.declared.bounds.Side.TheVariants.{Upper, Lower}
use Rattle.prover_bounds.specs.declared.choices.Choice.{Choice}
use Rattle.prover_bounds.specs.declared.kept_bounds.Row.{Row}
use Rattle.prover_bounds.specs.declared.kept_bounds.Subject.{Subject}
use Rattle.prover_bounds.specs.declared.kept_bounds.KeptBounds.{KeptBounds}
use Rattle.prover_bounds.specs.contracts.kept_bounds.SubjectOrd.TheImpl as block

-- the bound from a side; from below, the one where steps are counted
abbrev pub bound_from : Side → Hyps → Exp → WordBound
bound_from Upper Γ e = upper_bound Γ e
bound_from Lower Γ e = lower_bound true Γ e

-- the choice is the bound's, and the id, where there is one, stands for its proof
pub record IsKept (t : TableView) (s : Side) (Γ : Hyps) (e : Exp) (choice : Choice) (proof : Option ℕ) : Type 0 where
  pub chosen : IsChoice s Γ e (bound_from s Γ e) choice
  pub made : IfSome proof (λ p. tree_at t p ≡ (bound_from s Γ e).proof)

-- the row has the bound of the expression under any hypotheses that the ids stand for
pub record IsBoundRow (t : TableView) (hyps : List Hypothesis) (subject : Subject) (r : Row) : Type 0 where
  pub of : IsKnown t subject.exp
  pub known : IfSome r.proof (IsKnown t)
  pub is : (Γ : Hyps) (x : Exp) → AreHyps t hyps Γ → tree_at t subject.exp ≡ exp_encoding x → IsKept t subject.side Γ x r.choice r.proof

-- each kept row is right
abbrev pub AreBounds : TableView → List Hypothesis → KeptBounds → Type 0
AreBounds t hyps kept = AreRight block.ghosts.cmp (λ u. IsBoundRow u hyps) t kept.rows
