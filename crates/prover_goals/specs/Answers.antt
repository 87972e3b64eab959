-- What is kept of goals, and of whether hypotheses are absurd.
use Rattle.std.specs.Prelude.{ℕ, Option, IfSome, List}
use Rattle.term_table.specs.Table.{TableView, IsKnown, Stands}
use Rattle.prover_ids.specs.declared.hypotheses.Hypothesis.{Hypothesis}
use Rattle.prover_ids.specs.Kept.{AreRight}
use Rattle.prover_ids.specs.declared.kept.Kept.{Kept}
use Rattle.prover_ids.specs.Hypotheses.{AreHyps}
use Rattle.prover_class.specs.Hypotheses.{Hyps}
use Rattle.prover_class.specs.Goals.{absurdity}
use Rattle.prover_goals.specs.Provers.{whole_proof, prover_of, IsProofBy}
use Rattle.prover_goals.specs.declared.answers.Means.{Means}
use Rattle.prover_goals.specs.declared.answers.Goal.{Goal}
use Rattle.prover_goals.specs.contracts.answers.GoalOrd.TheImpl as block

-- the answer is right of the goal
pub record IsFoundProof (t : TableView) (hyps : List Hypothesis) (outside : ℕ) (means : Means) (goal : ℕ) (o : Option ℕ) : Type 0 where
  pub of : IsKnown t goal
  pub known : IfSome o (IsKnown t)
  pub is : IsProofBy (whole_proof (prover_of means)) t t hyps outside goal o

-- the answer is right of the question
abbrev pub IsAnswer : TableView → List Hypothesis → Goal → Option ℕ → Type 0
IsAnswer t hyps q o = IsFoundProof t hyps q.outside q.means q.goal o

-- each kept answer is right
abbrev pub AreAnswers : TableView → List Hypothesis → Kept Goal (Option ℕ) → Type 0
AreAnswers t hyps kept = AreRight block.ghosts.cmp (λ u. IsAnswer u hyps) t kept

-- the proof of falsity is the one that the definition gives the hypotheses, or none
pub record IsAbsurdity (t : TableView) (hyps : List Hypothesis) (o : Option ℕ) : Type 0 where
  pub known : IfSome o (IsKnown t)
  pub is : (Γ : Hyps) → AreHyps t hyps Γ → Stands t (absurdity Γ) o
