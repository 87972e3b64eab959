-- The container that gets a proof.
use Rattle.std.specs.Prelude.{◌≡◌, ℕ, List, Result, Ok, Err}
use Rattle.term_table.specs.Steps.{◌>>=◌}
use Rattle.policy_set.specs.Views.{PolicyView}
use Rattle.pcc_gate.specs.Accepted.{IsAccepted}
use Rattle.bounds_prover.specs.declared.fault.ProveFlaw.{ProveFlaw}
use Rattle.bounds_prover.specs.declared.fault.ProveFlaw.TheVariants as flaw
use Rattle.bounds_prover.specs.Proving.{proved_container}
use Rattle.pcc_c.specs.declared.reason.Reason.{Reason}
use Rattle.pcc_c.specs.declared.reason.Reason.TheVariants as reason
use Rattle.pcc_c.specs.Policies.{policy_given}

-- why there is no proof
abbrev pub prove_reason : ProveFlaw → Reason
prove_reason (flaw.Refused refusal) = reason.Refused refusal
prove_reason (flaw.NotEasy part) = reason.NotEasy part
prove_reason (flaw.TooBig measure number) = reason.TooBig measure number

-- what the prover makes
abbrev pub container_proven : Result (List ℕ) ProveFlaw → Result (List ℕ) Reason
container_proven (Ok made) = Ok made
container_proven (Err e) = Err (prove_reason e)

-- what `pcc_prove` makes: the container in the bytes with a proof of its condition under the policy
abbrev pub prove_answer : List ℕ → List ℕ → Result (List ℕ) Reason
prove_answer given bytes = do
  policy ← policy_given given
  container_proven (proved_container policy bytes)

-- the first bytes give a policy, under which the second are accepted
pub record IsAcceptedUnder (given bytes : List ℕ) : Type 0 where
  pub policy : PolicyView
  pub gives : policy_given given ≡ Ok policy
  pub accepted : IsAccepted policy bytes
