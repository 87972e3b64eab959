-- Whether bytes are accepted under the policy that other bytes give.
use Rattle.std.specs.Prelude.{◌≡◌, ◌⊎◌, ℕ, List, Option, Some, None, Result, Ok, Err}
use Rattle.term_table.specs.Steps.{◌>>=◌}
use Rattle.policy_set.specs.Views.{PolicyView}
use Rattle.vcgen.specs.Safety.{IsSafe}
use Rattle.pcc_gate.specs.Answers.{IsAcceptedBy}
use Rattle.pcc_gate.specs.First.{first_refusal}
use Rattle.pcc_gate.specs.Safe.{ReturnsInBound}
use Rattle.pcc_gate.specs.Views.{AcceptedView}
use Rattle.pcc_gate.specs.declared.refusal.Refusal.{Refusal}
use Rattle.pcc_lines.specs.Fixed.{accepted_line}
use Rattle.pcc_c.specs.declared.reason.Reason.{Reason}
use Rattle.pcc_c.specs.declared.reason.Reason.TheVariants as reason
use Rattle.pcc_c.specs.declared.statuses.TheConstants.{DONE}
use Rattle.pcc_c.specs.Statuses.{answer_status, IsShortage}
use Rattle.pcc_c.specs.Reasons.{without_last}
use Rattle.pcc_c.specs.Policies.{policy_given}

-- nothing, unless there is a refusal
abbrev pub refusal_answer : Option Refusal → Result (Unit {0}) Reason
refusal_answer None = Ok tt
refusal_answer (Some refusal) = Err (reason.Refused refusal)

-- what `pcc_check` answers: by the first acceptance check that fails, under the policy that the
-- first bytes give
abbrev pub check_answer : List ℕ → List ℕ → Result (Unit {0}) Reason
check_answer given bytes = do
  policy ← policy_given given
  refusal_answer (first_refusal policy bytes)

-- what `pcc_explain` puts into the buffer if the bytes are accepted, else why they aren't
abbrev pub explain_answer : List ℕ → List ℕ → Result (List ℕ) Reason
explain_answer given bytes = do
  accepted ← check_answer given bytes
  Ok (without_last accepted_line)

-- the status is that of the answer, unless memory or cached results ran out
abbrev pub IsCheckStatus : List ℕ → List ℕ → ℕ → Type 0
IsCheckStatus given bytes status =
    IsShortage status ⊎ (status ≡ answer_status (check_answer given bytes))

-- The bytes are accepted under the policy. Their code is safe for it, and returns within its step
-- bound, if their container has one.
pub record IsSafeCode (policy : PolicyView) (bytes : List ℕ) : Type 0 where
  pub accepted : AcceptedView
  pub holds : IsAcceptedBy policy bytes accepted
  pub safe : IsSafe accepted.code policy.pre policy.post
  pub returns : ReturnsInBound policy accepted.bound accepted.code

-- the first bytes give a policy, under which the second are accepted and their code is safe
pub record IsSafeUnder (given bytes : List ℕ) : Type 0 where
  pub policy : PolicyView
  pub gives : policy_given given ≡ Ok policy
  pub code : IsSafeCode policy bytes

-- that is so if the status is the one of success
abbrev pub SafeIfDone : List ℕ → List ℕ → ℕ → Type 0
SafeIfDone given bytes status = status ≡ DONE → IsSafeUnder given bytes
