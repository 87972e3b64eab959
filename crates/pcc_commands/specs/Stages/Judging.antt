-- Stages that judge a container.
use Rattle.std.specs.Prelude.{ℕ, List, length, Option, Some, None}
use Rattle.alpha_words.specs.declared.insn.Insn.{Insn}
use Rattle.policy_set.specs.Views.{PolicyView}
use Rattle.pcc_lines.specs.Refusals.{refusal_line}
use Rattle.pcc_gate.specs.declared.refusal.Refusal.{Refusal}
use Rattle.pcc_gate.specs.First.{first_refusal}
use Rattle.pcc_stages.specs.Stage.{Stage, stops, gives, ◌>>=◌}
use Rattle.pcc_stages.specs.Stages.Common.{refused}
use Rattle.pcc_stages.specs.Stages.Containers.{container_in, code_in, container_bytes_of}

-- a refusal ends the command with its line
abbrev pub stops_if_refused : Option Refusal → Stage (Unit {0})
stops_if_refused None = gives tt
stops_if_refused (Some refusal) = stops (refused (refusal_line refusal))

-- that the bytes are accepted under the policy, or the first clause that fails
unfoldable pub accepted_in : PolicyView → List ℕ → Stage (Unit {0})
accepted_in policy bytes = stops_if_refused (first_refusal policy bytes)

-- the code of the container that the bytes are, where it is accepted under the policy
unfoldable pub accepted_code_in : PolicyView → List ℕ → Stage (List Insn)
accepted_code_in policy bytes = do
  accepted ← accepted_in policy bytes
  code_in policy bytes

-- code, and how many invariants it has
pub record Shown : Type 0 where
  pub code : List Insn
  pub invariants : ℕ

-- what the container that the bytes are shows, where it is accepted under the policy
unfoldable pub shown_in : PolicyView → List ℕ → Stage Shown
shown_in policy bytes = do
  accepted ← accepted_in policy bytes
  container ← container_in policy bytes
  code ← code_in policy bytes
  gives (record { code = code; invariants = length container.invs })

-- that the file of the name is accepted under the policy
unfoldable pub accepted_of : PolicyView → List ℕ → Stage (Unit {0})
accepted_of policy name = do
  bytes ← container_bytes_of name
  accepted_in policy bytes

-- the code of the container in the file of the name, where it is accepted under the policy
unfoldable pub accepted_code_of : PolicyView → List ℕ → Stage (List Insn)
accepted_code_of policy name = do
  bytes ← container_bytes_of name
  accepted_code_in policy bytes
