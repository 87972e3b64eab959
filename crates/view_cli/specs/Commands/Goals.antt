-- `goals POLICY FILE [SOURCE] [--only-missing] [--all]`
use Rattle.std.specs.Prelude.{ℕ, Bool, List, Option, Result, Ok, Err}
use Rattle.policy_set.specs.Views.{PolicyView}
use Rattle.proof_container.specs.Contents.{Contents}
use Rattle.proof_container.specs.Decoding.{Fault, decoded_container}
use Rattle.view_container.specs.Beside.{BesideView, nothing_beside}
use Rattle.view_goal_text.specs.Styles.{StyleView}
use Rattle.view_goal_text.specs.Listing.{goals_of_bytes}
use Rattle.pcc_gate.specs.declared.refusal.Refusal.{Refusal}
use Rattle.pcc_lines.specs.Refusals.{refusal_line}
use Rattle.pcc_words.specs.Invocations.{PolicyWord}
use Rattle.pcc_stages.specs.Exits.{Exit}
use Rattle.pcc_stages.specs.Runs.{done_exit}
use Rattle.pcc_stages.specs.Stage.{Stage, stops, gives, ◌>>=◌}
use Rattle.pcc_stages.specs.Stages.Common.{refused}
use Rattle.pcc_stages.specs.Stages.Policies.{policy_told}
use Rattle.pcc_stages.specs.Stages.Containers.{container_bytes_of}
use Rattle.view_cli.specs.Commands.List.{source_beside}

-- the goals, or the line of the first clause before the proof that fails
abbrev pub goals_found : Result (List ℕ) Refusal → Stage Exit
goals_found (Ok text) = gives (done_exit text)
goals_found (Err r) = stops (refused (refusal_line r))

-- the source, where bytes were read as a container
abbrev pub beside_read : Option (List ℕ) → Result Contents Fault → Stage BesideView
beside_read source (Ok c) = source_beside c.version c.bound source
beside_read source (Err fault) = gives nothing_beside

-- the style of these lines and flags
abbrev pub style_of : Bool → Bool → List ℕ → StyleView
style_of only_missing all lines =
    record { lines = lines; only_missing = only_missing; all = all }

-- the goals in this style, beside the lines of a source
abbrev pub goals_styled : Bool → Bool → PolicyView → List ℕ → BesideView → Stage Exit
goals_styled only_missing all under bytes beside =
    goals_found (goals_of_bytes (style_of only_missing all beside.lines) under bytes)

-- the policy, the container, the source and what is wrong with it, what is wrong with the container
-- before its proof, and the goals
unfoldable pub goals_command : PolicyWord → List ℕ → Option (List ℕ) → Bool → Bool → Stage Exit
goals_command policy file source only_missing all = do
  under ← policy_told policy
  bytes ← container_bytes_of file
  beside ← beside_read source (decoded_container bytes)
  goals_styled only_missing all under bytes beside
