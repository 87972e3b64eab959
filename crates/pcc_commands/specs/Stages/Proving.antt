-- Stages that make a proof.
use Rattle.std.specs.Prelude.{ℕ, List, Result, Ok, Err}
use Rattle.policy_set.specs.Views.{PolicyView}
use Rattle.pcc_lines.specs.Proving.{not_easy_line, too_big_line}
use Rattle.pcc_lines.specs.Refusals.{refusal_line}
use Rattle.bounds_prover.specs.declared.fault.ProveFlaw.{ProveFlaw}
use Rattle.bounds_prover.specs.declared.fault.ProveFlaw.TheVariants as flaw
use Rattle.bounds_prover.specs.Names.{measure_name}
use Rattle.bounds_prover.specs.Proving.{proved_container}
use Rattle.pcc_stages.specs.Exits.{Exit}
use Rattle.pcc_stages.specs.Stage.{Stage, stops, gives, ◌>>=◌}
use Rattle.pcc_stages.specs.Stages.Common.{refused}
use Rattle.pcc_stages.specs.Stages.Containers.{container_bytes_of}

-- the prover makes no container, and why
abbrev pub no_container : ProveFlaw → Exit
no_container (flaw.Refused refusal) = refused (refusal_line refusal)
no_container (flaw.NotEasy part) = refused (not_easy_line part)
no_container (flaw.TooBig measure number) = refused (too_big_line (measure_name measure) number)

-- what the prover makes
abbrev pub container_proved : Result (List ℕ) ProveFlaw → Stage (List ℕ)
container_proved (Ok bytes) = gives bytes
container_proved (Err e) = stops (no_container e)

-- the bytes of the container with a proof of its condition under the policy, or why there is none
unfoldable pub proved_in : PolicyView → List ℕ → Stage (List ℕ)
proved_in policy bytes = container_proved (proved_container policy bytes)

-- the bytes of the container in the file of the name with a proof of its condition under the policy
unfoldable pub proved_of : PolicyView → List ℕ → Stage (List ℕ)
proved_of policy name = do
  bytes ← container_bytes_of name
  proved_in policy bytes
