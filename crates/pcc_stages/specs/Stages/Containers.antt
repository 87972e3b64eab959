-- Stages that read a container: its bytes, and its code for a policy.
use Rattle.std.specs.Prelude.{ℕ, List, if◌then◌else◌, Result, Ok, Err}
use Rattle.alpha_words.specs.declared.insn.Insn.{Insn}
use Rattle.alpha_cfg.specs.declared.fault.CodeFlaw.{CodeFlaw}
use Rattle.alpha_cfg.specs.CodeDecoding.{decoded_code}
use Rattle.policy_set.specs.Views.{PolicyView}
use Rattle.proof_container.specs.Contents.{Contents}
use Rattle.proof_container.specs.Versions.{profile_of}
use Rattle.proof_container.specs.Decoding.{Fault, decoded_container}
use Rattle.pcc_lines.specs.Fixed.{container_too_long_line}
use Rattle.pcc_lines.specs.Refusals.{refusal_line}
use Rattle.pcc_gate.specs.declared.refusal.Refusal.TheVariants as refusal
use Rattle.pcc_gate.specs.ForPolicy.{is_for}
use Rattle.pcc_stages.specs.Stage.{Stage, stops, gives, reads, ◌>>=◌}
use Rattle.pcc_stages.specs.Stages.Common.{refused}
use Rattle.pcc_stages.specs.declared.files.TheConstants.{MAX_FILE}

-- what was read as a container, where it is for the policy
abbrev pub container_for : PolicyView → Result Contents Fault → Stage Contents
container_for policy (Ok c) =
    if is_for policy c.head then gives c else stops
    (refused (refusal_line (refusal.OtherPolicy c.head)))
container_for policy (Err fault) = stops (refused (refusal_line (refusal.Malformed fault.0 fault.1)))

-- the container that the bytes are, where it is for the policy
unfoldable pub container_in : PolicyView → List ℕ → Stage Contents
container_in policy bytes = container_for policy (decoded_container bytes)

-- what was read as code
abbrev pub code_found : Result (List Insn) CodeFlaw → Stage (List Insn)
code_found (Ok code) = gives code
code_found (Err flaw) = stops (refused (refusal_line (refusal.BadCode flaw)))

-- the code of the container that the bytes are, where it is for the policy
unfoldable pub code_in : PolicyView → List ℕ → Stage (List Insn)
code_in policy bytes = do
  container ← container_in policy bytes
  code_found (decoded_code (profile_of container.version) container.code)

-- the bytes of the container's file of the name
abbrev pub container_bytes_of : List ℕ → Stage (List ℕ)
container_bytes_of name = reads name MAX_FILE (refused container_too_long_line) gives

-- the code of the container in the file of the name, where it is for the policy
unfoldable pub code_of : PolicyView → List ℕ → Stage (List Insn)
code_of policy name = do
  bytes ← container_bytes_of name
  code_in policy bytes
