-- Stages that find the policy that a word tells: a built-in one by its name, or the one that a file
-- spells.
use Rattle.std.specs.Prelude.{ℕ, List, Result, Ok, Err}
use Rattle.formula_text.specs.Names.{text_flaw_name}
use Rattle.policy_set.specs.Views.{PolicyView}
use Rattle.policy_set.specs.declared.fault.PolicyFlaw.{PolicyFlaw}
use Rattle.policy_set.specs.declared.fault.PolicyFlaw.TheVariants as flaw
use Rattle.policy_set.specs.PolicyText.{policy_read}
use Rattle.pcc_words.specs.Invocations.{PolicyWord, named, from_file}
use Rattle.pcc_lines.specs.Fixed.{policy_too_long_line}
use Rattle.pcc_lines.specs.Policies.{policy_lines_line, policy_length_line, policy_form_line}
use Rattle.pcc_stages.specs.Exits.{Exit}
use Rattle.pcc_stages.specs.Stage.{Stage, stops, gives, reads, ◌>>=◌}
use Rattle.pcc_stages.specs.Stages.Common.{refused, policy_named}
use Rattle.pcc_stages.specs.declared.files.TheConstants.{MAX_POLICY_FILE}

-- a file spells no policy, and why
abbrev pub no_policy_spelled : PolicyFlaw → Exit
no_policy_spelled (flaw.Lines count) = refused (policy_lines_line count)
no_policy_spelled (flaw.Length line) = refused (policy_length_line line)
no_policy_spelled (flaw.Form line position what) =
    refused (policy_form_line line position (text_flaw_name what))

-- what was read as a policy
abbrev pub policy_spelled : Result PolicyView PolicyFlaw → Stage PolicyView
policy_spelled (Ok policy) = gives policy
policy_spelled (Err e) = stops (no_policy_spelled e)

-- the policy that the bytes spell
unfoldable pub policy_in : List ℕ → Stage PolicyView
policy_in bytes = policy_spelled (policy_read bytes)

-- the bytes of the policy's file of the name
abbrev pub policy_bytes_of : List ℕ → Stage (List ℕ)
policy_bytes_of name = reads name MAX_POLICY_FILE (refused policy_too_long_line) gives

-- the policy that the file of the name spells
unfoldable pub policy_from : List ℕ → Stage PolicyView
policy_from name = do
  bytes ← policy_bytes_of name
  policy_in bytes

-- the policy that the word tells
abbrev pub policy_told : PolicyWord → Stage PolicyView
policy_told (named name) = policy_named name
policy_told (from_file name) = policy_from name
