-- `formula FILE [--v2] [--bound]`, `formula FILE --policy`, and `source FILE [--v2] [--bound N]`
use Rattle.std.specs.Prelude.{ℕ, Bool, true, false, List, length, nat_lt, if◌then◌else◌, Option}
use Rattle.asm_text.specs.declared.limits.TheConstants.{MAX_SOURCE}
use Rattle.word_ops.specs.declared.Profile.{Profile}
use Rattle.view_faults.specs.FormReports.{formula_report}
use Rattle.view_faults.specs.PolicyReports.{policy_report}
use Rattle.view_source_faults.specs.SourceReports.{source_report}
use Rattle.pcc_lines.specs.Fixed.{source_too_long_line}
use Rattle.pcc_stages.specs.Exits.{Exit}
use Rattle.pcc_stages.specs.Runs.{done_exit}
use Rattle.pcc_stages.specs.Stage.{Stage, gives, reads, ◌>>=◌}
use Rattle.pcc_stages.specs.Stages.Common.{refused}
use Rattle.pcc_stages.specs.Stages.Policies.{policy_bytes_of}
use Rattle.view_cli.specs.Texts.{formula_too_long_line}
use Rattle.view_cli.specs.declared.limits.TheConstants.{MAX_FORMULA}

-- the text in the file of the name
abbrev pub text_of : List ℕ → Stage (List ℕ)
text_of name = reads name MAX_SOURCE (refused source_too_long_line) gives

-- what is said of a text, which is right or wrong
abbrev pub told_exit : Bool × List ℕ → Exit
told_exit (true, text) = done_exit text
told_exit (false, text) = refused text

-- what is said of a formula's text, where it isn't too long; over the operators of the profile, and
-- whether it may name the steps that are left
abbrev pub formula_exit : Profile → Bool → List ℕ → Exit
formula_exit profile left text =
    if nat_lt MAX_FORMULA (length text) then refused formula_too_long_line
    else told_exit (formula_report profile left text)

-- the text, and what is said of it as a formula's
unfoldable pub formula_command : List ℕ → Profile → Bool → Stage Exit
formula_command file profile left = do
  text ← text_of file
  gives (formula_exit profile left text)

-- the text, and what is said of it as a policy's
unfoldable pub policy_command : List ℕ → Stage Exit
policy_command file = do
  text ← policy_bytes_of file
  gives (told_exit (policy_report text))

-- the text, and what is said of it as a source's
unfoldable pub source_command : List ℕ → ℕ → Option ℕ → Stage Exit
source_command file version bound = do
  text ← text_of file
  gives (told_exit (source_report version bound text))
