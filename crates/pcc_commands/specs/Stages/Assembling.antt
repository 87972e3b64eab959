-- Stages that assemble a source.
use Rattle.std.specs.Prelude.{ℕ, List, Option, Result, Ok, Err, is_some}
use Rattle.policy_set.specs.Views.{PolicyView}
use Rattle.proof_container.specs.Contents.{Contents}
use Rattle.proof_container.specs.Encoding.{encoding_of}
use Rattle.proof_container.specs.Versions.{profile_of}
use Rattle.asm_text.specs.declared.fault.LineFlaw.{LineFlaw}
use Rattle.asm_text.specs.declared.limits.TheConstants.{MAX_SOURCE}
use Rattle.asm_text.specs.Names.{line_flaw_name}
use Rattle.asm_text.specs.Sources.{Source}
use Rattle.asm_text.specs.SourceParsing.{parsed_source}
use Rattle.pcc_asm.specs.declared.fault.AsmFlaw.{AsmFlaw}
use Rattle.pcc_asm.specs.Names.{asm_flaw_line, asm_flaw_name}
use Rattle.pcc_asm.specs.Assembling.{assembled_contents}
use Rattle.pcc_lines.specs.Fixed.{source_too_long_line}
use Rattle.pcc_lines.specs.Sources.{source_fault_line}
use Rattle.pcc_stages.specs.Stage.{Stage, stops, gives, reads, ◌>>=◌}
use Rattle.pcc_stages.specs.Stages.Common.{refused}

-- what was read as a source
abbrev pub source_found : Result Source (ℕ × LineFlaw) → Stage Source
source_found (Ok source) = gives source
source_found (Err fault) = stops (refused (source_fault_line fault.0 (line_flaw_name fault.1)))

-- the source that the text spells in the profile of the version; its invariants may name the steps
-- that are left where these are bounded
unfoldable pub source_in : ℕ → Option ℕ → List ℕ → Stage Source
source_in version bound text =
    source_found (parsed_source (profile_of version) (is_some bound) text)

-- the bytes of a container of what was assembled
abbrev pub container_made : Result Contents AsmFlaw → Stage (List ℕ)
container_made (Ok contents) = gives (encoding_of contents)
container_made (Err flaw) = stops (refused (source_fault_line (asm_flaw_line flaw) (asm_flaw_name flaw)))

-- the container of the version and the bound, as bytes, that the source is assembled into for the
-- policy
unfoldable pub assembled_as : ℕ → Option ℕ → PolicyView → Source → Stage (List ℕ)
assembled_as version bound policy source =
    container_made (assembled_contents version bound policy source)

-- the container of the version and the bound, as bytes, that the source which the text spells is
-- assembled into for the policy
unfoldable pub assembled_in : ℕ → Option ℕ → PolicyView → List ℕ → Stage (List ℕ)
assembled_in version bound policy text = do
  source ← source_in version bound text
  assembled_as version bound policy source

-- the text of the source's file of the name
abbrev pub source_text_of : List ℕ → Stage (List ℕ)
source_text_of name = reads name MAX_SOURCE (refused source_too_long_line) gives

-- the container of the version and the bound, as bytes, that the source in the file of the name is
-- assembled into for the policy
unfoldable pub assembled_of : ℕ → Option ℕ → PolicyView → List ℕ → Stage (List ℕ)
assembled_of version bound policy name = do
  text ← source_text_of name
  assembled_in version bound policy text
