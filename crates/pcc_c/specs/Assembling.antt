-- The container that a source is assembled into.
use Rattle.std.specs.Prelude.{◌≡◌, ◌≤◌, ℕ, Bool, not, ◌==◌, ◌&&◌, nat_lt, nat_le, if◌then◌else◌, List, length, Option, Some, None, is_some, Result, Ok, Err}
use Rattle.term_table.specs.Steps.{◌>>=◌}
use Rattle.policy_set.specs.Views.{PolicyView}
use Rattle.proof_container.specs.Contents.{Contents}
use Rattle.proof_container.specs.Encoding.{encoding_of}
use Rattle.lf_signature.specs.declared.editions.TheConstants.{MAX_VERSION}
use Rattle.proof_container.specs.Versions.{is_bounded, profile_of}
use Rattle.proof_container.specs.declared.limits.TheConstants.{MAX_BOUND}
use Rattle.asm_text.specs.Sources.{Source, SpellsSource}
use Rattle.asm_text.specs.SourceParsing.{parsed_source}
use Rattle.asm_text.specs.declared.fault.LineFlaw.{LineFlaw}
use Rattle.asm_text.specs.declared.limits.TheConstants.{MAX_SOURCE}
use Rattle.pcc_asm.specs.Assembling.{Assembles, assembled_contents}
use Rattle.pcc_asm.specs.Limits.{IsWithinLimits}
use Rattle.pcc_asm.specs.declared.fault.AsmFlaw.{AsmFlaw}
use Rattle.pcc_c.specs.declared.reason.Reason.{Reason}
use Rattle.pcc_c.specs.declared.reason.Reason.TheVariants as reason
use Rattle.pcc_c.specs.Policies.{policy_for}

-- ---- the answer

-- whether there is such a version
abbrev pub is_version : ℕ → Bool
is_version version = nat_le 1 version && nat_le version MAX_VERSION

-- the step bound, where 0 says that there is none: a version that bounds the steps has one, and no
-- other version
abbrev pub bound_given : ℕ → ℕ → Result (Option ℕ) Reason
bound_given version bound =
    if not (is_version version) then Err reason.BadVersion else
    if is_bounded version && nat_lt 0 bound && nat_le bound MAX_BOUND then Ok (Some bound) else
    if not (is_bounded version) && bound == 0 then Ok None else
    Err reason.BadVersion

-- what was read as a source
abbrev pub source_read : Result Source (ℕ × LineFlaw) → Result Source Reason
source_read (Ok source) = Ok source
source_read (Err fault) = Err (reason.BadLine fault.0 fault.1)

-- the source that the text spells in the profile of the version, if the text isn't too long; its
-- invariants may name the remaining steps if there is a bound
abbrev pub source_given : ℕ → Option ℕ → List ℕ → Result Source Reason
source_given version bound text =
    if nat_lt MAX_SOURCE (length text) then Err reason.SourceTooLong else
    source_read (parsed_source (profile_of version) (is_some bound) text)

-- the bytes of a container of what was assembled
abbrev pub container_written : Result Contents AsmFlaw → Result (List ℕ) Reason
container_written (Ok contents) = Ok (encoding_of contents)
container_written (Err flaw) = Err (reason.BadCode flaw)

-- what `pcc_asm` makes: the container of the version, with the bound and for the policy, that the
-- source in the text is assembled into
unfoldable pub asm_answer : ℕ → ℕ → List ℕ → List ℕ → Result (List ℕ) Reason
asm_answer version bound given text = do
  steps ← bound_given version bound
  policy ← policy_for version given
  source ← source_given version steps text
  container_written (assembled_contents version steps policy source)

-- ---- what it means

-- The bytes are a container of the version, without a proof, that has the code and the invariants
-- of the source, the bound, and what names the policy.
pub record IsContainerOf (version : ℕ) (bound : Option ℕ) (policy : PolicyView) (source : Source)
    (out : List ℕ) : Type 0 where
  pub contents : Contents
  pub assembles : Assembles version bound policy source contents
  pub within : IsWithinLimits contents
  pub encoded : out ≡ encoding_of contents

-- The bytes are such a container of the source in the text, which isn't too long, for the policy
-- that bytes give and with the bound, where 0 says that there is none.
pub record IsAssemblyFor (version bound : ℕ) (given text out : List ℕ) : Type 0 where
  pub steps : Option ℕ
  pub policy : PolicyView
  pub source : Source
  pub bounded : bound_given version bound ≡ Ok steps
  pub gives : policy_for version given ≡ Ok policy
  pub short : length text ≤ MAX_SOURCE
  pub spells : SpellsSource (profile_of version) (is_some steps) text source
  pub container : IsContainerOf version steps policy source out

-- no bytes are such a container
abbrev pub HasNoAssembly : ℕ → ℕ → List ℕ → List ℕ → Type 0
HasNoAssembly version bound given text =
    (out : List ℕ) → IsAssemblyFor version bound given text out → ⊥
