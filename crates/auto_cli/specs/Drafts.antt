-- What IN is: a container as it stands, or the one that a source is assembled into.
use Rattle.std.specs.Prelude.{ℕ, Bool, true, false, ◌&&◌, List, length, nat_lt, take, if◌then◌else◌, Option, Some, None, codes}
use Rattle.std.specs.Str.{bytes_eq}
use Rattle.asm_text.specs.declared.limits.TheConstants.{MAX_SOURCE}
use Rattle.policy_set.specs.Views.{PolicyView}
use Rattle.pcc_gate.specs.First.{lemma_refusal}
use Rattle.pcc_gate.specs.declared.refusal.Refusal.{Refusal}
use Rattle.pcc_gate.specs.declared.refusal.Refusal.TheVariants as refusal
use Rattle.pcc_lines.specs.Fixed.{source_too_long_line}
use Rattle.pcc_lines.specs.Refusals.{refusal_line}
use Rattle.pcc_stages.specs.Stage.{Stage, stops, gives, ◌>>=◌}
use Rattle.pcc_stages.specs.Stages.Common.{refused}
use Rattle.pcc_stages.specs.Stages.Containers.{container_bytes_of}
use Rattle.pcc_stages.specs.Stages.Policies.{policy_told}
use Rattle.pcc_commands.specs.Stages.Assembling.{assembled_in}
use Rattle.auto_cli.specs.Arguments.{AutoArgs}
use Rattle.auto_cli.specs.Texts.{flags_line}

-- a policy, and the bytes of a container for it
pub record DraftView : Type 0 where
  pub policy : PolicyView
  pub bytes : List ℕ

-- the bytes begin as a container does
unfoldable pub is_container : List ℕ → Bool
is_container bytes = bytes_eq (codes "PCCA") (take 4 bytes)

-- invariants may mend it: a loop that has none, or paths between them that are too long
abbrev pub is_mended : Refusal → Bool
is_mended (refusal.Uncut index) = true
is_mended (refusal.UnfoldLimit length) = true
is_mended other = false

-- these bytes as a draft
abbrev pub draft_with : PolicyView → List ℕ → DraftView
draft_with policy bytes = record { policy = policy; bytes = bytes }

-- the draft, unless it is refused and invariants can't mend that
abbrev pub draft_unless : Option Refusal → DraftView → Stage DraftView
draft_unless None draft = gives draft
draft_unless (Some r) draft =
    if is_mended r then gives draft else stops (refused (refusal_line r))

-- the bytes as a draft, unless a check up to the invariants fails, or one of the lemmas alone
unfoldable pub draft_from : PolicyView → List ℕ → Stage DraftView
draft_from policy bytes = draft_unless (lemma_refusal policy bytes) (draft_with policy bytes)

-- the container that the text is assembled into
unfoldable pub assembled_text : AutoArgs → PolicyView → List ℕ → Stage (List ℕ)
assembled_text args policy text =
    if nat_lt MAX_SOURCE (length text)
    then stops (refused source_too_long_line)
    else assembled_in args.version args.bound policy text

-- what was read as a container: one as it stands, or an assembled source
unfoldable pub container_from : AutoArgs → PolicyView → List ℕ → Stage (List ℕ)
container_from args policy bytes =
    if is_container bytes then gives bytes else assembled_text args policy bytes

-- a flag is given, and what was read is a container
abbrev pub has_vain_flags : AutoArgs → List ℕ → Bool
has_vain_flags args bytes = args.flagged && is_container bytes

-- what was read as a draft; no flag goes with a container
unfoldable pub draft_in : AutoArgs → PolicyView → List ℕ → Stage DraftView
draft_in args policy bytes =
    if has_vain_flags args bytes
    then stops (refused flags_line)
    else (container_from args policy bytes >>= draft_from policy)

-- the policy, IN, and what is wrong with either
unfoldable pub draft_of : AutoArgs → Stage DraftView
draft_of args = do
  policy ← policy_told args.policy
  bytes ← container_bytes_of args.input
  draft_in args policy bytes
