-- What a draft comes to, by what its bytes are and what is refused of them.
use Rattle.std.proofs.Common.{◌≡◌, ℕ, ◌<◌, ◌≤◌, Bool, true, false, if◌then◌else◌, List, length, lt-ltb, le-ltb, Option, Some, None, refl, ap, ◌∙◌}
use Rattle.asm_text.specs.declared.limits.TheConstants.{MAX_SOURCE}
use Rattle.policy_set.specs.Views.{PolicyView}
use Rattle.pcc_gate.specs.First.{lemma_refusal}
use Rattle.pcc_gate.specs.declared.refusal.Refusal.{Refusal}
use Rattle.pcc_gate.specs.declared.refusal.Refusal.TheVariants as refusal
use Rattle.pcc_lines.specs.Fixed.{source_too_long_line}
use Rattle.pcc_lines.specs.Refusals.{refusal_line}
use Rattle.pcc_stages.specs.Stage.{stops, gives, ◌>>=◌}
use Rattle.pcc_stages.specs.Stages.Common.{refused}
use Rattle.pcc_commands.specs.Stages.Assembling.{assembled_in}
use Rattle.auto_cli.specs.Arguments.{AutoArgs}
use Rattle.auto_cli.specs.Drafts.{DraftView, is_container, is_mended, has_vain_flags, draft_with, draft_unless, draft_from, assembled_text}
use Rattle.auto_cli.specs.Drafts.{container_from, draft_in}
use Rattle.auto_cli.specs.Texts.{flags_line}

-- ---- what is refused

-- a refusal that is neither of the two isn't mended
pub not_mended : (r : Refusal) → ((i : ℕ) → r ≡ refusal.Uncut i → ⊥)
    → ((n : ℕ) → r ≡ refusal.UnfoldLimit n → ⊥) → false ≡ is_mended r
not_mended (refusal.TooLong length) a b = refl
not_mended (refusal.Malformed offset flaw) a b = refl
not_mended (refusal.OtherPolicy head) a b = refl
not_mended (refusal.BadCode flaw) a b = refl
not_mended (refusal.Height h) a b = refl
not_mended (refusal.InvNotForm k) a b = refl
not_mended (refusal.LemmaNotForm k) a b = refl
not_mended (refusal.Uncut i) a b = absurd (a i refl)
not_mended (refusal.UnfoldLimit n) a b = absurd (b n refl)
not_mended refusal.NoProof a b = refl
not_mended (refusal.ProofWeight n) a b = refl
not_mended (refusal.LemmaNotProof k) a b = refl
not_mended refusal.NotProof a b = refl

module _ (policy : PolicyView) (bytes : List ℕ) where
  abbrev draft : DraftView
  draft = draft_with policy bytes

  unless_is : (o : Option Refusal) → lemma_refusal policy bytes ≡ o
      → draft_from policy bytes ≡ draft_unless o draft
  unfolding draft_from
  unless_is o e = ap (λ x. draft_unless x draft) e

  -- nothing is refused
  pub draft_clean : lemma_refusal policy bytes ≡ None → draft_from policy bytes ≡ gives draft
  draft_clean e = unless_is None e

  pub draft_mended : (r : Refusal) → lemma_refusal policy bytes ≡ Some r → is_mended r ≡ true
      → draft_from policy bytes ≡ gives draft
  draft_mended r e m =
      unless_is (Some r) e
      ∙ ap (λ (b : Bool). if b then gives draft else stops (refused (refusal_line r))) m

  pub draft_refused : (r : Refusal) → lemma_refusal policy bytes ≡ Some r → is_mended r ≡ false
      → draft_from policy bytes ≡ stops (refused (refusal_line r))
  draft_refused r e m =
      unless_is (Some r) e
      ∙ ap (λ (b : Bool). if b then gives draft else stops (refused (refusal_line r))) m

-- ---- what the bytes are

module _ (args : AutoArgs) (policy : PolicyView) (bytes : List ℕ) where
  pub as_container : is_container bytes ≡ true → container_from args policy bytes ≡ gives bytes
  unfolding container_from
  as_container e =
      ap (λ (b : Bool). if b then gives bytes else assembled_text args policy bytes) e

  as_text : is_container bytes ≡ false
      → container_from args policy bytes ≡ assembled_text args policy bytes
  unfolding container_from
  as_text e = ap (λ (b : Bool). if b then gives bytes else assembled_text args policy bytes) e

  -- the text is too long
  pub too_long_text : is_container bytes ≡ false → MAX_SOURCE < length bytes
      → container_from args policy bytes ≡ stops (refused source_too_long_line)
  unfolding assembled_text
  too_long_text e long =
      as_text e
      ∙ ap
      (λ (b : Bool). if b then stops (refused source_too_long_line) else assembled_in args.version args.bound policy bytes)
      (lt-ltb MAX_SOURCE (length bytes) long)

  -- the text is assembled
  pub as_assembled : is_container bytes ≡ false → length bytes ≤ MAX_SOURCE
      → container_from args policy bytes ≡ assembled_in args.version args.bound policy bytes
  unfolding assembled_text
  as_assembled e short =
      as_text e
      ∙ ap
      (λ (b : Bool). if b then stops (refused source_too_long_line) else assembled_in args.version args.bound policy bytes)
      (le-ltb MAX_SOURCE (length bytes) short)

  -- no flag is in vain
  pub draft_behind : has_vain_flags args bytes ≡ false
      → draft_in args policy bytes ≡ (container_from args policy bytes >>= draft_from policy)
  unfolding draft_in
  draft_behind e =
      ap
      (λ (b : Bool). if b then stops (refused flags_line) else (container_from args policy bytes >>= draft_from policy))
      e
