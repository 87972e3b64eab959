use Rattle.std.proofs.Common.{◌≡◌, List, ℕ, None, Some, sym, ap, ◌∙◌}
use Rattle.pcc_gate.specs.First.{lemma_refusal}
use Rattle.auto_cli.proofs.Drafting.{draft_clean, draft_mended, draft_refused}
use Rattle.auto_cli.proofs.drafts.checked.Goals as goal

pub returns-in-Ok-None : goal.returns-in-Ok-None
returns-in-Ok-None c =
    let policy = c.args.policy.now in
    let bytes : List ℕ = c.args.bytes.items in
    let none : lemma_refusal policy bytes ≡ None =
    ap (lemma_refusal policy) (sym c.deref.ensures.value) ∙ c.in-Ok-None.ensures
    ∙ c.in-Ok-None.field-0-is in
    draft_clean policy bytes none

pub returns-then-is_mended : goal.returns-then-is_mended
returns-then-is_mended c =
    let policy = c.args.policy.now in
    let bytes : List ℕ = c.args.bytes.items in
    let refusal = c.in-Ok-Some.refusal in
    let some : lemma_refusal policy bytes ≡ Some refusal =
    ap (lemma_refusal policy) (sym c.deref.ensures.value) ∙ c.in-Ok-Some.ensures
    ∙ c.in-Ok-Some.field-0-is in
    draft_mended policy bytes refusal some (sym c.is_mended.ensures ∙ c.if-is_mended.true)

pub returns-in-Ok-Some : goal.returns-in-Ok-Some
returns-in-Ok-Some c =
    let policy = c.args.policy.now in
    let bytes : List ℕ = c.args.bytes.items in
    let refusal = c.in-Ok-Some.refusal in
    let some : lemma_refusal policy bytes ≡ Some refusal =
    ap (lemma_refusal policy) (sym c.deref.ensures.value) ∙ c.in-Ok-Some.ensures
    ∙ c.in-Ok-Some.field-0-is in
    draft_refused policy bytes refusal some (sym c.is_mended.ensures ∙ c.if-is_mended.false)
