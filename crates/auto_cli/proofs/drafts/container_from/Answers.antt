use Rattle.std.proofs.Common.{◌≡◌, List, ℕ, Vec, Global, true, false, sym, ap, ◌∙◌, subst, arith}
use Rattle.pcc_stages.specs.Answers.{GivesPure}
use Rattle.pcc_stages.specs.Stage.{Stage}
use Rattle.pcc_commands.specs.Stages.Assembling.{assembled_in}
use Rattle.auto_cli.specs.Arguments.{auto_args_view}
use Rattle.auto_cli.specs.Drafts.{is_container}
use Rattle.auto_cli.proofs.Drafting.{as_container, too_long_text, as_assembled}
use Rattle.auto_cli.proofs.drafts.container_from.Goals as goal

pub returns-then-is_container : goal.returns-then-is_container
returns-then-is_container c =
    let bytes : List ℕ = c.args.bytes.items in
    let is : is_container bytes ≡ true =
    ap is_container (sym c.deref.ensures.value) ∙ sym c.is_container.ensures
    ∙ c.if-is_container.true in
    as_container (auto_args_view c.args.args.now) c.args.policy.now bytes is

pub returns-then-len-gt-MAX_SOURCE : goal.returns-then-len-gt-MAX_SOURCE
returns-then-len-gt-MAX_SOURCE c =
    let bytes : List ℕ = c.args.bytes.items in
    let is : is_container bytes ≡ false =
    ap is_container (sym c.deref.ensures.value) ∙ sym c.is_container.ensures
    ∙ c.if-is_container.false in
    too_long_text (auto_args_view c.args.args.now) c.args.policy.now bytes is (omega arith)

pub returns : goal.returns
returns c =
    let a = auto_args_view c.args.args.now in
    let policy = c.args.policy.now in
    let bytes : List ℕ = c.args.bytes.items in
    let is : is_container bytes ≡ false =
    ap is_container (sym c.deref.ensures.value) ∙ sym c.is_container.ensures
    ∙ c.if-is_container.false in
    subst
    (λ (s : Stage (List ℕ)). GivesPure (λ (v : Vec ℕ Global). v.items) s c.assembled_in.result)
    (sym (as_assembled a policy bytes is (omega arith)))
    (subst
    (λ (b : List ℕ). GivesPure (λ (v : Vec ℕ Global). v.items)
    (assembled_in a.version a.bound policy b) c.assembled_in.result)
    c.deref-2.ensures.value c.assembled_in.ensures)
