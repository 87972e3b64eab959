use Rattle.std.proofs.Common.{List, ℕ, Vec, Global, Err, sym, subst}
use Rattle.pcc_stages.specs.Answers.{GivesPure}
use Rattle.pcc_stages.specs.Stage.{Stage}
use Rattle.pcc_stages.proofs.StageLemmas.{pure_stops, pure_gives}
use Rattle.auto_cli.specs.Arguments.{auto_args_view}
use Rattle.auto_cli.specs.Drafts.{DraftView, draft_with, draft_from, container_from}
use Rattle.auto_cli.proofs.Drafting.{draft_behind}
use Rattle.auto_cli.proofs.drafts.draft_in.Goals as goal

pub returns-in-Err : goal.returns-in-Err
returns-in-Err c =
    let a = auto_args_view c.args.args.now in
    let policy = c.args.policy.now in
    let bytes : List ℕ = c.args.bytes.items in
    subst
    (λ (s : Stage DraftView). GivesPure (λ (v : Vec ℕ Global). draft_with policy v.items) s
    (Err c.in-Err.stop))
    (sym (draft_behind a policy bytes c.requires.flags))
    (pure_stops (draft_from policy) (container_from a policy bytes) c.in-Err.stop c.in-Err.ensures)

pub returns : goal.returns
returns c =
    let a = auto_args_view c.args.args.now in
    let policy = c.args.policy.now in
    let bytes : List ℕ = c.args.bytes.items in
    let view : Vec ℕ Global → DraftView = λ v. draft_with policy v.items in
    subst (λ (s : Stage DraftView). GivesPure view s c.checked.result)
    (sym (draft_behind a policy bytes c.requires.flags))
    (pure_gives (draft_from policy) view (container_from a policy bytes) c.in-Ok.container.items
    c.in-Ok.ensures c.checked.result c.checked.ensures)
