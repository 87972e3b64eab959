use Rattle.pcc_stages.specs.Stage.{gives}
use Rattle.auto_search.specs.Outcomes.{outcome_view}
use Rattle.auto_cli.specs.Drafts.{draft_with}
use Rattle.auto_cli.proofs.Decided.{finds_settled, finds_nothing}
use Rattle.auto_cli.proofs.finding.searched.Goals as goal

pub returns-in-Ok : goal.returns-in-Ok
returns-in-Ok g c =
    let a = c.args in
    finds_settled a.output.now (draft_with a.policy.now a.container.now) (outcome_view c.in-Ok.outcome)
    _ _ _ _ c.settled.result c.in-Ok.ensures.outcome c.settled.ensures

pub returns-in-Err : goal.returns-in-Err
returns-in-Err g c =
    let a = c.args in
    finds_nothing a.output.now (gives (draft_with a.policy.now a.container.now)) _ _
