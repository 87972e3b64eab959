use Rattle.std.proofs.Common.{ℕ, List, true, Ok, Err, ap, subst}
use Rattle.view_goal_text.specs.Answers.{IsGoalsAnswer}
use Rattle.view_goal_text.specs.Styles.{StyleView}
use Rattle.view_goal_text.specs.declared.fault.GoalsFault.{GoalsFault}
use Rattle.auto_cli.proofs.Decided.{left_goals_are}
use Rattle.auto_cli.proofs.finding.left_goals.Goals as goal

pub returns-in-Ok : goal.returns-in-Ok
returns-in-Ok c =
    let style : List ℕ → StyleView = λ lines. record { lines = lines; only_missing = true; all = true } in
    left_goals_are c.args.policy.now c.args.kept.now (style c.new.result.items) (Ok c.in-Ok.text.items)
    (ap style c.new.ensures.items) c.in-Ok.ensures.exact

pub returns-in-Err-Refused : goal.returns-in-Err-Refused
returns-in-Err-Refused c =
    let style : List ℕ → StyleView = λ lines. record { lines = lines; only_missing = true; all = true } in
    left_goals_are c.args.policy.now c.args.kept.now (style c.new.result.items) (Err c.in-Err-Refused.refusal)
    (ap style c.new.ensures.items)
    (subst (λ (f : GoalsFault). IsGoalsAnswer (style c.new.result.items) c.args.policy.now c.args.kept.now (Err f))
    c.in-Err-Refused.field-0-is c.in-Err-Refused.ensures.exact)
