use Rattle.pcc_stages.specs.Stages.Common.{policy_named}
use Rattle.pcc_stages.proofs.DecisionLemmas.{no_policy, under_policy}
use Rattle.pcc_commands.specs.Commands.Running.{run_command}
use Rattle.pcc_commands.specs.Inside.Behind.{run_under}
use Rattle.pcc_commands.proofs.DecisionLemmas.{decides_report}
use Rattle.pcc_commands.proofs.commands.running.run_command.Goals as goal

pub returns-in_err-policy : goal.returns-in_err-policy
unfolding run_command
returns-in_err-policy g c =
    let a = c.args.args in
    no_policy (policy_named a.policy.now) (run_under a.file.now a.packets.now a.steps) _ _ c.in_err-policy.field-0.0 c.from_residual.result c.in_err-policy.ensures c.from_residual.ensures.1

pub returns : goal.returns
unfolding run_command
returns g c =
    let a = c.args.args in
    let under = c.in_ok-policy.policy in
    under_policy (policy_named a.policy.now) (run_under a.file.now a.packets.now a.steps) under _ _
    _ _ _ c.in_ok-policy.ensures
    (decides_report (run_under a.file.now a.packets.now a.steps under) _ _ _ _ c.run_under.result
    c.run_under.ensures)
