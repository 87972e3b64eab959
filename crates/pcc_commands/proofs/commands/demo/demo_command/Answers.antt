use Rattle.pcc_stages.specs.Stages.Common.{policy_named}
use Rattle.pcc_stages.proofs.StageLemmas.{lifted}
use Rattle.pcc_stages.proofs.DecisionLemmas.{no_policy, under_policy}
use Rattle.pcc_commands.specs.Commands.Demo.{demo_effect, demo_policy, demo_command}
use Rattle.pcc_commands.specs.Reports.{effect_of}
use Rattle.pcc_commands.proofs.DecisionLemmas.{decides_report}
use Rattle.pcc_commands.proofs.commands.demo.demo_command.Goals as goal

pub returns-in_err-policy : goal.returns-in_err-policy
unfolding demo_command
returns-in_err-policy g c =
    no_policy (policy_named demo_policy) (λ under. demo_effect under c.args.n) _ _ c.in_err-policy.field-0.0 c.from_residual.result c.in_err-policy.ensures c.from_residual.ensures.1

pub returns : goal.returns
unfolding demo_command
returns g c =
    let under = c.in_ok-policy.policy in
    under_policy (policy_named demo_policy) (λ under. demo_effect under c.args.n) under _ _ _ _ _
    c.in_ok-policy.ensures
    (decides_report (demo_effect under c.args.n) _ _ _ _ c.report.result
    (lifted effect_of (demo_effect under c.args.n) _ _ c.report.result c.report.ensures))
