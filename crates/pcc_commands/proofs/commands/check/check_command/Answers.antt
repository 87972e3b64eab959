use Rattle.policy_set.specs.Views.{PolicyView}
use Rattle.pcc_stages.specs.Stage.{◌>>=◌}
use Rattle.pcc_words.specs.Commands.{word_view}
use Rattle.pcc_stages.specs.Stages.Policies.{policy_told}
use Rattle.pcc_stages.proofs.StageLemmas.{stops_first, gives_then}
use Rattle.pcc_commands.specs.Commands.Check.{check_command}
use Rattle.pcc_commands.specs.Inside.Behind.{check_under}
use Rattle.pcc_commands.specs.Reports.{effect_of}
use Rattle.pcc_commands.proofs.DecisionLemmas.{decides_report}
use Rattle.pcc_commands.proofs.commands.check.check_command.Goals as goal

pub returns-in_err-policy : goal.returns-in_err-policy
unfolding check_command
returns-in_err-policy g c =
    let a = c.args.args in
    let told = policy_told (word_view a.policy) in
    decides_report (told >>= check_under a.file.now) _ _ _ _ c.from_residual.result
    (stops_first (check_under a.file.now) (λ (policy : PolicyView). policy) effect_of told _ _ _ _
    c.in_err-policy.field-0.0 c.from_residual.result c.in_err-policy.ensures
    c.from_residual.ensures.1)

pub returns : goal.returns
unfolding check_command
returns g c =
    let a = c.args.args in
    let told = policy_told (word_view a.policy) in
    decides_report (told >>= check_under a.file.now) _ _ _ _ c.check_under.result
    (gives_then (check_under a.file.now) (λ (policy : PolicyView). policy) effect_of told _ _ _ _
    _ _ c.in_ok-policy.policy c.check_under.result c.in_ok-policy.ensures c.check_under.ensures)
