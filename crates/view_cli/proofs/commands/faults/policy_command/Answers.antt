use Rattle.std.proofs.Common.{ℕ, List, Vec, Global, subst}
use Rattle.view_faults.specs.PolicyReports.{policy_report}
use Rattle.pcc_stages.specs.Stage.{gives}
use Rattle.pcc_stages.specs.Stages.Policies.{policy_bytes_of}
use Rattle.pcc_stages.specs.Answers.{GivesPure}
use Rattle.pcc_stages.proofs.StageLemmas.{lifted, stops_first, gives_then}
use Rattle.view_cli.specs.Commands.Faults.{told_exit, policy_command}
use Rattle.view_cli.specs.Reports.{exit_of_report}
use Rattle.view_cli.proofs.commands.faults.policy_command.Goals as goal

pub returns-in_err-text : goal.returns-in_err-text
unfolding policy_command
returns-in_err-text g c =
    stops_first (λ text. gives (told_exit (policy_report text))) (λ (v : Vec ℕ Global). v.items)
    exit_of_report (policy_bytes_of c.args.name.now) _ _ _ _ c.in_err-text.field-0.0
    c.from_residual.result c.in_err-text.ensures.exact c.from_residual.ensures.1

pub returns : goal.returns
unfolding policy_command
returns g c =
    let text = c.in_ok-text.text.items in
    gives_then (λ text. gives (told_exit (policy_report text))) (λ (v : Vec ℕ Global). v.items)
    exit_of_report (policy_bytes_of c.args.name.now) _ _ _ _ _ _ c.in_ok-text.text
    c.policy_told.result c.in_ok-text.ensures.exact
    (lifted exit_of_report (gives (told_exit (policy_report text))) _ _ c.policy_told.result
    (subst
    (λ (b : List ℕ). GivesPure exit_of_report (gives (told_exit (policy_report b)))
    c.policy_told.result) c.deref.ensures.value c.policy_told.ensures))
