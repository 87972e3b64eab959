use Rattle.std.proofs.Common.{ℕ, List, Vec, Global, option_map, ap, subst}
use Rattle.policy_set.specs.Views.{PolicyView}
use Rattle.proof_container.specs.Decoding.{decoded_container}
use Rattle.pcc_words.specs.Commands.{word_view}
use Rattle.pcc_stages.specs.Answers.{GivesPure}
use Rattle.pcc_stages.specs.Stages.Containers.{container_bytes_of}
use Rattle.pcc_stages.specs.Stages.Policies.{policy_told}
use Rattle.pcc_stages.proofs.StageLemmas.{lifted, stops_first, gives_then}
use Rattle.view_cli.specs.Commands.Goals.{beside_read, goals_styled, goals_command}
use Rattle.view_cli.specs.Inside.Founds.{beside_source}
use Rattle.view_cli.specs.Reports.{exit_of_report}
use Rattle.view_cli.proofs.CommandStages.{same_stage, goals_stage, goals_under}
use Rattle.view_cli.proofs.commands.goals.goals_command.Goals as goal

pub returns-in_err-policy : goal.returns-in_err-policy
unfolding goals_command
returns-in_err-policy g c =
    let a = c.args.args in
    let source = option_map (λ n. n.now) a.source in
    stops_first (goals_under source a.only_missing a.all a.file.now) (λ (p : PolicyView). p) exit_of_report
    (policy_told (word_view a.policy)) _ _ _ _ c.in_err-policy.field-0.0 c.from_residual.result
    c.in_err-policy.ensures c.from_residual.ensures.1

pub returns-in_err-bytes : goal.returns-in_err-bytes
unfolding goals_command
returns-in_err-bytes g c =
    let a = c.args.args in
    let source = option_map (λ n. n.now) a.source in
    let under = c.in_ok-policy.policy in
    gives_then (goals_under source a.only_missing a.all a.file.now) (λ (p : PolicyView). p) exit_of_report
    (policy_told (word_view a.policy)) _ _ _ _ _ _ under _ c.in_ok-policy.ensures
    (stops_first (goals_stage source a.only_missing a.all under) (λ (v : Vec ℕ Global). v.items) exit_of_report
    (container_bytes_of a.file.now) _ _ _ _ c.in_err-bytes.field-0.0
    c.from_residual-in_err-bytes.result c.in_err-bytes.ensures
    c.from_residual-in_err-bytes.ensures.1)

pub returns-in_err-source : goal.returns-in_err-source
unfolding goals_command
returns-in_err-source g c =
    let a = c.args.args in
    let source = option_map (λ n. n.now) a.source in
    let under = c.in_ok-policy.policy in
    let bytes = c.in_ok-bytes.bytes in
    let beside = beside_read source (decoded_container bytes.items) in
    gives_then (goals_under source a.only_missing a.all a.file.now) (λ (p : PolicyView). p) exit_of_report
    (policy_told (word_view a.policy)) _ _ _ _ _ _ under _ c.in_ok-policy.ensures
    (gives_then (goals_stage source a.only_missing a.all under) (λ (v : Vec ℕ Global). v.items) exit_of_report
    (container_bytes_of a.file.now) _ _ _ _ _ _ bytes _ c.in_ok-bytes.ensures
    (stops_first (goals_styled a.only_missing a.all under bytes.items) beside_source exit_of_report
    beside _ _ _ _ c.in_err-source.field-0.0 c.from_residual-in_err-source.result
    (same_stage beside_source (beside_read source (decoded_container c.deref.result.now)) beside
    (ap (λ (b : List ℕ). beside_read source (decoded_container b)) c.deref.ensures.value)
    _ _ _ _ _ c.in_err-source.ensures)
    c.from_residual-in_err-source.ensures.1))

pub returns : goal.returns
unfolding goals_command
returns g c =
    let a = c.args.args in
    let source = option_map (λ n. n.now) a.source in
    let under = c.in_ok-policy.policy in
    let bytes = c.in_ok-bytes.bytes in
    let found = c.in_ok-source.source in
    let beside = beside_read source (decoded_container bytes.items) in
    gives_then (goals_under source a.only_missing a.all a.file.now) (λ (p : PolicyView). p) exit_of_report
    (policy_told (word_view a.policy)) _ _ _ _ _ _ under _ c.in_ok-policy.ensures
    (gives_then (goals_stage source a.only_missing a.all under) (λ (v : Vec ℕ Global). v.items) exit_of_report
    (container_bytes_of a.file.now) _ _ _ _ _ _ bytes _ c.in_ok-bytes.ensures
    (gives_then (goals_styled a.only_missing a.all under bytes.items) beside_source exit_of_report
    beside _ _ _ _ _ _ found _
    (same_stage beside_source (beside_read source (decoded_container c.deref.result.now)) beside
    (ap (λ (b : List ℕ). beside_read source (decoded_container b)) c.deref.ensures.value)
    _ _ _ _ _ c.in_ok-source.ensures)
    (lifted exit_of_report (goals_styled a.only_missing a.all under bytes.items (beside_source found)) _ _ c.goals_styled.result
    (subst (λ (b : List ℕ). GivesPure exit_of_report (goals_styled a.only_missing a.all under b (beside_source found))
    c.goals_styled.result) c.deref-2.ensures.value c.goals_styled.ensures))))
