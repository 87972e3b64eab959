use Rattle.std.proofs.Common.{ℕ, Vec, Global, option_map, ap}
use Rattle.pcc_stages.specs.Stages.Containers.{container_bytes_of}
use Rattle.pcc_stages.proofs.StageLemmas.{stops_first, gives_then}
use Rattle.view_cli.specs.Commands.List.{list_command}
use Rattle.view_cli.specs.Reports.{exit_of_report}
use Rattle.view_cli.proofs.CommandStages.{bytes_stage, same_stage}
use Rattle.view_cli.proofs.commands.list.list_command.Goals as goal

pub returns-in_err-bytes : goal.returns-in_err-bytes
unfolding list_command
returns-in_err-bytes g c =
    let a = c.args.args in
    stops_first (bytes_stage (option_map (λ n. n.now) a.source)) (λ (v : Vec ℕ Global). v.items)
    exit_of_report (container_bytes_of a.file.now) _ _ _ _ c.in_err-bytes.field-0.0
    c.from_residual.result c.in_err-bytes.ensures.exact c.from_residual.ensures.1

pub returns : goal.returns
unfolding list_command
returns g c =
    let a = c.args.args in
    let source = option_map (λ n. n.now) a.source in
    gives_then (bytes_stage source) (λ (v : Vec ℕ Global). v.items) exit_of_report
    (container_bytes_of a.file.now) _ _ _ _ _ _ c.in_ok-bytes.bytes c.listed_in.result
    c.in_ok-bytes.ensures.exact
    (same_stage exit_of_report (bytes_stage source c.deref.result.now)
    (bytes_stage source c.in_ok-bytes.bytes.items) (ap (bytes_stage source) c.deref.ensures.value)
    _ _ _ _ c.listed_in.result c.listed_in.ensures)
