use Rattle.std.proofs.Common.{option_map}
use Rattle.pcc_stages.proofs.StageLemmas.{lifted, stops_first, gives_then}
use Rattle.view_cli.specs.Commands.List.{source_beside}
use Rattle.view_cli.specs.Inside.Founds.{beside_source}
use Rattle.view_cli.specs.Reports.{exit_of_report}
use Rattle.view_cli.proofs.CommandStages.{listing_stage, lines_for}
use Rattle.view_cli.proofs.commands.list.listed_beside.Goals as goal

pub returns-in_err-source : goal.returns-in_err-source
returns-in_err-source g c =
    let source = option_map (λ n. n.now) c.args.source in
    λ x is version bound.
    stops_first (listing_stage x) beside_source exit_of_report
    (source_beside x.version x.bound source) _ _ _ _ c.in_err-source.field-0.0
    c.from_residual.result
    (lines_for x c.args.version c.args.bound source version bound _ _ _ _ _ c.in_err-source.ensures)
    c.from_residual.ensures.1

pub returns : goal.returns
returns g c =
    let source = option_map (λ n. n.now) c.args.source in
    let found = c.in_ok-source.source in
    λ x is version bound.
    gives_then (listing_stage x) beside_source exit_of_report
    (source_beside x.version x.bound source) _ _ _ _ _ _ found _
    (lines_for x c.args.version c.args.bound source version bound _ _ _ _ _ c.in_ok-source.ensures)
    (lifted exit_of_report (listing_stage x (beside_source found)) _ _ c.listed.result
    (c.listed.ensures x is))
