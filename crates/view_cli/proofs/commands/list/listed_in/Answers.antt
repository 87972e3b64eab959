use Rattle.std.proofs.Common.{Ok, option_map, sym, ap}
use Rattle.proof_container.specs.Decoding.{decoded_container}
use Rattle.pcc_stages.specs.Stage.{gives}
use Rattle.pcc_stages.proofs.StageLemmas.{lifted}
use Rattle.view_cli.specs.Commands.List.{unlisted_exit, listing_in}
use Rattle.view_cli.specs.Reports.{exit_of_report}
use Rattle.view_cli.proofs.CommandStages.{same_stage}
use Rattle.view_cli.proofs.commands.list.listed_in.Goals as goal

pub listed_beside-requires-clause-version : goal.listed_beside-requires-clause-version
listed_beside-requires-clause-version g c =
    let found = rw c.in-Ok-Container.field-0-is at c.in-Ok-Container.ensures in found.4

pub listed_beside-requires-clause-bound : goal.listed_beside-requires-clause-bound
listed_beside-requires-clause-bound g c =
    let found = rw c.in-Ok-Container.field-0-is at c.in-Ok-Container.ensures in found.5

pub returns-in-Ok-Container : goal.returns-in-Ok-Container
returns-in-Ok-Container g c =
    let source = option_map (λ n. n.now) c.args.source in
    let bytes = c.args.bytes.now in
    let found = rw c.in-Ok-Container.field-0-is at c.in-Ok-Container.ensures in
    same_stage exit_of_report (listing_in source bytes (Ok found.0))
    (listing_in source bytes (decoded_container bytes)) (ap (listing_in source bytes) (sym found.1))
    _ _ _ _ c.listed_beside.result (c.listed_beside.ensures found.0 found.1 found.2 found.3)

pub returns-in-Ok-Not : goal.returns-in-Ok-Not
returns-in-Ok-Not g c =
    let source = option_map (λ n. n.now) c.args.source in
    let bytes = c.args.bytes.now in
    let stage = gives (unlisted_exit bytes (c.in-Ok-Not.offset, c.in-Ok-Not.flaw)) in
    let found = rw c.in-Ok-Not.field-0-is at c.in-Ok-Not.ensures in
    same_stage exit_of_report stage (listing_in source bytes (decoded_container bytes))
    (ap (listing_in source bytes) (sym found)) _ _ _ _ c.unlisted.result
    (lifted exit_of_report stage _ _ c.unlisted.result c.unlisted.ensures)

pub returns-in-Err : goal.returns-in-Err
returns-in-Err g c = lifted exit_of_report _ _ _ _ tt
