use Rattle.std.proofs.Common.{option_map, sym, ap}
use Rattle.proof_container.specs.Decoding.{decoded_container}
use Rattle.view_cli.specs.Commands.Goals.{beside_read}
use Rattle.view_cli.specs.Commands.List.{source_beside}
use Rattle.view_cli.specs.Inside.Founds.{beside_source}
use Rattle.view_cli.proofs.CommandStages.{same_stage, lines_for}
use Rattle.view_cli.proofs.commands.goals.beside_read.Goals as goal

pub source_of-requires-clause-version : goal.source_of-requires-clause-version
source_of-requires-clause-version g c =
    let found = rw c.in-Ok-Container.field-0-is at c.in-Ok-Container.ensures in found.4

pub source_of-requires-clause-bound : goal.source_of-requires-clause-bound
source_of-requires-clause-bound g c =
    let found = rw c.in-Ok-Container.field-0-is at c.in-Ok-Container.ensures in found.5

pub returns-in-Ok-Container : goal.returns-in-Ok-Container
returns-in-Ok-Container g c =
    let source = option_map (λ n. n.now) c.args.source in
    let bytes = c.args.bytes.now in
    let found = rw c.in-Ok-Container.field-0-is at c.in-Ok-Container.ensures in
    same_stage beside_source
    (source_beside found.0.version found.0.bound source)
    (beside_read source (decoded_container bytes)) (ap (beside_read source) (sym found.1))
    _ _ _ _ c.source_of.result
    (lines_for found.0 c.in-Ok-Container.version c.in-Ok-Container.bound source found.2 found.3
    _ _ _ _ _ c.source_of.ensures)
