use Rattle.std.proofs.Common.{refl}
use Rattle.proof_container.specs.Views.{contents_of}
use Rattle.view_cli.proofs.commands.list.found_in.Goals as goal

pub returns-in-Ok : goal.returns-in-Ok
returns-in-Ok c =
    let held = c.in-Ok.ensures.decodes.contents in
    (contents_of c.in-Ok.container, c.in-Ok.ensures.exact, refl, refl, held.version, held.bound)
