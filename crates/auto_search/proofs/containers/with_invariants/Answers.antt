use Rattle.std.proofs.Common.{length}
use Rattle.proof_container.specs.Views.{contents_of}
use Rattle.auto_search.proofs.Remaking.{remade-read}
use Rattle.auto_search.proofs.containers.with_invariants.Goals as goal

pub returns-in-Ok : goal.returns-in-Ok
returns-in-Ok c =
    remade-read c.remade.result c.args.input.now (contents_of c.in-Ok.container)
    (length c.args.invs.now) c.in-Ok.ensures.exact c.remade.ensures
