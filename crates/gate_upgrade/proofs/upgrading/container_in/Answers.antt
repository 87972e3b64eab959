use Rattle.proof_container.proofs.Rewriting.{rewritable}
use Rattle.gate_upgrade.proofs.upgrading.container_in.Goals as goal

pub returns-in-Ok-clause-writable : goal.returns-in-Ok-clause-writable
returns-in-Ok-clause-writable c = λ v shows.
    rewritable c.args.bytes.now c.in-Ok.container v c.in-Ok.ensures.decodes
    c.in-Ok.ensures.canonical shows
