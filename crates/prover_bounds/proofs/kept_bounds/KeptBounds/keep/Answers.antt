use Rattle.prover_bounds.proofs.BoundRows.{bound-row}
use Rattle.prover_bounds.proofs.kept_bounds.KeptBounds.keep.Goals as goal

pub keep-requires-clause-right : goal.keep-requires-clause-right
keep-requires-clause-right c =
    let a = c.args in
    let r = c.requires in
    bound-row a.table.now a.hyps.now a.side c.number-exp.result a.e a.choice a.proof c.number-exp.ensures r.e r.known r.is
