use Rattle.std.proofs.Common.{sym}
use Rattle.prover_bounds.proofs.Choosing.{no_ceiling}
use Rattle.prover_bounds.proofs.parts.ceiling_of.Goals as goal

pub returns-in_default : goal.returns-in_default
returns-in_default c =
    let n = c.in_default in
    sym (no_ceiling c.args.op n.not-Cmpeq n.not-Cmplt n.not-Cmple n.not-Cmpult n.not-Cmpule
    n.not-Extb n.not-Extw n.not-Extl)
