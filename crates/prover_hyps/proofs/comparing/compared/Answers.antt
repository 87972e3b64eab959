use Rattle.std.proofs.Common.{sym}
use Rattle.prover_hyps.proofs.Compared.{not_compared}
use Rattle.prover_hyps.proofs.comparing.compared.Goals as goal

pub returns-in_default-clause-exact : goal.returns-in_default-clause-exact
returns-in_default-clause-exact c =
    let n = c.in_default in
    sym (not_compared c.args.op n.not-Cmpeq n.not-Cmplt n.not-Cmple n.not-Cmpult n.not-Cmpule)
