use Rattle.std.proofs.Common.{arith}
use Rattle.proof_container.proofs.Verdicts.{gives_spelled, gives_none}
use Rattle.proof_container.proofs.reading.read.Goals as goal

pub returns-clause-decodes : goal.returns-clause-decodes
returns-clause-decodes c = gives_spelled c.args.bytes.now c.parse.result (λ i. omega (arith, c.type_inv.bytes i)) c.parse.ensures.exact

pub returns-clause-none : goal.returns-clause-none
returns-clause-none c = gives_none c.args.bytes.now c.parse.result c.parse.ensures.exact
