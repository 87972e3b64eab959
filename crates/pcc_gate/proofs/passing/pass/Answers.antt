use Rattle.std.proofs.lemmas.Bool.{false≢true}
use Rattle.proof_container.specs.Views.{contents_of}
use Rattle.pcc_gate.proofs.Stages.{rest-passed}
use Rattle.pcc_gate.proofs.passing.pass.Goals as goal

pub returns-in-Ok-clause-answer : goal.returns-in-Ok-clause-answer
returns-in-Ok-clause-answer c = rest-passed c.args.policy.now c.args.bytes.now (contents_of c.in-Ok.container) c.in-Ok.ensures.answer.0 c.rest.result c.rest.ensures.answer c.rest.ensures.typed

pub returns-in-Err-clause-limit : goal.returns-in-Err-clause-limit
returns-in-Err-clause-limit c = λ e. absurd (false≢true (c.in-Err.ensures.limit e))
