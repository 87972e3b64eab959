use Rattle.pcc_gate.proofs.Stages.{front-answer, front-held}
use Rattle.pcc_gate.proofs.passing.front.Goals as goal

pub pass-requires : goal.pass-requires
pass-requires c = record { kept = λ s t. c.new-kept.ensures.kept _ t }

pub returns : goal.returns
returns c = record {
  exact = front-answer c.args.policy.now c.args.bytes.now c.pass.result c.pass.ensures.answer;
  held = front-held c.args.policy.now c.args.bytes.now c.pass.result c.pass.ensures.answer;
}
