use Rattle.std.proofs.Common.{Err}
use Rattle.pcc_gate.proofs.Safe.{all-sound}
use Rattle.pcc_gate.proofs.Stages.{front-refused, gate-returns, gate-written}
use Rattle.pcc_gate.proofs.judging.gate.Goals as goal

pub pass-requires : goal.pass-requires
pass-requires c = record { kept = λ s t. c.new-kept.ensures.kept _ t }

pub returns-in-Err : goal.returns-in-Err
returns-in-Err c =
    let refused = front-refused c.args.policy.now c.args.bytes.now c.in-Err.fault
    c.in-Err.ensures.answer in
    record {
      exact = refused;
      written_out =
          gate-written c.args.policy.now c.args.bytes.now (Err c.in-Err.fault) refused;
      returns = tt;
    }

pub returns-clause-written_out : goal.returns-clause-written_out
returns-clause-written_out c =
    gate-written c.args.policy.now c.args.bytes.now c.judge.result c.judge.ensures

pub returns-clause-returns : goal.returns-clause-returns
returns-clause-returns c =
    gate-returns (all-sound c.truth_laws.ensures.sound) c.args.policy.now c.laws.ensures
    c.args.bytes.now c.judge.result c.judge.ensures
