use Rattle.native_bpf.proofs.Answering.{programs-answer}
use Rattle.native_bpf.proofs.Compiled.{compiled-answer}
use Rattle.native_bpf.proofs.laws.Goals as goal

pub returns : goal.returns
returns c =
    let answer = programs-answer c.laws.ensures.safe c.laws.ensures.bounded c.head_laws.ensures.heads c.code_laws.ensures.forward
    c.laws-2.ensures.simulates c.code_laws.ensures.code in
    record {
      programs = answer;
      compiled = compiled-answer c.written_laws.ensures.encode c.code_laws.ensures.code c.code_laws.ensures.profile answer;
    }
