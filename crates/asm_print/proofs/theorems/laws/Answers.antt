use Rattle.std.proofs.Common.{arith}
use Rattle.asm_print.proofs.Sourced.{insns_of, labels_of, invs_of, source_spelled}
use Rattle.asm_print.proofs.theorems.laws.Goals as goal

pub returns : goal.returns
returns c =
    let insn = c.insn_laws.ensures in
    record {
      spells = λ p left code invs x h g. source_spelled p left
          (λ F w u b. c.laws.ensures.printed p left F w u b)
          (λ i y e can. let s = insn.spells p i y e can in
          record {
            tokens = s.0;
            consists = s.1;
            spelled = s.2;
            printable = insn.printable i y can;
            whole = insn.comment i y can;
            short = omega (arith, insn.short i y can);
          })
          insn.label insn.one_label insn.code code invs x h g;
      insns = insns_of;
      labels = labels_of;
      invs = invs_of;
    }
