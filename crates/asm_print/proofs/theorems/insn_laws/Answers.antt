use Rattle.asm_print.proofs.Words.{label_is}
use Rattle.asm_print.proofs.Reading.{text_printable, text_whole, text_line}
use Rattle.asm_print.proofs.Printed.{insn_printed, insn_reads, one_label, code_spellable}
use Rattle.asm_print.proofs.theorems.insn_laws.Goals as goal

pub returns : goal.returns
returns c = record {
  spells = λ p i insn has h. let r = insn_printed p i insn has h in (r.0, r.1.consists, r.2);
  printable = λ i insn h. text_printable _ (insn_reads i insn h).1.bytes;
  comment = λ i insn h. text_whole _ (insn_reads i insn h).1.bytes;
  line = λ i insn h. text_line _ (insn_reads i insn h).1.bytes;
  short = λ i insn h. (insn_reads i insn h).1.short;
  label = λ i h. label_is i h;
  one_label = λ i j a b e. one_label i j a b e;
  code = λ code i insn h e. code_spellable code i insn h e;
}
