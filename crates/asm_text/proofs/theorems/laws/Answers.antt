use Rattle.std.proofs.Common.{subst}
use Rattle.text_tokens.specs.Lines.{AreLines}
use Rattle.asm_text.proofs.Operands as insn
use Rattle.text_tokens.proofs.Endings.{lines_are, are_lines}
use Rattle.asm_text.proofs.Collected as source
use Rattle.asm_text.proofs.Stopping.{fault_is, is_fault, none_begins}
use Rattle.asm_text.proofs.theorems.laws.Goals as goal

pub returns : goal.returns
returns c = record {
  insns = λ p ts i. (insn.spelled_parsed p ts i, insn.parsed_spelled p ts i);
  lines = λ text ls. (lines_are text ls, λ e. subst (λ l. AreLines text l) e (are_lines text));
  sources = λ p left text s. (
    source.spelled_parsed p left text s,
    source.parsed_spelled p left text s,
  );
  faults = λ p left text n flaw. (fault_is p left text n flaw, is_fault p left text n flaw);
  begins = λ p left text n flaw lines h a. none_begins p left text n flaw lines h a;
}
