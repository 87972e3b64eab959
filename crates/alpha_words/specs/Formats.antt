-- An instruction by its format: what has the memory format is one of the table and its operands.
-- Alpha Architecture Handbook, "Instruction Formats".
use Rattle.std.specs.Prelude.{ℕ, ℤ}
use Rattle.alpha_words.specs.declared.memory.MemoryOp.{MemoryOp}
use Rattle.alpha_words.specs.declared.memory.MemoryOp.TheVariants as M
use Rattle.alpha_words.specs.declared.insn.Insn.{Insn}
use Rattle.alpha_words.specs.declared.insn.Insn.TheVariants.{Lda, Ldq, Ldah, LdqU, Stq, Oper, Branch, Br, Ret}
use Rattle.alpha_words.specs.declared.insn.Format.{Format}
use Rattle.alpha_words.specs.declared.insn.Format.TheVariants as F

-- the format of an instruction, with what it has in it
abbrev pub format_of : Insn → Format
format_of (Lda ra rb disp) = F.Memory M.Lda ra rb disp
format_of (Ldah ra rb disp) = F.Memory M.Ldah ra rb disp
format_of (LdqU ra rb disp) = F.Memory M.LdqU ra rb disp
format_of (Ldq ra rb disp) = F.Memory M.Ldq ra rb disp
format_of (Stq ra rb disp) = F.Memory M.Stq ra rb disp
format_of (Oper op ra rhs rc) = F.Operate op ra rhs rc
format_of (Branch cond ra disp) = F.Branch cond ra disp
format_of (Br disp) = F.Br disp
format_of Ret = F.Ret

-- the instruction of the memory format with these operands
abbrev pub memory_insn : MemoryOp → ℕ → ℕ → ℤ → Insn
memory_insn M.Lda ra rb disp = Lda ra rb disp
memory_insn M.Ldah ra rb disp = Ldah ra rb disp
memory_insn M.LdqU ra rb disp = LdqU ra rb disp
memory_insn M.Ldq ra rb disp = Ldq ra rb disp
memory_insn M.Stq ra rb disp = Stq ra rb disp

-- the instruction of a format
abbrev pub insn_of : Format → Insn
insn_of (F.Memory op ra rb disp) = memory_insn op ra rb disp
insn_of (F.Operate op ra rhs rc) = Oper op ra rhs rc
insn_of (F.Branch cond ra disp) = Branch cond ra disp
insn_of (F.Br disp) = Br disp
insn_of F.Ret = Ret
