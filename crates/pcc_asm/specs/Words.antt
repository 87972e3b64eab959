-- The word that is written for an instruction, and code as bytes.
use Rattle.std.specs.Prelude.{ℕ, List}
use Rattle.std.specs.List.{flat_map}
use Rattle.std.specs.Int.{w32, to_le_bytes}
use Rattle.alpha_words.specs.declared.insn.Insn.{Insn}
use Rattle.alpha_words.specs.declared.insn.Format.{Format}
use Rattle.alpha_words.specs.declared.insn.Format.TheVariants.{Memory, Operate, Branch, Br, Ret}
use Rattle.alpha_words.specs.MemoryOps.{memory_opcode}
use Rattle.alpha_words.specs.Formats.{format_of}
use Rattle.alpha_words.specs.Encoding.{memory_word, branch_word, operate_word}
use Rattle.alpha_words.specs.Conditions.{cond_opcode_of}

-- of the words that encode what has a format, the one that is written: a return has hint 1
-- Alpha Architecture Handbook, "Instruction Formats"
abbrev pub format_word : Format → ℕ
format_word (Memory op ra rb disp) = memory_word (memory_opcode op) ra rb disp
format_word (Operate op ra rhs rc) = operate_word op ra rhs rc
format_word (Branch cond ra disp) = branch_word (cond_opcode_of cond) ra disp
format_word (Br disp) = branch_word 0x30 31 disp
format_word Ret = 0x6BFA8001

-- the word that is written for an instruction
abbrev pub insn_word : Insn → ℕ
insn_word insn = format_word (format_of insn)

-- the words of instructions, the lowest byte of each first
unfoldable pub code_bytes : List Insn → List ℕ
code_bytes code = flat_map (λ insn. to_le_bytes w32 (insn_word insn)) code
