-- The tests that a word meets, in their order, and the fields that are read.
use Rattle.std.specs.Prelude.{ℕ, ◌+◌, ◌-◌, ◌/◌, ◌%◌, ◌^◌, Bool, ◌&&◌, not, ◌==◌, nat_le, nat_lt, if◌then◌else◌, ℤ, pos, negsuc, suc, Option, Some, None, Result, Ok, Err}
use Rattle.word_ops.specs.declared.Op.{Op}
use Rattle.word_ops.specs.declared.Profile.{Profile}
use Rattle.alpha_words.specs.declared.insn.Rhs.{Rhs}
use Rattle.alpha_words.specs.declared.insn.Rhs.TheVariants.{Reg, Lit}
use Rattle.alpha_words.specs.declared.conditions.Cond.{Cond}
use Rattle.alpha_words.specs.declared.insn.Insn.{Insn}
use Rattle.alpha_words.specs.declared.insn.Insn.TheVariants.{Oper, Branch, Br, Ret}
use Rattle.alpha_words.specs.declared.fault.BadWord.{BadWord}
use Rattle.alpha_words.specs.declared.fault.BadWord.TheVariants.{Opcode, Function, Reserved, KeptRegister, LoadToZero, BadReturn, BadLink}
use Rattle.word_ops.specs.Operators.{op_of_code, of_profile}
use Rattle.alpha_words.specs.Conditions.{cond_at}
use Rattle.alpha_words.specs.declared.memory.MemoryOp.{MemoryOp}
use Rattle.alpha_words.specs.declared.memory.MemoryKind.{MemoryKind}
use Rattle.alpha_words.specs.declared.memory.MemoryKind.TheVariants.{Address, Load, Store}
use Rattle.alpha_words.specs.MemoryOps.{memory_kind, memory_op_at, memory_op_of}
use Rattle.alpha_words.specs.Formats.{memory_insn}
use Rattle.alpha_words.specs.Encoding.{is_kept}

-- the number whose k + 1 bits of two's complement are n
abbrev pub signed_of : ℕ → ℕ → ℤ
signed_of k n = if nat_lt n (2 ^ k) then pos n else negsuc (2 ^ k + 2 ^ k - suc n)

-- the five bits from low on
abbrev pub reg_at : ℕ → ℕ → ℕ
reg_at w low = w / 2 ^ low % 32

-- An instruction that writes a register is refused where that register is kept.
abbrev pub unless_kept : ℕ → Insn → Result Insn BadWord
unless_kept r i = if is_kept r then Err KeptRegister else Ok i

-- a load, which is refused to register 31
abbrev pub loaded : ℕ → Insn → Result Insn BadWord
loaded r i = if r == 31 then Err LoadToZero else unless_kept r i

-- an instruction of the memory format, by what it does with its first register
abbrev pub unless_refused : MemoryKind → ℕ → Insn → Result Insn BadWord
unless_refused Address r i = unless_kept r i
unless_refused Load r i = loaded r i
unless_refused Store r i = Ok i

-- a memory word, given its instruction
abbrev pub decoded_memory : ℕ → MemoryOp → Result Insn BadWord
decoded_memory w op =
    unless_refused (memory_kind op) (reg_at w 21) (memory_insn op (reg_at w 21) (reg_at w 16) (signed_of 15 (w % 2 ^ 16)))

-- the second operand: bit 12 tells a literal from a register
abbrev pub rhs_at : ℕ → Rhs
rhs_at w = if w / 2 ^ 12 % 2 == 1 then Lit (w / 2 ^ 13 % 256) else Reg (reg_at w 16)

-- with a register, bits 15:13 are zero
abbrev pub has_reserved : ℕ → Bool
has_reserved w = (w / 2 ^ 12 % 2 == 0) && not (w / 2 ^ 13 % 8 == 0)

-- an operate word, given its operator: the reserved bits, then the register written
abbrev pub decoded_operate : ℕ → Option Op → Result Insn BadWord
decoded_operate w None = Err Function
decoded_operate w (Some op) = if has_reserved w then Err Reserved else unless_kept (reg_at w 0) (Oper op (reg_at w 21) (rhs_at w) (reg_at w 0))

-- a word of the branch format, given its condition
abbrev pub decoded_branch : ℕ → Option Cond → Result Insn BadWord
decoded_branch w None = Err Opcode
decoded_branch w (Some cond) = Ok (Branch cond (reg_at w 21) (signed_of 20 (w % 2 ^ 21)))

-- a return: registers 31 and 26, and 2 in the two bits above the hint
abbrev pub is_return : ℕ → Bool
is_return w = (reg_at w 21 == 31) && (reg_at w 16 == 26) && (w / 2 ^ 14 % 4 == 2)

-- a word that isn't of the memory format
abbrev pub decoded_other : Profile → ℕ → Result Insn BadWord
decoded_other p w =
    let opcode = w / 2 ^ 26 in
    if nat_le 0x10 opcode && nat_le opcode 0x12 then decoded_operate w (of_profile p (op_of_code opcode (w / 2 ^ 5 % 128))) else
    if opcode == 0x1A then (if is_return w then Ok Ret else Err BadReturn) else
    if opcode == 0x30 then (if reg_at w 21 == 31 then Ok (Br (signed_of 20 (w % 2 ^ 21))) else Err BadLink) else
    decoded_branch w (cond_at opcode)

-- a word, given its instruction of the memory format where the profile has one
abbrev pub decoded_by : Profile → ℕ → Option MemoryOp → Result Insn BadWord
decoded_by p w (Some op) = decoded_memory w op
decoded_by p w None = decoded_other p w

-- What the word reads as, or the first test that it fails.
abbrev pub decoded : Profile → ℕ → Result Insn BadWord
decoded p w = decoded_by p w (memory_op_of p (memory_op_at (w / 2 ^ 26)))
