-- The codes of operators, shifts, conditions and scales, a row each.
-- Intel 64 and IA-32 Architectures Software Developer's Manual, volume 2: the opcode columns of ADD, OR, AND, SUB, XOR and CMP, and of
-- SAL/SAR/SHL/SHR; appendix B, table B-10, "Encoding of Conditional Test (tttn) Field"; section 2.1.5, table 2-3, the SIB byte.
use Rattle.std.specs.Prelude.{ℕ, ◌==◌, if◌then◌else◌, List, [], ◌∷◌, Option, find}
use Rattle.x86_words.specs.declared.operators.AluOp.{AluOp}
use Rattle.x86_words.specs.declared.operators.AluOp.TheVariants.{Add, Or, And, Sub, Xor, Cmp}
use Rattle.x86_words.specs.declared.operators.ShiftOp.{ShiftOp}
use Rattle.x86_words.specs.declared.operators.ShiftOp.TheVariants.{Shl, Shr, Sar}
use Rattle.x86_words.specs.declared.operators.X86Cond.{X86Cond}
use Rattle.x86_words.specs.declared.operators.X86Cond.TheVariants.{Below, AboveOrEqual, Equal, NotEqual, BelowOrEqual, Above, Sign, NoSign, Less, GreaterOrEqual, LessOrEqual, Greater}
use Rattle.x86_words.specs.declared.operators.Scale.{Scale}
use Rattle.x86_words.specs.declared.operators.Scale.TheVariants.{One, Two, Four, Eight}

-- the opcode of the form `r64, r/m64`: its destination is a register
abbrev pub alu_opcode : AluOp → ℕ
alu_opcode Add = 0x03
alu_opcode Or = 0x0B
alu_opcode And = 0x23
alu_opcode Sub = 0x2B
alu_opcode Xor = 0x33
alu_opcode Cmp = 0x3B

-- the /digit of the form `81 /digit id`: `r/m64, imm32`
abbrev pub alu_digit : AluOp → ℕ
alu_digit Add = 0
alu_digit Or = 1
alu_digit And = 4
alu_digit Sub = 5
alu_digit Xor = 6
alu_digit Cmp = 7

-- the /digit of the forms `C1 /digit ib` and `D3 /digit`
abbrev pub shift_digit : ShiftOp → ℕ
shift_digit Shl = 4
shift_digit Shr = 5
shift_digit Sar = 7

-- the condition's code: the low four bits of the opcodes of Jcc and SETcc
abbrev pub cond_code : X86Cond → ℕ
cond_code Below = 2
cond_code AboveOrEqual = 3
cond_code Equal = 4
cond_code NotEqual = 5
cond_code BelowOrEqual = 6
cond_code Above = 7
cond_code Sign = 8
cond_code NoSign = 9
cond_code Less = 12
cond_code GreaterOrEqual = 13
cond_code LessOrEqual = 14
cond_code Greater = 15

-- the two highest bits of the SIB byte
abbrev pub scale_bits : Scale → ℕ
scale_bits One = 0
scale_bits Two = 1
scale_bits Four = 2
scale_bits Eight = 3

-- how often the index counts
abbrev pub scale_factor : Scale → ℕ
scale_factor One = 1
scale_factor Two = 2
scale_factor Four = 4
scale_factor Eight = 8

-- all operators, by their opcodes
abbrev pub alu_ops : List AluOp
alu_ops = Add ∷ Or ∷ And ∷ Sub ∷ Xor ∷ Cmp ∷ []

-- all shifts, by their digits
abbrev pub shift_ops : List ShiftOp
shift_ops = Shl ∷ Shr ∷ Sar ∷ []

-- all conditions, by their codes
abbrev pub x86_conds : List X86Cond
x86_conds = Below ∷ AboveOrEqual ∷ Equal ∷ NotEqual ∷ BelowOrEqual ∷ Above ∷ Sign ∷ NoSign ∷ Less ∷ GreaterOrEqual ∷ LessOrEqual ∷ Greater ∷ []

-- the operator of an opcode, if any
abbrev pub alu_of_opcode : ℕ → Option AluOp
alu_of_opcode opcode = find (λ op. alu_opcode op == opcode) alu_ops

-- the operator of a digit, if any
abbrev pub alu_of_digit : ℕ → Option AluOp
alu_of_digit digit = find (λ op. alu_digit op == digit) alu_ops

-- the shift of a digit, if any
abbrev pub shift_of_digit : ℕ → Option ShiftOp
shift_of_digit digit = find (λ op. shift_digit op == digit) shift_ops

-- the condition of a code, if any
abbrev pub cond_of_code : ℕ → Option X86Cond
cond_of_code code = find (λ cond. cond_code cond == code) x86_conds

-- the scale of two bits
abbrev pub scale_of_bits : ℕ → Scale
scale_of_bits bits = if bits == 0 then One else if bits == 1 then Two else if bits == 2 then Four else Eight
