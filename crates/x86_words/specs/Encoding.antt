-- The bytes of each instruction: one row a form, each form of one length.
-- Intel 64 and IA-32 Architectures Software Developer's Manual, volume 2: section 2.1, "Instruction Format" (2.1.5: ModR/M and SIB bytes);
-- section 2.2.1, "REX Prefixes"; and, for each row, the page of the instruction and its opcode column.
use Rattle.std.specs.Prelude.{◌≡◌, ℕ, ◌+◌, ◌*◌, ◌/◌, ◌%◌, ◌^◌, ◌<◌, Bool, true, not, ◌==◌, nat_lt, List, [], ◌∷◌, ◌++◌, ℤ, FitsSigned}
use Rattle.std.specs.Int.{to_le_bytes, cast_unsigned, w32, w64}
use Rattle.x86_words.specs.declared.insn.X86Insn.{X86Insn}
use Rattle.x86_words.specs.declared.insn.X86Insn.TheVariants.{Mov, MovImm, MovZero, MovAbs, Load, Store, Alu, AluImm, AluLoad, Lea, LeaScaled, ShiftImm, ShiftCl, Not, Test, TestImm, Set, MovByte, MovTwo, MovFour, JumpIf, Jump, Ret, Nop}
use Rattle.x86_words.specs.Codes.{alu_opcode, alu_digit, shift_digit, cond_code, scale_bits}

-- The REX prefix 0100WRXB: W is 1 for operands of 64 bits; R, X and B are the high bits of the registers in ModRM.reg, in SIB.index, and
-- in ModRM.rm, SIB.base or the opcode. It is written where it says nothing, too.
abbrev pub rex : ℕ → ℕ → ℕ → ℕ → ℕ
rex w reg index base = 0x40 + 8 * w + 4 * (reg / 8) + 2 * (index / 8) + base / 8

-- The ModR/M byte: two bits of mod, three of reg (or a /digit), three of rm. A SIB byte has the same fields: scale, index, base.
abbrev pub modrm : ℕ → ℕ → ℕ → ℕ
modrm mode reg rm = 64 * mode + 8 * (reg % 8) + rm % 8

-- `opcode /r` or `opcode /digit` with a register as r/m: mod 3
abbrev pub at_reg : ℕ → ℕ → ℕ → ℕ → List ℕ
at_reg w opcode reg rm = rex w reg 0 rm ∷ opcode ∷ modrm 3 reg rm ∷ []

-- `0F opcode /r` with a register as r/m
abbrev pub at_reg_0F : ℕ → ℕ → ℕ → List ℕ
at_reg_0F opcode reg rm = rex 0 reg 0 rm ∷ 0x0F ∷ opcode ∷ modrm 3 reg rm ∷ []

-- a number of 32 bits in two's complement, little-endian: an immediate (id) or a displacement (disp32, cd)
abbrev pub four_bytes : ℤ → List ℕ
four_bytes z = to_le_bytes w32 (cast_unsigned w32 z)

-- `opcode /r` with the quadword at base + disp as r/m: mod 2 and a displacement of four bytes
abbrev pub at_memory : ℕ → ℕ → ℕ → ℤ → List ℕ
at_memory opcode reg base disp = rex 1 reg 0 base ∷ opcode ∷ modrm 2 reg base ∷ four_bytes disp

-- The bytes of an instruction.
abbrev pub bytes_of : X86Insn → List ℕ
-- MOV: REX.W 89 /r; REX.W C7 /0 id; B8+rd id; REX.W B8+rd io; REX.W 8B /r; REX.W 89 /r
bytes_of (Mov to from) = at_reg 1 0x89 from to
bytes_of (MovImm to imm) = at_reg 1 0xC7 0 to ++ four_bytes imm
bytes_of (MovZero to imm) = rex 0 0 0 to ∷ (0xB8 + to % 8) ∷ to_le_bytes w32 imm
bytes_of (MovAbs to imm) = rex 1 0 0 to ∷ (0xB8 + to % 8) ∷ to_le_bytes w64 imm
bytes_of (Load to base disp) = at_memory 0x8B to base disp
bytes_of (Store base disp from) = at_memory 0x89 from base disp
-- ADD, OR, AND, SUB, XOR, CMP: REX.W opcode /r; REX.W 81 /digit id
bytes_of (Alu op to from) = at_reg 1 (alu_opcode op) to from
bytes_of (AluImm op to imm) = at_reg 1 0x81 (alu_digit op) to ++ four_bytes imm
bytes_of (AluLoad op to base disp) = at_memory (alu_opcode op) to base disp
-- LEA: REX.W 8D /r; the second with rm 4, a SIB byte, and a displacement of one byte, 0 (mod 1)
bytes_of (Lea to base disp) = at_memory 0x8D to base disp
bytes_of (LeaScaled to base index scale) = rex 1 to index base ∷ 0x8D ∷ modrm 1 to 4 ∷ modrm (scale_bits scale) index base ∷ 0 ∷ []
-- SAL/SAR/SHL/SHR: REX.W C1 /digit ib; REX.W D3 /digit
bytes_of (ShiftImm op to count) = at_reg 1 0xC1 (shift_digit op) to ++ count ∷ []
bytes_of (ShiftCl op to) = at_reg 1 0xD3 (shift_digit op) to
-- NOT: REX.W F7 /2; TEST: REX.W 85 /r; REX.W F7 /0 id
bytes_of (Not to) = at_reg 1 0xF7 2 to
bytes_of (Test left right) = at_reg 1 0x85 right left
bytes_of (TestImm left imm) = at_reg 1 0xF7 0 left ++ four_bytes imm
-- SETcc: REX 0F 90+cc; MOVZX: 0F B6 /r; 0F B7 /r; MOV: 89 /r
bytes_of (Set cond to) = at_reg_0F (0x90 + cond_code cond) 0 to
bytes_of (MovByte to from) = at_reg_0F 0xB6 to from
bytes_of (MovTwo to from) = at_reg_0F 0xB7 to from
bytes_of (MovFour to from) = at_reg 0 0x89 from to
-- Jcc: 0F 80+cc cd; JMP: E9 cd; RET: C3; NOP: 90
bytes_of (JumpIf cond disp) = 0x0F ∷ (0x80 + cond_code cond) ∷ four_bytes disp
bytes_of (Jump disp) = 0xE9 ∷ four_bytes disp
bytes_of Ret = 0xC3 ∷ []
bytes_of Nop = 0x90 ∷ []

-- The length of an instruction in bytes: its form decides.
abbrev pub length_of : X86Insn → ℕ
length_of (Mov to from) = 3
length_of (MovImm to imm) = 7
length_of (MovZero to imm) = 6
length_of (MovAbs to imm) = 10
length_of (Load to base disp) = 7
length_of (Store base disp from) = 7
length_of (Alu op to from) = 3
length_of (AluImm op to imm) = 7
length_of (AluLoad op to base disp) = 7
length_of (Lea to base disp) = 7
length_of (LeaScaled to base index scale) = 5
length_of (ShiftImm op to count) = 4
length_of (ShiftCl op to) = 3
length_of (Not to) = 3
length_of (Test left right) = 3
length_of (TestImm left imm) = 7
length_of (Set cond to) = 4
length_of (MovByte to from) = 4
length_of (MovTwo to from) = 4
length_of (MovFour to from) = 3
length_of (JumpIf cond disp) = 6
length_of (Jump disp) = 5
length_of Ret = 1
length_of Nop = 1

-- a register
abbrev pub IsX86Reg : ℕ → Type 0
IsX86Reg r = r < 16

-- A register may be a base where its low bits aren't 100: those, of rsp and r12, say that a SIB byte follows.
abbrev pub may_be_base : ℕ → Bool
may_be_base r = not (r % 8 == 4)

-- What an instruction may not have though its fields have room for it: rsp or r12 as a base, rsp as an index, a count above 63.
abbrev pub has_operands : X86Insn → Bool
has_operands (Load to base disp) = may_be_base base
has_operands (Store base disp from) = may_be_base base
has_operands (AluLoad op to base disp) = may_be_base base
has_operands (Lea to base disp) = may_be_base base
has_operands (LeaScaled to base index scale) = not (index == 4)
has_operands (ShiftImm op to count) = nat_lt count 64
has_operands _ = true

-- registers below 16, immediates and displacements of the width that they are written in
abbrev pub FitsFields : X86Insn → Type 0
FitsFields (Mov to from) = IsX86Reg to × IsX86Reg from
FitsFields (MovImm to imm) = IsX86Reg to × FitsSigned w32 imm
FitsFields (MovZero to imm) = IsX86Reg to × (imm < 2 ^ 32)
FitsFields (MovAbs to imm) = IsX86Reg to × (imm < 2 ^ 64)
FitsFields (Load to base disp) = IsX86Reg to × IsX86Reg base × FitsSigned w32 disp
FitsFields (Store base disp from) = IsX86Reg base × FitsSigned w32 disp × IsX86Reg from
FitsFields (Alu op to from) = IsX86Reg to × IsX86Reg from
FitsFields (AluImm op to imm) = IsX86Reg to × FitsSigned w32 imm
FitsFields (AluLoad op to base disp) = IsX86Reg to × IsX86Reg base × FitsSigned w32 disp
FitsFields (Lea to base disp) = IsX86Reg to × IsX86Reg base × FitsSigned w32 disp
FitsFields (LeaScaled to base index scale) = IsX86Reg to × IsX86Reg base × IsX86Reg index
FitsFields (ShiftImm op to count) = IsX86Reg to
FitsFields (ShiftCl op to) = IsX86Reg to
FitsFields (Not to) = IsX86Reg to
FitsFields (Test left right) = IsX86Reg left × IsX86Reg right
FitsFields (TestImm left imm) = IsX86Reg left × FitsSigned w32 imm
FitsFields (Set cond to) = IsX86Reg to
FitsFields (MovByte to from) = IsX86Reg to × IsX86Reg from
FitsFields (MovTwo to from) = IsX86Reg to × IsX86Reg from
FitsFields (MovFour to from) = IsX86Reg to × IsX86Reg from
FitsFields (JumpIf cond disp) = FitsSigned w32 disp
FitsFields (Jump disp) = FitsSigned w32 disp
FitsFields Ret = Unit {0}
FitsFields Nop = Unit {0}

-- an instruction that some bytes encode
pub record IsX86Insn (i : X86Insn) : Type 0 where
  pub widths : FitsFields i
  pub operands : has_operands i ≡ true

-- The bytes encode the instruction.
pub record EncodesX86 (bytes : List ℕ) (i : X86Insn) : Type 0 where
  pub insn : IsX86Insn i
  pub own : bytes ≡ bytes_of i
