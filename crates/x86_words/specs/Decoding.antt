-- The instruction at the front of bytes: as a relation, and as a function. The function lets the opcode and its digit choose a form, takes the
-- operands from the fields, and then keeps the instruction only if the bytes begin with its own.
use Rattle.std.specs.Prelude.{◌≡◌, ℕ, ◌+◌, ◌*◌, ◌/◌, ◌%◌, Bool, ◌&&◌, ◌==◌, if◌then◌else◌, List, [], ◌∷◌, ◌++◌, slice_index, ℤ, Option, Some, None, nat_eq}
use Rattle.std.specs.Int.{from_le_bytes, cast_signed, w32, w64}
use Rattle.std.specs.List.{starts_with}
use Rattle.std.specs.Option.{option_map}
use Rattle.x86_words.specs.declared.operators.AluOp.{AluOp}
use Rattle.x86_words.specs.declared.insn.X86Insn.{X86Insn}
use Rattle.x86_words.specs.declared.insn.X86Insn.TheVariants.{Mov, MovImm, MovZero, MovAbs, Load, Store, Alu, AluImm, AluLoad, Lea, LeaScaled, ShiftImm, ShiftCl, Not, Test, TestImm, Set, MovByte, MovTwo, MovFour, JumpIf, Jump, Ret, Nop}
use Rattle.x86_words.specs.Codes.{alu_of_opcode, alu_of_digit, shift_of_digit, cond_of_code, scale_of_bits}
use Rattle.x86_words.specs.Encoding.{bytes_of, has_operands, EncodesX86}

-- The first bytes encode the instruction, whatever follows.
pub record BeginsWith (bytes : List ℕ) (i : X86Insn) : Type 0 where
  pub front : List ℕ
  pub rest : List ℕ
  pub encodes : EncodesX86 front i
  pub whole : bytes ≡ front ++ rest

-- the register of three low bits whose high bit is R of the REX prefix
abbrev pub reg_r : ℕ → ℕ → ℕ
reg_r prefix low = 8 * (prefix / 4 % 2) + low % 8

-- the register of three low bits whose high bit is X
abbrev pub reg_x : ℕ → ℕ → ℕ
reg_x prefix low = 8 * (prefix / 2 % 2) + low % 8

-- the register of three low bits whose high bit is B
abbrev pub reg_b : ℕ → ℕ → ℕ
reg_b prefix low = 8 * (prefix % 2) + low % 8

-- the number in the four bytes from a place on
abbrev pub four_at : List ℕ → ℕ → ℕ
four_at b k = from_le_bytes w32 (slice_index b k ∷ slice_index b (k + 1) ∷ slice_index b (k + 2) ∷ slice_index b (k + 3) ∷ [])

-- that number, in two's complement
abbrev pub signed_at : List ℕ → ℕ → ℤ
signed_at b k = cast_signed w32 (four_at b k)

-- the number in the eight bytes from a place on
abbrev pub eight_at : List ℕ → ℕ → ℕ
eight_at b k =
    let byte : ℕ → ℕ = λ i. slice_index b (k + i) in
    from_le_bytes w64 (byte 0 ∷ byte 1 ∷ byte 2 ∷ byte 3 ∷ byte 4 ∷ byte 5 ∷ byte 6 ∷ byte 7 ∷ [])

-- 89: r/m is a register or a quadword
abbrev pub mov_form : ℕ → ℕ → ℕ → ℤ → X86Insn
mov_form mode reg rm number = if mode == 3 then Mov rm reg else Store rm number reg

-- an operator's opcode: r/m is a register or a quadword
abbrev pub alu_form : ℕ → ℕ → ℕ → ℤ → AluOp → X86Insn
alu_form mode reg rm number op = if mode == 3 then Alu op reg rm else AluLoad op reg rm number

-- 8D: with a displacement, or with a scaled index
abbrev pub lea_form : ℕ → ℕ → ℕ → ℕ → ℤ → ℕ → X86Insn
lea_form prefix mode reg rm number sib =
    if mode == 2 then Lea reg rm number else LeaScaled reg (reg_b prefix sib) (reg_x prefix (sib / 8)) (scale_of_bits (sib / 64))

-- F7: the digit decides
abbrev pub not_form : ℕ → ℕ → ℤ → X86Insn
not_form digit rm number = if digit == 2 then Not rm else TestImm rm number

-- 81: the digit is the operator's
abbrev pub alu_imm_form : ℕ → ℕ → ℤ → Option X86Insn
alu_imm_form digit rm number = option_map (λ op. AluImm op rm number) (alu_of_digit digit)

-- C1: the digit is the shift's
abbrev pub shift_imm_form : ℕ → ℕ → ℕ → Option X86Insn
shift_imm_form digit rm count = option_map (λ op. ShiftImm op rm count) (shift_of_digit digit)

-- D3: the digit is the shift's
abbrev pub shift_cl_form : ℕ → ℕ → Option X86Insn
shift_cl_form digit rm = option_map (λ op. ShiftCl op rm) (shift_of_digit digit)

-- 0F: the second opcode byte has the condition's code
abbrev pub set_form : ℕ → ℕ → Option X86Insn
set_form second rm = option_map (λ cond. Set cond rm) (cond_of_code (second % 16))

-- 0F without a prefix: the second opcode byte has the condition's code
abbrev pub jump_if_form : List ℕ → Option X86Insn
jump_if_form b = option_map (λ cond. JumpIf cond (signed_at b 2)) (cond_of_code (slice_index b 1 % 16))

-- with W, by the opcode: ModRM is byte 2, and a number, a count or a SIB byte follows
abbrev pub wide_form : ℕ → ℕ → ℕ → List ℕ → Option X86Insn
wide_form prefix opcode modrm b =
    let mode = modrm / 64 in
    let digit = modrm / 8 % 8 in
    let reg = reg_r prefix (modrm / 8) in
    let rm = reg_b prefix modrm in
    let next = slice_index b 3 in
    let number = signed_at b 3 in
    if opcode / 8 == 0x17 then Some (MovAbs (reg_b prefix opcode) (eight_at b 2))
    else if opcode == 0x89 then Some (mov_form mode reg rm number)
    else if opcode == 0x8B then Some (Load reg rm number)
    else if opcode == 0xC7 then Some (MovImm rm number)
    else if opcode == 0x81 then alu_imm_form digit rm number
    else if opcode == 0x8D then Some (lea_form prefix mode reg rm number next)
    else if opcode == 0xC1 then shift_imm_form digit rm next
    else if opcode == 0xD3 then shift_cl_form digit rm
    else if opcode == 0xF7 then Some (not_form digit rm number)
    else if opcode == 0x85 then Some (Test rm reg)
    else option_map (alu_form mode reg rm number) (alu_of_opcode opcode)

-- without W: a second opcode byte, and ModRM as byte 3, if the first is 0F
abbrev pub narrow_form : ℕ → ℕ → ℕ → ℕ → List ℕ → Option X86Insn
narrow_form prefix opcode second modrm b =
    if opcode / 8 == 0x17 then Some (MovZero (reg_b prefix opcode) (four_at b 2))
    else if opcode == 0x89 then Some (MovFour (reg_b prefix second) (reg_r prefix (second / 8)))
    else if second == 0xB6 then Some (MovByte (reg_r prefix (modrm / 8)) (reg_b prefix modrm))
    else if second == 0xB7 then Some (MovTwo (reg_r prefix (modrm / 8)) (reg_b prefix modrm))
    else set_form second (reg_b prefix modrm)

-- without a prefix
abbrev pub plain_form : ℕ → List ℕ → Option X86Insn
plain_form opcode b =
    if opcode == 0xE9 then Some (Jump (signed_at b 1))
    else if opcode == 0xC3 then Some Ret
    else if opcode == 0x90 then Some Nop
    else jump_if_form b

-- the only form that the bytes may have
abbrev pub form_at_front : List ℕ → Option X86Insn
form_at_front b =
    let first = slice_index b 0 in
    if first / 8 == 9 then wide_form first (slice_index b 1) (slice_index b 2) b
    else if first / 8 == 8 then narrow_form first (slice_index b 1) (slice_index b 2) (slice_index b 3) b
    else plain_form first b

-- whether the bytes begin with the instruction's own
abbrev pub is_own : List ℕ → X86Insn → Bool
is_own b i = has_operands i && starts_with nat_eq b (bytes_of i)

-- an instruction, if the bytes begin with its own
abbrev pub if_own : List ℕ → Option X86Insn → Option X86Insn
if_own b None = None
if_own b (Some i) = if is_own b i then Some i else None

-- The instruction at the front of the bytes, if any.
abbrev pub insn_at_front : List ℕ → Option X86Insn
insn_at_front b = if_own b (form_at_front b)
