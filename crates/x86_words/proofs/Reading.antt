-- What is written is read: the form at the front of an instruction's bytes is the instruction.
use Rattle.std.proofs.Common.{◌≡◌, ℕ, ◌+◌, ◌/◌, ◌%◌, ◌^◌, ◌<◌, List, ◌∷◌, ◌++◌, Some, option_map, refl, ap, ◌∙◌, arith, ℤ, pos, negsuc, FitsSigned}
use Rattle.std.specs.Int.{byte_at, from_le_bytes, cast_signed, cast_unsigned, w32}
use Rattle.std.proofs.lemmas.Int.{to_z-of_z}
use Rattle.std.proofs.lemmas.Nat.{from_le_bytes-to_le_bytes_4, from_le_bytes-to_le_bytes_8}
use Rattle.x86_words.specs.declared.operators.AluOp.{AluOp}
use Rattle.x86_words.specs.declared.operators.AluOp.TheVariants as alu
use Rattle.x86_words.specs.declared.operators.ShiftOp.{ShiftOp}
use Rattle.x86_words.specs.declared.operators.ShiftOp.TheVariants as shift
use Rattle.x86_words.specs.declared.operators.X86Cond.{X86Cond}
use Rattle.x86_words.specs.declared.operators.X86Cond.TheVariants as cc
use Rattle.x86_words.specs.declared.operators.Scale.{Scale}
use Rattle.x86_words.specs.declared.operators.Scale.TheVariants as scale
use Rattle.x86_words.specs.declared.insn.X86Insn.{X86Insn}
use Rattle.x86_words.specs.declared.insn.X86Insn.TheVariants.{Mov, MovImm, MovZero, MovAbs, Load, Store, Alu, AluImm, AluLoad, Lea, LeaScaled}
use Rattle.x86_words.specs.declared.insn.X86Insn.TheVariants.{ShiftImm, ShiftCl, Not, Test, TestImm, Set, MovByte, MovTwo, MovFour, JumpIf, Jump, Ret}
use Rattle.x86_words.specs.declared.insn.X86Insn.TheVariants.{Nop}
use Rattle.x86_words.specs.Codes.{alu_opcode, alu_digit, shift_digit, cond_code, scale_bits, alu_of_digit, shift_of_digit, cond_of_code, scale_of_bits}
use Rattle.x86_words.specs.Encoding.{rex, modrm, four_bytes, bytes_of, FitsFields}
use Rattle.x86_words.specs.Decoding.{reg_r, reg_x, reg_b, four_at, signed_at, eight_at, alu_form, not_form, alu_imm_form, shift_imm_form}
use Rattle.x86_words.specs.Decoding.{shift_cl_form, wide_form, narrow_form, form_at_front}

-- ---- fields

prefix-is : (w r x b : ℕ) → r < 16 → x < 16 → b < 16 → rex w r x b / 8 ≡ 8 + w
prefix-is w r x b p q s = omega (arith, p, q, s)

mode-is : (mode r b : ℕ) → modrm mode r b / 64 ≡ mode
mode-is mode r b = omega arith

digit-is : (mode d b : ℕ) → d < 8 → modrm mode d b / 8 % 8 ≡ d
digit-is mode d b h = omega (arith, h)

reg-is : (w x b mode r m : ℕ) → r < 16 → x < 16 → b < 16 → reg_r (rex w r x b) (modrm mode r m / 8) ≡ r
reg-is w x b mode r m p q s = omega (arith, p, q, s)

index-is : (w r b mode x m : ℕ) → r < 16 → x < 16 → b < 16 → reg_x (rex w r x b) (modrm mode x m / 8) ≡ x
index-is w r b mode x m p q s = omega (arith, p, q, s)

rm-is : (w r x mode m b : ℕ) → r < 16 → x < 16 → b < 16 → reg_b (rex w r x b) (modrm mode m b) ≡ b
rm-is w r x mode m b p q s = omega (arith, p, q, s)

low-is : (w b : ℕ) → b < 16 → reg_b (rex w 0 0 b) (0xB8 + b % 8) ≡ b
low-is w b h = omega (arith, h)

opcode-is : (b : ℕ) → (0xB8 + b % 8) / 8 ≡ 0x17
opcode-is b = omega arith

-- ---- numbers

unsigned-below : (z : ℤ) → FitsSigned w32 z → cast_unsigned w32 z < 2 ^ 32
unsigned-below (pos n) h = let b : n < 2 ^ 31 = h.sfits in omega (arith, b)
unsigned-below (negsuc n) h = omega arith

number-is : (z : ℤ) → FitsSigned w32 z → cast_signed w32 (from_le_bytes w32 (four_bytes z)) ≡ z
number-is z h = ap (cast_signed w32) (from_le_bytes-to_le_bytes_4 (cast_unsigned w32 z) (unsigned-below z h)) ∙ to_z-of_z w32 z h

-- ---- codes

alu_digit-below : (op : AluOp) → alu_digit op < 8
alu_digit-below alu.Add = omega arith
alu_digit-below alu.Or = omega arith
alu_digit-below alu.And = omega arith
alu_digit-below alu.Sub = omega arith
alu_digit-below alu.Xor = omega arith
alu_digit-below alu.Cmp = omega arith

alu-found : (op : AluOp) → alu_of_digit (alu_digit op) ≡ Some op
alu-found alu.Add = refl
alu-found alu.Or = refl
alu-found alu.And = refl
alu-found alu.Sub = refl
alu-found alu.Xor = refl
alu-found alu.Cmp = refl

alu-form : (op : AluOp) (p m : ℕ) (b : List ℕ) → wide_form p (alu_opcode op) m b ≡ Some (alu_form (m / 64) (reg_r p (m / 8)) (reg_b p m) (signed_at b 3) op)
alu-form alu.Add p m b = refl
alu-form alu.Or p m b = refl
alu-form alu.And p m b = refl
alu-form alu.Sub p m b = refl
alu-form alu.Xor p m b = refl
alu-form alu.Cmp p m b = refl

shift_digit-below : (op : ShiftOp) → shift_digit op < 8
shift_digit-below shift.Shl = omega arith
shift_digit-below shift.Shr = omega arith
shift_digit-below shift.Sar = omega arith

shift-found : (op : ShiftOp) → shift_of_digit (shift_digit op) ≡ Some op
shift-found shift.Shl = refl
shift-found shift.Shr = refl
shift-found shift.Sar = refl

set-form : (c : X86Cond) (p m : ℕ) (b : List ℕ) → narrow_form p 0x0F (0x90 + cond_code c) m b ≡ Some (Set c (reg_b p m))
set-form cc.Below p m b = refl
set-form cc.AboveOrEqual p m b = refl
set-form cc.Equal p m b = refl
set-form cc.NotEqual p m b = refl
set-form cc.BelowOrEqual p m b = refl
set-form cc.Above p m b = refl
set-form cc.Sign p m b = refl
set-form cc.NoSign p m b = refl
set-form cc.Less p m b = refl
set-form cc.GreaterOrEqual p m b = refl
set-form cc.LessOrEqual p m b = refl
set-form cc.Greater p m b = refl

jump-found : (c : X86Cond) → cond_of_code ((0x80 + cond_code c) % 16) ≡ Some c
jump-found cc.Below = refl
jump-found cc.AboveOrEqual = refl
jump-found cc.Equal = refl
jump-found cc.NotEqual = refl
jump-found cc.BelowOrEqual = refl
jump-found cc.Above = refl
jump-found cc.Sign = refl
jump-found cc.NoSign = refl
jump-found cc.Less = refl
jump-found cc.GreaterOrEqual = refl
jump-found cc.LessOrEqual = refl
jump-found cc.Greater = refl

scale-found : (s : Scale) → scale_of_bits (scale_bits s) ≡ s
scale-found scale.One = refl
scale-found scale.Two = refl
scale-found scale.Four = refl
scale-found scale.Eight = refl

-- ---- forms by the prefix

wide-at : (p op m : ℕ) (l : List ℕ) → p / 8 ≡ 9 → form_at_front (p ∷ op ∷ m ∷ l) ≡ wide_form p op m (p ∷ op ∷ m ∷ l)
wide-at p op m l h = rw h refl

narrow-at : (p op s m : ℕ) (l : List ℕ) → p / 8 ≡ 8 → form_at_front (p ∷ op ∷ s ∷ m ∷ l) ≡ narrow_form p op s m (p ∷ op ∷ s ∷ m ∷ l)
narrow-at p op s m l h = rw h refl

-- of three bytes, the form without W doesn't depend on the fourth
four-at : (p m : ℕ) (l : List ℕ) → p / 8 ≡ 8 → form_at_front (p ∷ 0x89 ∷ m ∷ l) ≡ Some (MovFour (reg_b p m) (reg_r p (m / 8)))
four-at p m l h = rw h refl

-- an instruction by equal operands
one : (f : ℕ → X86Insn) (a b : ℕ) → a ≡ b → Some (f a) ≡ Some (f b)
one f a b e = ap (λ x. Some (f x)) e

two : (f : ℕ → ℕ → X86Insn) (a b c d : ℕ) → a ≡ c → b ≡ d → Some (f a b) ≡ Some (f c d)
two f a b c d p q = one (λ x. f x b) a c p ∙ one (f c) b d q

with_number : (f : ℕ → ℤ → X86Insn) (a c : ℕ) (y z : ℤ) → a ≡ c → y ≡ z → Some (f a y) ≡ Some (f c z)
with_number f a c y z p q = one (λ x. f x y) a c p ∙ ap (λ x. Some (f c x)) q

three : (f : ℕ → ℕ → ℤ → X86Insn) (a b c d : ℕ) (y z : ℤ) → a ≡ c → b ≡ d → y ≡ z → Some (f a b y) ≡ Some (f c d z)
three f a b c d y z p q e = two (λ x v. f x v y) a b c d p q ∙ ap (λ x. Some (f c d x)) e

-- ---- forms that share an opcode, by mod or by the digit

mov-reg : (p m : ℕ) (b : List ℕ) → m / 64 ≡ 3 → wide_form p 0x89 m b ≡ Some (Mov (reg_b p m) (reg_r p (m / 8)))
mov-reg p m b h = rw h refl

mov-memory : (p m : ℕ) (b : List ℕ) → m / 64 ≡ 2 → wide_form p 0x89 m b ≡ Some (Store (reg_b p m) (signed_at b 3) (reg_r p (m / 8)))
mov-memory p m b h = rw h refl

alu-reg : (op : AluOp) (p m : ℕ) (b : List ℕ) → m / 64 ≡ 3 → wide_form p (alu_opcode op) m b ≡ Some (Alu op (reg_r p (m / 8)) (reg_b p m))
alu-reg op p m b h = alu-form op p m b ∙ ap (λ z. Some (alu_form z (reg_r p (m / 8)) (reg_b p m) (signed_at b 3) op)) h

alu-memory : (op : AluOp) (p m : ℕ) (b : List ℕ) → m / 64 ≡ 2 →
    wide_form p (alu_opcode op) m b ≡ Some (AluLoad op (reg_r p (m / 8)) (reg_b p m) (signed_at b 3))
alu-memory op p m b h = alu-form op p m b ∙ ap (λ z. Some (alu_form z (reg_r p (m / 8)) (reg_b p m) (signed_at b 3) op)) h

lea-memory : (p m : ℕ) (b : List ℕ) → m / 64 ≡ 2 → wide_form p 0x8D m b ≡ Some (Lea (reg_r p (m / 8)) (reg_b p m) (signed_at b 3))
lea-memory p m b h = rw h refl

lea-scaled : (p m s : ℕ) (b : List ℕ) → m / 64 ≡ 1 →
    wide_form p 0x8D m (p ∷ 0x8D ∷ m ∷ s ∷ b) ≡ Some (LeaScaled (reg_r p (m / 8)) (reg_b p s) (reg_x p (s / 8)) (scale_of_bits (s / 64)))
lea-scaled p m s b h = rw h refl

zero-form : (p op s m : ℕ) (b : List ℕ) → op / 8 ≡ 0x17 → narrow_form p op s m b ≡ Some (MovZero (reg_b p op) (four_at b 2))
zero-form p op s m b h = rw h refl

abs-form : (p op m : ℕ) (b : List ℕ) → op / 8 ≡ 0x17 → wide_form p op m b ≡ Some (MovAbs (reg_b p op) (eight_at b 2))
abs-form p op m b h = rw h refl

-- ---- each form

zero-reg : 0 < 16
zero-reg = omega arith

module _ (rest : List ℕ) where
  abbrev IsRead : X86Insn → Type 0
  IsRead i = form_at_front (bytes_of i ++ rest) ≡ Some i

  -- a digit in the place of a register
  digit-reg : (d : ℕ) → d < 8 → d < 16
  digit-reg d h = omega (arith, h)

  pub reading : (i : X86Insn) → FitsFields i → IsRead i
  reading (Mov to from) h =
      wide-at (rex 1 from 0 to) 0x89 (modrm 3 from to) rest (prefix-is 1 from 0 to h.1 zero-reg h.0)
      ∙ mov-reg (rex 1 from 0 to) (modrm 3 from to) (bytes_of (Mov to from) ++ rest) (mode-is 3 from to)
      ∙ two Mov _ _ to from (rm-is 1 from 0 3 from to h.1 zero-reg h.0) (reg-is 1 0 to 3 from to h.1 zero-reg h.0)
  reading (MovImm to imm) h =
      wide-at (rex 1 0 0 to) 0xC7 (modrm 3 0 to) (four_bytes imm ++ rest) (prefix-is 1 0 0 to zero-reg zero-reg h.0)
      ∙ with_number MovImm _ to _ imm (rm-is 1 0 0 3 0 to zero-reg zero-reg h.0) (number-is imm h.1)
  reading (MovZero to imm) h =
      narrow-at (rex 0 0 0 to) (0xB8 + to % 8) (byte_at 0 imm) (byte_at 1 imm) (byte_at 2 imm ∷ byte_at 3 imm ∷ rest) (prefix-is 0 0 0 to zero-reg zero-reg h.0)
      ∙ zero-form (rex 0 0 0 to) (0xB8 + to % 8) (byte_at 0 imm) (byte_at 1 imm) (bytes_of (MovZero to imm) ++ rest) (opcode-is to)
      ∙ two MovZero _ _ to imm (low-is 0 to h.0) (from_le_bytes-to_le_bytes_4 imm h.1)
  reading (MovAbs to imm) h =
      wide-at (rex 1 0 0 to) (0xB8 + to % 8) (byte_at 0 imm)
      (byte_at 1 imm ∷ byte_at 2 imm ∷ byte_at 3 imm ∷ byte_at 4 imm ∷ byte_at 5 imm ∷ byte_at 6 imm ∷ byte_at 7 imm ∷ rest)
      (prefix-is 1 0 0 to zero-reg zero-reg h.0)
      ∙ abs-form (rex 1 0 0 to) (0xB8 + to % 8) (byte_at 0 imm) (bytes_of (MovAbs to imm) ++ rest) (opcode-is to)
      ∙ two MovAbs _ _ to imm (low-is 1 to h.0) (from_le_bytes-to_le_bytes_8 imm h.1)
  reading (Load to base disp) h =
      wide-at (rex 1 to 0 base) 0x8B (modrm 2 to base) (four_bytes disp ++ rest) (prefix-is 1 to 0 base h.0 zero-reg h.1)
      ∙ three Load _ _ to base _ disp (reg-is 1 0 base 2 to base h.0 zero-reg h.1) (rm-is 1 to 0 2 to base h.0 zero-reg h.1) (number-is disp h.2)
  reading (Store base disp from) h =
      wide-at (rex 1 from 0 base) 0x89 (modrm 2 from base) (four_bytes disp ++ rest) (prefix-is 1 from 0 base h.2 zero-reg h.0)
      ∙ mov-memory (rex 1 from 0 base) (modrm 2 from base) (bytes_of (Store base disp from) ++ rest) (mode-is 2 from base)
      ∙ three (λ x y z. Store x z y) _ _ base from _ disp (rm-is 1 from 0 2 from base h.2 zero-reg h.0) (reg-is 1 0 base 2 from base h.2 zero-reg h.0)
      (number-is disp h.1)
  reading (Alu op to from) h =
      wide-at (rex 1 to 0 from) (alu_opcode op) (modrm 3 to from) rest (prefix-is 1 to 0 from h.0 zero-reg h.1)
      ∙ alu-reg op (rex 1 to 0 from) (modrm 3 to from) (bytes_of (Alu op to from) ++ rest) (mode-is 3 to from)
      ∙ two (Alu op) _ _ to from (reg-is 1 0 from 3 to from h.0 zero-reg h.1) (rm-is 1 to 0 3 to from h.0 zero-reg h.1)
  reading (AluImm op to imm) h =
      let d = alu_digit op in
      let below = alu_digit-below op in
      let p = rex 1 d 0 to in
      let m = modrm 3 d to in
      wide-at p 0x81 m (four_bytes imm ++ rest) (prefix-is 1 d 0 to (digit-reg d below) zero-reg h.0)
      ∙ ap (λ e. alu_imm_form e (reg_b p m) (signed_at (bytes_of (AluImm op to imm) ++ rest) 3)) (digit-is 3 d to below)
      ∙ ap (option_map (λ o. AluImm o (reg_b p m) (signed_at (bytes_of (AluImm op to imm) ++ rest) 3))) (alu-found op)
      ∙ with_number (AluImm op) _ to _ imm (rm-is 1 d 0 3 d to (digit-reg d below) zero-reg h.0) (number-is imm h.1)
  reading (AluLoad op to base disp) h =
      wide-at (rex 1 to 0 base) (alu_opcode op) (modrm 2 to base) (four_bytes disp ++ rest) (prefix-is 1 to 0 base h.0 zero-reg h.1)
      ∙ alu-memory op (rex 1 to 0 base) (modrm 2 to base) (bytes_of (AluLoad op to base disp) ++ rest) (mode-is 2 to base)
      ∙ three (AluLoad op) _ _ to base _ disp (reg-is 1 0 base 2 to base h.0 zero-reg h.1) (rm-is 1 to 0 2 to base h.0 zero-reg h.1) (number-is disp h.2)
  reading (Lea to base disp) h =
      wide-at (rex 1 to 0 base) 0x8D (modrm 2 to base) (four_bytes disp ++ rest) (prefix-is 1 to 0 base h.0 zero-reg h.1)
      ∙ lea-memory (rex 1 to 0 base) (modrm 2 to base) (bytes_of (Lea to base disp) ++ rest) (mode-is 2 to base)
      ∙ three Lea _ _ to base _ disp (reg-is 1 0 base 2 to base h.0 zero-reg h.1) (rm-is 1 to 0 2 to base h.0 zero-reg h.1) (number-is disp h.2)
  reading (LeaScaled to base index s) h =
      let p = rex 1 to index base in
      let sib = modrm (scale_bits s) index base in
      wide-at p 0x8D (modrm 1 to 4) (sib ∷ 0 ∷ rest) (prefix-is 1 to index base h.0 h.2 h.1) ∙ lea-scaled p (modrm 1 to 4) sib (0 ∷ rest) (mode-is 1 to 4)
      ∙ two (λ x y. LeaScaled x y (reg_x p (sib / 8)) (scale_of_bits (sib / 64))) _ _ to base (reg-is 1 index base 1 to 4 h.0 h.2 h.1)
      (rm-is 1 to index (scale_bits s) index base h.0 h.2 h.1)
      ∙ one (λ x. LeaScaled to base x (scale_of_bits (sib / 64))) _ index (index-is 1 to base (scale_bits s) index base h.0 h.2 h.1)
      ∙ ap (λ x. Some (LeaScaled to base index (scale_of_bits x))) (mode-is (scale_bits s) index base)
      ∙ ap (λ x. Some (LeaScaled to base index x)) (scale-found s)
  reading (ShiftImm op to count) h =
      let d = shift_digit op in
      let below = shift_digit-below op in
      let p = rex 1 d 0 to in
      let m = modrm 3 d to in
      wide-at p 0xC1 m (count ∷ rest) (prefix-is 1 d 0 to (digit-reg d below) zero-reg h)
      ∙ ap (λ e. shift_imm_form e (reg_b p m) count) (digit-is 3 d to below) ∙ ap (option_map (λ o. ShiftImm o (reg_b p m) count)) (shift-found op)
      ∙ one (λ x. ShiftImm op x count) _ to (rm-is 1 d 0 3 d to (digit-reg d below) zero-reg h)
  reading (ShiftCl op to) h =
      let d = shift_digit op in
      let below = shift_digit-below op in
      let p = rex 1 d 0 to in
      let m = modrm 3 d to in
      wide-at p 0xD3 m rest (prefix-is 1 d 0 to (digit-reg d below) zero-reg h)
      ∙ ap (λ e. shift_cl_form e (reg_b p m)) (digit-is 3 d to below) ∙ ap (option_map (λ o. ShiftCl o (reg_b p m))) (shift-found op)
      ∙ one (ShiftCl op) _ to (rm-is 1 d 0 3 d to (digit-reg d below) zero-reg h)
  reading (Not to) h =
      wide-at (rex 1 2 0 to) 0xF7 (modrm 3 2 to) rest (prefix-is 1 2 0 to (omega arith) zero-reg h)
      ∙ ap (λ e. Some (not_form e (reg_b (rex 1 2 0 to) (modrm 3 2 to)) (signed_at (bytes_of (Not to) ++ rest) 3))) (digit-is 3 2 to (omega arith))
      ∙ one Not _ to (rm-is 1 2 0 3 2 to (omega arith) zero-reg h)
  reading (Test left right) h =
      wide-at (rex 1 right 0 left) 0x85 (modrm 3 right left) rest (prefix-is 1 right 0 left h.1 zero-reg h.0)
      ∙ two Test _ _ left right (rm-is 1 right 0 3 right left h.1 zero-reg h.0) (reg-is 1 0 left 3 right left h.1 zero-reg h.0)
  reading (TestImm left imm) h =
      wide-at (rex 1 0 0 left) 0xF7 (modrm 3 0 left) (four_bytes imm ++ rest) (prefix-is 1 0 0 left zero-reg zero-reg h.0)
      ∙ ap (λ e. Some (not_form e (reg_b (rex 1 0 0 left) (modrm 3 0 left)) (signed_at (bytes_of (TestImm left imm) ++ rest) 3)))
      (digit-is 3 0 left (omega arith))
      ∙ with_number TestImm _ left _ imm (rm-is 1 0 0 3 0 left zero-reg zero-reg h.0) (number-is imm h.1)
  reading (Set c to) h =
      narrow-at (rex 0 0 0 to) 0x0F (0x90 + cond_code c) (modrm 3 0 to) rest (prefix-is 0 0 0 to zero-reg zero-reg h)
      ∙ set-form c (rex 0 0 0 to) (modrm 3 0 to) (bytes_of (Set c to) ++ rest) ∙ one (Set c) _ to (rm-is 0 0 0 3 0 to zero-reg zero-reg h)
  reading (MovByte to from) h =
      narrow-at (rex 0 to 0 from) 0x0F 0xB6 (modrm 3 to from) rest (prefix-is 0 to 0 from h.0 zero-reg h.1)
      ∙ two MovByte _ _ to from (reg-is 0 0 from 3 to from h.0 zero-reg h.1) (rm-is 0 to 0 3 to from h.0 zero-reg h.1)
  reading (MovTwo to from) h =
      narrow-at (rex 0 to 0 from) 0x0F 0xB7 (modrm 3 to from) rest (prefix-is 0 to 0 from h.0 zero-reg h.1)
      ∙ two MovTwo _ _ to from (reg-is 0 0 from 3 to from h.0 zero-reg h.1) (rm-is 0 to 0 3 to from h.0 zero-reg h.1)
  reading (MovFour to from) h =
      four-at (rex 0 from 0 to) (modrm 3 from to) rest (prefix-is 0 from 0 to h.1 zero-reg h.0)
      ∙ two MovFour _ _ to from (rm-is 0 from 0 3 from to h.1 zero-reg h.0) (reg-is 0 0 to 3 from to h.1 zero-reg h.0)
  reading (JumpIf c disp) h =
      ap (option_map (λ o. JumpIf o (signed_at (bytes_of (JumpIf c disp) ++ rest) 2))) (jump-found c) ∙ ap (λ z. Some (JumpIf c z)) (number-is disp h)
  reading (Jump disp) h = ap (λ z. Some (Jump z)) (number-is disp h)
  reading Ret h = refl
  reading Nop h = refl
