-- The instruction that the definition finds at the front of bytes is the one that they begin with.
use Rattle.std.proofs.Common.{◌≡◌, ℕ, ◌+◌, ◌/◌, ◌%◌, ◌^◌, ◌<◌, ◌≤◌, Bool, true, false, cond, eqb, nat_eq, ◌↔◌, List, ◌++◌, length, drop, slice_index}
use Rattle.std.proofs.Common.{Option, Some, None, IfSome, option_map, refl, sym, ap, ◌∙◌, subst, arith, FitsSigned, inl, inr, length-append}
use Rattle.std.specs.Int.{cast_signed, w32}
use Rattle.std.specs.List.{starts_with}
use Rattle.std.proofs.lemmas.Bool.{cond_both, and_parts, cases_lt, lt-ltb, le-ltb}
use Rattle.std.proofs.lemmas.Bool.Decides.{Decides-eqb}
use Rattle.std.proofs.lemmas.Option.{same_Some}
use Rattle.std.proofs.lemmas.Slice.Eq.{starts_is}
use Rattle.x86_words.specs.declared.insn.X86Insn.{X86Insn}
use Rattle.x86_words.specs.declared.insn.X86Insn.TheVariants.{Mov, MovImm, MovZero, MovAbs, Load, Store, Alu, AluImm, AluLoad, Lea, LeaScaled}
use Rattle.x86_words.specs.declared.insn.X86Insn.TheVariants.{ShiftImm, ShiftCl, Not, Test, TestImm, Set, MovByte, MovTwo, MovFour, JumpIf, Jump, Ret}
use Rattle.x86_words.specs.declared.insn.X86Insn.TheVariants.{Nop}
use Rattle.x86_words.specs.Codes.{alu_of_opcode, alu_of_digit, shift_of_digit, cond_of_code}
use Rattle.x86_words.specs.Encoding.{bytes_of, length_of, has_operands, FitsFields}
use Rattle.x86_words.specs.Decoding.{BeginsWith, reg_r, reg_x, reg_b, four_at, signed_at, eight_at, wide_form, narrow_form, plain_form, form_at_front}
use Rattle.x86_words.specs.Decoding.{is_own, if_own, insn_at_front}
use Rattle.x86_words.proofs.Reading.{reading}

-- ---- one length a form

pub length-bytes_of : (i : X86Insn) → length (bytes_of i) ≡ length_of i
length-bytes_of (Mov to from) = refl
length-bytes_of (MovImm to imm) = refl
length-bytes_of (MovZero to imm) = refl
length-bytes_of (MovAbs to imm) = refl
length-bytes_of (Load to base disp) = refl
length-bytes_of (Store base disp from) = refl
length-bytes_of (Alu op to from) = refl
length-bytes_of (AluImm op to imm) = refl
length-bytes_of (AluLoad op to base disp) = refl
length-bytes_of (Lea to base disp) = refl
length-bytes_of (LeaScaled to base index s) = refl
length-bytes_of (ShiftImm op to count) = refl
length-bytes_of (ShiftCl op to) = refl
length-bytes_of (Not to) = refl
length-bytes_of (Test left right) = refl
length-bytes_of (TestImm left imm) = refl
length-bytes_of (Set c to) = refl
length-bytes_of (MovByte to from) = refl
length-bytes_of (MovTwo to from) = refl
length-bytes_of (MovFour to from) = refl
length-bytes_of (JumpIf c disp) = refl
length-bytes_of (Jump disp) = refl
length-bytes_of Ret = refl
length-bytes_of Nop = refl

pub length_of-pos : (i : X86Insn) → 0 < length_of i
length_of-pos (Mov to from) = omega arith
length_of-pos (MovImm to imm) = omega arith
length_of-pos (MovZero to imm) = omega arith
length_of-pos (MovAbs to imm) = omega arith
length_of-pos (Load to base disp) = omega arith
length_of-pos (Store base disp from) = omega arith
length_of-pos (Alu op to from) = omega arith
length_of-pos (AluImm op to imm) = omega arith
length_of-pos (AluLoad op to base disp) = omega arith
length_of-pos (Lea to base disp) = omega arith
length_of-pos (LeaScaled to base index s) = omega arith
length_of-pos (ShiftImm op to count) = omega arith
length_of-pos (ShiftCl op to) = omega arith
length_of-pos (Not to) = omega arith
length_of-pos (Test left right) = omega arith
length_of-pos (TestImm left imm) = omega arith
length_of-pos (Set c to) = omega arith
length_of-pos (MovByte to from) = omega arith
length_of-pos (MovTwo to from) = omega arith
length_of-pos (MovFour to from) = omega arith
length_of-pos (JumpIf c disp) = omega arith
length_of-pos (Jump disp) = omega arith
length_of-pos Ret = omega arith
length_of-pos Nop = omega arith

-- ---- what the test of the bytes says

abbrev Starts : List ℕ → X86Insn → Type 0
Starts b i = starts_with nat_eq b (bytes_of i) ≡ true

starts : (b : List ℕ) (i : X86Insn) → (Starts b i → b ≡ bytes_of i ++ drop (length (bytes_of i)) b) × ((rest : List ℕ) → b ≡ bytes_of i ++ rest → Starts b i)
starts b i = starts_is Decides-eqb b (bytes_of i) (starts_with nat_eq b (bytes_of i)) refl

-- ---- what a form has

reg_r-below : (p m : ℕ) → reg_r p m < 16
reg_r-below p m = omega arith

reg_x-below : (p m : ℕ) → reg_x p m < 16
reg_x-below p m = omega arith

reg_b-below : (p m : ℕ) → reg_b p m < 16
reg_b-below p m = omega arith

signed-fits : (n : ℕ) → FitsSigned w32 (cast_signed w32 n)
signed-fits n = elim (cases_lt n (2 ^ 31)) [
  | inl h ↦ rw (lt-ltb n (2 ^ 31) h) (record { sfits = h })
  | inr h ↦ rw (le-ltb n (2 ^ 31) h) (record { sfits = omega (arith, h) })
]

module _ (b : List ℕ) where
  -- a form that has its widths if the bytes begin with its own
  abbrev IsWide : X86Insn → Type 0
  IsWide i = Starts b i → FitsFields i

  abbrev AreWide : Option X86Insn → Type 0
  AreWide o = IfSome o IsWide

  number-fits : (k : ℕ) → FitsSigned w32 (signed_at b k)
  number-fits k = signed-fits (four_at b k)

  -- a number that its own bytes have is below their power
  zero-wide : (r : ℕ) → r < 16 → IsWide (MovZero r (four_at b 2))
  zero-wide r h t =
      let n : ℕ = four_at b 2 in
      let whole : b ≡ bytes_of (MovZero r n) ++ drop 6 b = (starts b (MovZero r n)).0 t in
      let byte : (k : ℕ) → slice_index b k ≡ slice_index (bytes_of (MovZero r n) ++ drop 6 b) k = λ k. ap (λ l. slice_index l k) whole in
      (h, omega (arith, byte 2, byte 3, byte 4, byte 5))

  abs-wide : (r : ℕ) → r < 16 → IsWide (MovAbs r (eight_at b 2))
  abs-wide r h t =
      let n : ℕ = eight_at b 2 in
      let whole : b ≡ bytes_of (MovAbs r n) ++ drop 10 b = (starts b (MovAbs r n)).0 t in
      let byte : (k : ℕ) → slice_index b k ≡ slice_index (bytes_of (MovAbs r n) ++ drop 10 b) k = λ k. ap (λ l. slice_index l k) whole in
      (h, omega (arith, byte 2, byte 3, byte 4, byte 5, byte 6, byte 7, byte 8, byte 9))

  -- one test of a chain
  pick : {A : Type 0} (P : A → Type 0) (t : Bool) (x y : A) → P x → P y → P (cond t x y)
  pick P t x y h k = cond_both t x y P (λ _. h) (λ _. k)

  mapped : {A : Type 0} (f : A → X86Insn) (o : Option A) → ((a : A) → IsWide (f a)) → AreWide (option_map f o)
  mapped f None h = tt
  mapped f (Some a) h = h a

  wide-form : (p op m : ℕ) → AreWide (wide_form p op m b)
  wide-form p op m =
      let reg = reg_r p (m / 8) in
      let rm = reg_b p m in
      let r : reg < 16 = reg_r-below p (m / 8) in
      let s : rm < 16 = reg_b-below p m in
      let n = number-fits 3 in
      pick AreWide (eqb (op / 8) 0x17) _ _ (abs-wide _ (reg_b-below p op))
      (pick AreWide (eqb op 0x89) _ _ (pick IsWide (eqb (m / 64) 3) _ _ (λ _. (s, r)) (λ _. (s, n, r)))
      (pick AreWide (eqb op 0x8B) _ _ (λ _. (r, s, n))
      (pick AreWide (eqb op 0xC7) _ _ (λ _. (s, n))
      (pick AreWide (eqb op 0x81) _ _ (mapped _ (alu_of_digit (m / 8 % 8)) (λ o _. (s, n)))
      (pick AreWide (eqb op 0x8D) _ _
      (pick IsWide (eqb (m / 64) 2) _ _ (λ _. (r, s, n)) (λ _. (r, reg_b-below p (slice_index b 3), reg_x-below p (slice_index b 3 / 8))))
      (pick AreWide (eqb op 0xC1) _ _ (mapped _ (shift_of_digit (m / 8 % 8)) (λ o _. s))
      (pick AreWide (eqb op 0xD3) _ _ (mapped _ (shift_of_digit (m / 8 % 8)) (λ o _. s))
      (pick AreWide (eqb op 0xF7) _ _ (pick IsWide (eqb (m / 8 % 8) 2) _ _ (λ _. s) (λ _. (s, n)))
      (pick AreWide (eqb op 0x85) _ _ (λ _. (s, r))
      (mapped _ (alu_of_opcode op) (λ o. pick IsWide (eqb (m / 64) 3) _ _ (λ _. (r, s)) (λ _. (r, s, n)))))))))))))

  narrow-form : (p op second m : ℕ) → AreWide (narrow_form p op second m b)
  narrow-form p op second m =
      let r = reg_r-below p (m / 8) in
      let s = reg_b-below p m in
      pick AreWide (eqb (op / 8) 0x17) _ _ (zero-wide _ (reg_b-below p op))
      (pick AreWide (eqb op 0x89) _ _ (λ _. (reg_b-below p second, reg_r-below p (second / 8)))
      (pick AreWide (eqb second 0xB6) _ _ (λ _. (r, s))
      (pick AreWide (eqb second 0xB7) _ _ (λ _. (r, s))
      (mapped _ (cond_of_code (second % 16)) (λ c _. s)))))

  plain-form : (op : ℕ) → AreWide (plain_form op b)
  plain-form op =
      pick AreWide (eqb op 0xE9) _ _ (λ _. number-fits 1)
      (pick AreWide (eqb op 0xC3) _ _ (λ _. tt)
      (pick AreWide (eqb op 0x90) _ _ (λ _. tt)
      (mapped _ (cond_of_code (slice_index b 1 % 16)) (λ c _. number-fits 2))))

  any-form : AreWide (form_at_front b)
  any-form =
      let first = slice_index b 0 in
      pick AreWide (eqb (first / 8) 9) _ _ (wide-form first (slice_index b 1) (slice_index b 2))
      (pick AreWide (eqb (first / 8) 8) _ _ (narrow-form first (slice_index b 1) (slice_index b 2) (slice_index b 3)) (plain-form first))

  -- ---- what is found begins the bytes

  owned : (i j : X86Insn) (t : Bool) → IsWide j → is_own b j ≡ t → cond t (Some j) None ≡ Some i → BeginsWith b i
  owned i j true w own e =
      let parts = and_parts (has_operands j) (starts_with nat_eq b (bytes_of j)) own in
      subst (λ x. BeginsWith b x) (same_Some j i e) (record {
        front = bytes_of j;
        rest = drop (length (bytes_of j)) b;
        encodes = record { insn = record { widths = w parts.1; operands = parts.0 }; own = refl };
        whole = (starts b j).0 parts.1;
      })
  owned i j false w own e = absurd cc

  found : (i : X86Insn) (o : Option X86Insn) → AreWide o → if_own b o ≡ Some i → BeginsWith b i
  found i None w e = absurd cc
  found i (Some j) w e = owned i j (is_own b j) w refl e

  pub begins : (i : X86Insn) → insn_at_front b ≡ Some i → BeginsWith b i
  begins i e = found i (form_at_front b) any-form e

-- ---- what begins the bytes is found

pub finds : (b : List ℕ) (i : X86Insn) → BeginsWith b i → insn_at_front b ≡ Some i
finds b i h =
    let whole : b ≡ bytes_of i ++ h.rest = h.whole ∙ ap (λ l. l ++ h.rest) h.encodes.own in
    let form : form_at_front b ≡ Some i = ap form_at_front whole ∙ reading h.rest i h.encodes.insn.widths in
    let started : Starts b i = (starts b i).1 h.rest whole in
    let own : is_own b i ≡ true = rw (h.encodes.insn.operands, started) refl in
    ap (if_own b) form ∙ ap (λ t. cond t (Some i) None) own

pub front-exactly : (b : List ℕ) (i : X86Insn) → (insn_at_front b ≡ Some i) ↔ BeginsWith b i
front-exactly b i = (begins b i, finds b i)

pub one-front : (b : List ℕ) (i j : X86Insn) → BeginsWith b i → BeginsWith b j → i ≡ j
one-front b i j h k = same_Some i j (sym (finds b i h) ∙ finds b j k)

-- ---- it fits

pub front-within : (b : List ℕ) (i : X86Insn) → BeginsWith b i → length_of i ≤ length b
front-within b i h =
    let whole : b ≡ bytes_of i ++ h.rest = h.whole ∙ ap (λ l. l ++ h.rest) h.encodes.own in
    let count : length b ≡ length (bytes_of i) + length h.rest = ap length whole ∙ length-append (bytes_of i) h.rest in
    omega (arith, count, length-bytes_of i)

pub found-within : (b : List ℕ) (r : Option X86Insn) → r ≡ insn_at_front b → IfSome r (λ i. length_of i ≤ length b)
found-within b None e = tt
found-within b (Some i) e = front-within b i (begins b i (sym e))
