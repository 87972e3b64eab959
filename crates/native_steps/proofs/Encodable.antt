-- Each instruction of a sequence has bytes, and none jumps.
use Rattle.std.proofs.Common.{◌≡◌, ℕ, ◌*◌, ◌%◌, ◌<◌, Bool, true, false, not, ◌&&◌, ◌==◌, List, [], ◌∷◌, ◌++◌, ℤ, pos, negsuc, All, FitsSigned, refl, sym}
use Rattle.std.proofs.Common.{arith, inl, inr, subst, cond, ap, ◌∙◌}
use Rattle.std.specs.Int.{w32}
use Rattle.std.proofs.lemmas.Bool.{cases_Bool, cases_eq, cases_lt, ne_eqb, eq-eqb, eqb-true, lt-ltb}
use Rattle.std.proofs.lemmas.Nat.{mod_below}
use Rattle.std.proofs.lemmas.List.Elements.{All-nil, All-cons, All-append}
use Rattle.word_ops.specs.declared.Op.{Op}
use Rattle.word_ops.specs.declared.Op.TheVariants as ops
use Rattle.alpha_words.specs.declared.insn.Rhs.{Rhs}
use Rattle.alpha_words.specs.declared.insn.Rhs.TheVariants.{Reg, Lit}
use Rattle.alpha_words.specs.declared.insn.Insn.{Insn}
use Rattle.alpha_words.specs.declared.conditions.Tested.{Tested}
use Rattle.alpha_words.specs.declared.conditions.Tested.TheVariants.{Word, LowBit}
use Rattle.alpha_words.specs.Conditions.{cond_tested}
use Rattle.alpha_words.specs.Encoding.{IsRhs, HasBits}
use Rattle.alpha_words.specs.Formats.{format_of}
use Rattle.alpha_cfg.specs.Actions.{Computed, Sum, Applied, Test, Always, When, Action, action_of, HasOperands}
use Rattle.alpha_cfg.specs.Actions as actions
use Rattle.alpha_cfg.specs.Flow.{IsInsn}
use Rattle.alpha_cfg.proofs.States.{action_of-operands}
use Rattle.x86_words.specs.declared.operators.AluOp.{AluOp}
use Rattle.x86_words.specs.declared.operators.AluOp.TheVariants as alu
use Rattle.x86_words.specs.declared.operators.ShiftOp.{ShiftOp}
use Rattle.x86_words.specs.declared.operators.Scale.{Scale}
use Rattle.x86_words.specs.declared.operators.ShiftOp.TheVariants.{Shl, Shr, Sar}
use Rattle.x86_words.specs.declared.operators.X86Cond.{X86Cond}
use Rattle.x86_words.specs.declared.operators.X86Cond.TheVariants.{Below, Equal, BelowOrEqual, Less, LessOrEqual}
use Rattle.x86_words.specs.declared.operators.Scale.TheVariants.{Four, Eight}
use Rattle.x86_words.specs.declared.insn.X86Insn.{X86Insn}
use Rattle.x86_words.specs.declared.insn.X86Insn.TheVariants.{Mov, MovImm, MovZero, Load, Store, Alu, AluImm, Lea, LeaScaled, ShiftImm, ShiftCl, TestImm, Set}
use Rattle.x86_words.specs.declared.insn.X86Insn.TheVariants.{MovByte, MovTwo, MovFour}
use Rattle.x86_words.specs.declared.insn.X86Insn.TheVariants as x86
use Rattle.x86_words.specs.Encoding.{FitsFields, has_operands, may_be_base}
use Rattle.native_steps.specs.declared.places.Place.{Place}
use Rattle.native_steps.specs.declared.places.Place.TheVariants.{Register, Slot, Nowhere}
use Rattle.native_steps.specs.Places.{Places, ArePlaces, is_free, is_in, place_at, operand_place, slot, RAX, RCX, AREA}
use Rattle.native_steps.specs.Sequences.{fetch_place, keep_place, part_test, fetch, keep, fetch_rhs, action_code, insn_code}
use Rattle.native_steps.specs.Sequences.{source_at, source, brought, ready, target, settle, has_second, is_difference, work_reg, sum_code, op_code}
use Rattle.native_steps.specs.Sequences.{alu_code, move_code, cmp_code, compare_code, shift_code, bic_code, scaled_code, extract_code}
use Rattle.native_steps.specs.Straight.{falls_through, IsStraight}
use Rattle.native_steps.specs.Agreement.{StraightInsns}
use Rattle.native_steps.proofs.Frames.{free-below, isnt}
use Rattle.native_steps.proofs.Instructions.{WritesRegister, format-writes}

-- ---- lists

-- all of them have bytes, and go on at the next
pub record Straight (l : List X86Insn) : Type 0 where
  pub all : All IsStraight l

pub no-insn : Straight []
no-insn = record { all = All-nil IsStraight }

pub then-straight : (i : X86Insn) (rest : List X86Insn) → IsStraight i → Straight rest → Straight (i ∷ rest)
then-straight i rest h k = record { all = All-cons IsStraight i rest h k.all }

pub one-straight : (i : X86Insn) → IsStraight i → Straight (i ∷ [])
one-straight i h = then-straight i [] h no-insn

pub both-straight : (l m : List X86Insn) → Straight l → Straight m → Straight (l ++ m)
both-straight l m h k = record { all = All-append IsStraight l m h.all k.all }

-- an instruction that isn't a jump, from its widths
pub straight : (i : X86Insn) → FitsFields i → has_operands i ≡ true → falls_through i ≡ true → IsStraight i
straight i w o g = record { insn = record { widths = w; operands = o }; on = g }

pub fits : (d : ℤ) → HasBits 31 d → FitsSigned w32 d
fits (pos n) h = record { sfits = h }
fits (negsuc n) h = record { sfits = h }

-- ---- operators

temporary : (r : ℕ) → r < 2 → r < 16
temporary r h = omega (arith, h)

rax-low : RAX < 16
rax-low = omega arith

rcx-low : RCX < 16
rcx-low = omega arith

-- ---- registers

low-by : (b : Bool) {t : ℕ} → t < 16 → cond b RAX t < 16
low-by true h = rax-low
low-by false h = h

-- what is free may be a base, and an index
free-base : (q : ℕ) → is_free q ≡ true → may_be_base q ≡ true
free-base q h = elim (cases_Bool (q % 8 == 4)) [
  | inl e ↦
      let low = free-below q h in
      let four : q % 8 ≡ 4 = eqb-true (q % 8) 4 e in
      elim (cases_lt q 8) [
        | inl small ↦ absurd (isnt is_free q 4 h refl (omega (arith, small, four)))
        | inr big ↦ absurd (isnt is_free q 12 h refl (omega (arith, low, big, four)))
      ]
  | inr e ↦ ap not e
]

free-index : (q : ℕ) → is_free q ≡ true → not (q == 4) ≡ true
free-index q h = ap not (ne_eqb q 4 (isnt is_free q 4 h refl))

index-in : (o : Place) (temp : ℕ) → temp < 2 → ((q : ℕ) → o ≡ Register q → is_free q ≡ true) → not (source_at o temp == 4) ≡ true
index-in (Register q) temp h free = free-index q (free q refl)
index-in Slot temp h free = ap not (ne_eqb temp 4 (λ e. omega (arith, h, e)))
index-in Nowhere temp h free = ap not (ne_eqb temp 4 (λ e. omega (arith, h, e)))

-- ---- operands

pub slot-fits : (r : ℕ) → r < 31 → FitsSigned w32 (slot r)
slot-fits r h = record { sfits = omega (arith, h) }

module _ (p : Places) (places : ArePlaces p) where
  fetch_place-straight : (o : Place) (r to : ℕ) → r < 31 → to < 16 → place_at p r ≡ o → IsStraight (fetch_place o r to)
  fetch_place-straight (Register q) r to low h e = straight (Mov to q) (h, free-below q (places.free r q e)) refl refl
  fetch_place-straight Slot r to low h e = straight (Load to AREA (slot r)) (h, omega arith, slot-fits r low) refl refl
  fetch_place-straight Nowhere r to low h e = straight (MovZero to 0) (h, omega arith) refl refl

  pub fetch-straight : (r to : ℕ) → r < 32 → to < 16 → IsStraight (fetch p r to)
  fetch-straight r to low h = elim (cases_eq r 31) [
    | inl e ↦ subst (λ k. IsStraight (fetch p k to)) (sym e) (straight (MovZero to 0) (h, omega arith) refl refl)
    | inr n ↦
        subst (λ b. IsStraight (cond b (MovZero to 0) (fetch_place (place_at p r) r to))) (sym (ne_eqb r 31 n))
        (fetch_place-straight (place_at p r) r to (omega (arith, low, n)) h refl)
  ]

  -- a register's word into a place
  pub keep_place-straight : (o : Place) (r from : ℕ) → r < 31 → from < 16 → place_at p r ≡ o → Straight (keep_place o r from)
  keep_place-straight (Register q) r from low h e = one-straight _ (straight (Mov q from) (free-below q (places.free r q e), h) refl refl)
  keep_place-straight Slot r from low h e = one-straight _ (straight (Store AREA (slot r) from) (omega arith, slot-fits r low, h) refl refl)
  keep_place-straight Nowhere r from low h e = no-insn

  keep-straight : (r : ℕ) → r < 32 → Straight (keep p r)
  keep-straight r low = elim (cases_eq r 31) [
    | inl e ↦ subst (λ k. Straight (keep p k)) (sym e) no-insn
    | inr n ↦
        subst (λ b. Straight (cond b [] (keep_place (place_at p r) r RAX))) (sym (ne_eqb r 31 n))
        (keep_place-straight (place_at p r) r RAX (omega (arith, low, n)) rax-low refl)
  ]

  either-straight : (b : Bool) (l m : List X86Insn) → Straight l → Straight m → Straight (cond b l m)
  either-straight true l m h k = h
  either-straight false l m h k = k

  brought-straight : (r to : ℕ) → r < 32 → to < 16 → Straight (brought p r to)
  brought-straight r to low h = either-straight (is_in (operand_place p r) to) [] (fetch p r to ∷ []) no-insn (one-straight _ (fetch-straight r to low h))

  settle-straight : (r work : ℕ) → r < 32 → Straight (settle p r work)
  settle-straight r work low = either-straight (is_in (operand_place p r) work) [] (keep p r) no-insn (keep-straight r low)

  -- ---- where operands are read

  source-low : (o : Place) (temp : ℕ) → temp < 2 → ((q : ℕ) → o ≡ Register q → is_free q ≡ true) → source_at o temp < 16
  source-low (Register q) temp h free = free-below q (free q refl)
  source-low Slot temp h free = omega (arith, h)
  source-low Nowhere temp h free = omega (arith, h)

  base-in : (o : Place) (temp : ℕ) → may_be_base temp ≡ true → ((q : ℕ) → o ≡ Register q → is_free q ≡ true) → may_be_base (source_at o temp) ≡ true
  base-in (Register q) temp h free = free-base q (free q refl)
  base-in Slot temp h free = h
  base-in Nowhere temp h free = h

  of-place : (r q : ℕ) → operand_place p r ≡ Register q → is_free q ≡ true
  of-place r q e = elim (cases_eq r 31) [
    | inl same ↦ let wrong : Nowhere ≡ Register q = sym (ap (λ b. cond b Nowhere (place_at p r)) (eq-eqb r 31 same)) ∙ e in absurd cc
    | inr n ↦ places.free r q (sym (ap (λ b. cond b Nowhere (place_at p r)) (ne_eqb r 31 n)) ∙ e)
  ]

  at-low : (r temp : ℕ) → temp < 2 → source p r temp < 16
  at-low r temp h = source-low (operand_place p r) temp h (of-place r)

  at-base : (r temp : ℕ) → may_be_base temp ≡ true → may_be_base (source p r temp) ≡ true
  at-base r temp h = base-in (operand_place p r) temp h (of-place r)

  at-index : (r temp : ℕ) → temp < 2 → not (source p r temp == 4) ≡ true
  at-index r temp h = index-in (operand_place p r) temp h (of-place r)

  ready-straight : (r temp : ℕ) → r < 32 → temp < 2 → Straight (ready p r temp)
  ready-straight r temp low h = brought-straight r (source p r temp) low (at-low r temp h)

  rhs-straight : (rhs : Rhs) (to : ℕ) → IsRhs rhs → to < 16 → IsStraight (fetch_rhs p rhs to)
  rhs-straight (Reg r) to h low = fetch-straight r to h low
  rhs-straight (Lit n) to h low = straight (MovZero to n) (low, omega (arith, h)) refl refl

  -- ---- operators

  module _ (work : ℕ) (low : work < 16) where
    alu-straight : (op : AluOp) (q : ℕ) → q < 16 → Straight (Alu op work q ∷ [])
    alu-straight op q h = one-straight _ (straight (Alu op work q) (low, h) refl refl)

    alu-code-straight : (op : AluOp) (left : ℕ) (right : Rhs) → left < 32 → IsRhs right → Straight (alu_code p op work left right)
    alu-code-straight op left (Lit n) h k =
        both-straight _ _ (brought-straight left work h low)
        (one-straight _ (straight (AluImm op work (pos n)) (low, record { sfits = omega (arith, k) }) refl refl))
    alu-code-straight op left (Reg r) h k =
        either-straight (is_in (operand_place p r) work) _ _
        (both-straight _ _ (ready-straight left 1 h (omega arith)) (alu-straight op (source p left RCX) (at-low left 1 (omega arith))))
        (both-straight _ _ (ready-straight r 1 k (omega arith))
        (both-straight _ _ (brought-straight left work h low) (alu-straight op (source p r RCX) (at-low r 1 (omega arith)))))

    move-straight : (op : AluOp) (left : ℕ) (right : Rhs) → left < 32 → IsRhs right → Straight (move_code p op work left right)
    move-straight op left right h k =
        either-straight (left == 31) _ _ (one-straight _ (rhs-straight right work k low)) (alu-code-straight op left right h k)

    cmp-straight : (left : ℕ) (right : Rhs) → IsRhs right → Straight (cmp_code p left right)
    cmp-straight left (Lit n) k =
        one-straight _ (straight (AluImm alu.Cmp (source p left RAX) (pos n)) (at-low left 0 (omega arith), record { sfits = omega (arith, k) }) refl refl)
    cmp-straight left (Reg r) k =
        both-straight _ _ (ready-straight r 1 k (omega arith))
        (one-straight _ (straight (Alu alu.Cmp (source p left RAX) (source p r RCX)) (at-low left 0 (omega arith), at-low r 1 (omega arith)) refl refl))

    compare-straight : (c : X86Cond) (left : ℕ) (right : Rhs) → left < 32 → IsRhs right → Straight (compare_code p c work left right)
    compare-straight c left right h k =
        both-straight _ _ (ready-straight left 0 h (omega arith)) (both-straight _ _ (cmp-straight left right k)
        (then-straight _ _ (straight (Set c RAX) rax-low refl refl) (one-straight _ (straight (MovByte work RAX) (low, rax-low) refl refl))))

    shift-imm : (op : ShiftOp) (n : ℕ) → n < 64 → IsStraight (ShiftImm op work n)
    shift-imm op n h = straight (ShiftImm op work n) low (lt-ltb n 64 h) refl

    shift-straight : (op : ShiftOp) (left : ℕ) (right : Rhs) → left < 32 → IsRhs right → Straight (shift_code p op work left right)
    shift-straight op left (Lit n) h k =
        both-straight _ _ (brought-straight left work h low) (one-straight _ (shift-imm op (n % 64) (mod_below n 64 (omega arith))))
    shift-straight op left (Reg r) h k =
        then-straight _ _ (fetch-straight r RCX k rcx-low)
        (both-straight _ _ (brought-straight left work h low) (one-straight _ (straight (ShiftCl op work) low refl refl)))

    bic-straight : (left : ℕ) (right : Rhs) → left < 32 → IsRhs right → Straight (bic_code p work left right)
    bic-straight left right h k =
        then-straight _ _ (rhs-straight right RCX k rcx-low)
        (then-straight _ _ (straight (AluImm alu.Xor RCX (negsuc 0)) (rcx-low, record { sfits = omega arith }) refl refl)
        (both-straight _ _ (brought-straight left work h low) (alu-straight alu.And RCX rcx-low)))

    scaled-straight : (s : Scale) (left : ℕ) (right : Rhs) → left < 32 → IsRhs right → Straight (scaled_code p s work left right)
    scaled-straight s left (Lit n) h k =
        both-straight _ _ (ready-straight left 0 h (omega arith)) (then-straight _ _ (straight (MovZero RCX n) (rcx-low, omega (arith, k)) refl refl)
        (one-straight _ (straight (LeaScaled work RCX (source p left RAX) s) (low, rcx-low, at-low left 0 (omega arith)) (at-index left 0 (omega arith)) refl)))
    scaled-straight s left (Reg r) h k =
        both-straight _ _ (ready-straight left 0 h (omega arith)) (both-straight _ _ (ready-straight r 1 k (omega arith))
        (one-straight _ (straight (LeaScaled work (source p r RCX) (source p left RAX) s) (low, at-low r 1 (omega arith), at-low left 0 (omega arith))
        (at-index left 0 (omega arith)) refl)))

    extract-straight : (last : X86Insn) (left : ℕ) (right : Rhs) → IsStraight last → left < 32 → IsRhs right → Straight (extract_code p last work left right)
    extract-straight last left (Lit n) is h k =
        both-straight _ _ (brought-straight left work h low)
        (then-straight _ _ (shift-imm Shr (8 * (n % 8)) (let m = mod_below n 8 (omega arith) in omega (arith, m))) (one-straight _ is))
    extract-straight last left (Reg r) is h k =
        then-straight _ _ (fetch-straight r RCX k rcx-low)
        (then-straight _ _ (straight (ShiftImm Shl RCX 3) rcx-low refl refl)
        (both-straight _ _ (brought-straight left work h low) (then-straight _ _ (straight (ShiftCl Shr work) low refl refl) (one-straight _ is))))

    op-straight : (op : Op) (left : ℕ) (right : Rhs) → left < 32 → IsRhs right → Straight (op_code p op work left right)
    op-straight ops.Add left right h k = move-straight alu.Add left right h k
    op-straight ops.Sub left right h k = alu-code-straight alu.Sub left right h k
    op-straight ops.Band left right h k = alu-code-straight alu.And left right h k
    op-straight ops.Bis left right h k = move-straight alu.Or left right h k
    op-straight ops.Xor left right h k = alu-code-straight alu.Xor left right h k
    op-straight ops.Sll left right h k = shift-straight Shl left right h k
    op-straight ops.Srl left right h k = shift-straight Shr left right h k
    op-straight ops.Sra left right h k = shift-straight Sar left right h k
    op-straight ops.Cmpeq left right h k = compare-straight Equal left right h k
    op-straight ops.Cmplt left right h k = compare-straight Less left right h k
    op-straight ops.Cmple left right h k = compare-straight LessOrEqual left right h k
    op-straight ops.Cmpult left right h k = compare-straight Below left right h k
    op-straight ops.Cmpule left right h k = compare-straight BelowOrEqual left right h k
    op-straight ops.Bic left right h k = bic-straight left right h k
    op-straight ops.S4add left right h k = scaled-straight Four left right h k
    op-straight ops.S8add left right h k = scaled-straight Eight left right h k
    op-straight ops.Extb left right h k = extract-straight (MovByte work work) left right (straight (MovByte work work) (low, low) refl refl) h k
    op-straight ops.Extw left right h k = extract-straight (MovTwo work work) left right (straight (MovTwo work work) (low, low) refl refl) h k
    op-straight ops.Extl left right h k = extract-straight (MovFour work work) left right (straight (MovFour work work) (low, low) refl refl) h k

    sum-straight : (base : ℕ) (disp : ℤ) → base < 32 → HasBits 31 disp → Straight (sum_code p work base disp)
    sum-straight base disp h d =
        either-straight (base == 31) _ _ (one-straight _ (straight (MovImm work disp) (low, fits disp d) refl refl))
        (both-straight _ _ (ready-straight base 0 h (omega arith))
        (one-straight _ (straight (Lea work (source p base RAX) disp) (low, at-low base 0 (omega arith), fits disp d) (at-base base 0 refl) refl)))

  -- ---- actions

  target-low : (to : ℕ) → target p to < 16
  target-low to = at-low to 0 (omega arith)

  work-low : (op : Op) (to : ℕ) (right : Rhs) → work_reg p op to right < 16
  work-low op to right = low-by (is_difference op && has_second p right (target p to)) (target-low to)

  part-straight : (t : Tested) (q : ℕ) → q < 16 → IsStraight (part_test t q)
  part-straight LowBit q h = straight (TestImm q (pos 1)) (h, record { sfits = omega arith }) refl refl
  part-straight Word q h = straight (x86.Test q q) (h, h) refl refl

  load-straight : (work base : ℕ) (disp : ℤ) → work < 16 → base < 16 → may_be_base base ≡ true → FitsSigned w32 disp → IsStraight (Load work base disp)
  load-straight work base disp h k may d = straight (Load work base disp) (h, k, d) may refl

  action-straight : (e : Action) → HasOperands e → WritesRegister e → Straight (action_code p e)
  action-straight (actions.Compute to (Sum base disp)) h w =
      both-straight _ _ (sum-straight (target p to) (target-low to) base disp h.0 h.1) (settle-straight to (target p to) w)
  action-straight (actions.Compute to (Applied op left right)) h w =
      both-straight _ _ (op-straight (work_reg p op to right) (work-low op to right) op left right h.0 h.1) (settle-straight to (work_reg p op to right) w)
  action-straight (actions.Load to base disp) h w =
      both-straight _ _ (both-straight _ _ (ready-straight base 1 h.0 (omega arith))
      (one-straight _
      (load-straight (target p to) (source p base RCX) disp (target-low to) (at-low base 1 (omega arith)) (at-base base 1 refl) (fits disp h.1))))
      (settle-straight to (target p to) w)
  action-straight (actions.LoadAround to base disp) h w =
      both-straight _ _ (both-straight _ _ (ready-straight base 1 h.0 (omega arith))
      (then-straight _ _ (straight (Lea RCX (source p base RCX) disp) (rcx-low, at-low base 1 (omega arith), fits disp h.1) (at-base base 1 refl) refl)
      (then-straight _ _ (straight (AluImm alu.And RCX (negsuc 7)) (rcx-low, record { sfits = omega arith }) refl refl)
      (one-straight _ (load-straight (target p to) RCX (pos 0) (target-low to) rcx-low refl (record { sfits = omega arith }))))))
      (settle-straight to (target p to) w)
  action-straight (actions.Store from base disp) h w =
      both-straight _ _ (ready-straight base 1 h.0 (omega arith)) (both-straight _ _ (ready-straight from 0 h.2 (omega arith))
      (one-straight _ (straight (Store (source p base RCX) disp (source p from RAX)) (at-low base 1 (omega arith), fits disp h.1, at-low from 0 (omega arith))
      (at-base base 1 refl) refl)))
  action-straight (actions.Branching Always) h w = no-insn
  action-straight (actions.Branching (When c r)) h w =
      both-straight _ _ (ready-straight r 0 h (omega arith)) (one-straight _ (part-straight (cond_tested c) (source p r RAX) (at-low r 0 (omega arith))))
  action-straight actions.Return h w = no-insn

pub sequence-straight : (p : Places) (insn : Insn) → ArePlaces p → IsInsn insn → Straight (insn_code p insn)
sequence-straight p insn places encoded =
    action-straight p places (action_of insn) (action_of-operands insn encoded) (format-writes (format_of insn) encoded.0 encoded.1)

pub insns-straight : StraightInsns
insns-straight = λ p insn places encoded. (sequence-straight p insn places encoded).all
