-- Native code is short, so each displacement fits.
use Rattle.std.proofs.Common.{◌≡◌, ℕ, zero, suc, ◌+◌, ◌-◌, ◌*◌, ◌%◌, ◌^◌, ◌<◌, ◌≤◌, Bool, true, false, cond, ◌&&◌, ◌==◌, eqb, replicate, List, [], ◌∷◌, ◌++◌}
use Rattle.std.proofs.Common.{length, slice_get, Option, Some, None, refl, ap}
use Rattle.std.proofs.Common.{ℤ, pos, negsuc, ◌-ℤ◌, FitsSigned, arith, length-append}
use Rattle.std.specs.Int.{w32}
use Rattle.std.proofs.lemmas.Bool.{eqb-true}
use Rattle.std.proofs.lemmas.Nat.{mod_below}
use Rattle.std.proofs.lemmas.Int.{ints}
use borrow.Author.Differences.{up, down}
use Rattle.word_ops.specs.declared.Op.{Op}
use Rattle.word_ops.specs.declared.Op.TheVariants as ops
use Rattle.alpha_words.specs.declared.insn.Rhs.{Rhs}
use Rattle.alpha_words.specs.declared.insn.Rhs.TheVariants.{Reg, Lit}
use Rattle.alpha_words.specs.declared.insn.Insn.{Insn}
use Rattle.alpha_cfg.specs.Actions.{Sum, Applied, Test, Always, When, Action, action_of}
use Rattle.alpha_cfg.specs.Actions as actions
use Rattle.alpha_cfg.specs.Flow.{IsCode, jump_of}
use Rattle.x86_words.specs.declared.operators.AluOp.{AluOp}
use Rattle.x86_words.specs.declared.operators.AluOp.TheVariants as alu
use Rattle.x86_words.specs.declared.operators.ShiftOp.{ShiftOp}
use Rattle.x86_words.specs.declared.operators.ShiftOp.TheVariants.{Shl, Shr, Sar}
use Rattle.x86_words.specs.declared.operators.Scale.{Scale}
use Rattle.x86_words.specs.declared.operators.Scale.TheVariants.{Four, Eight}
use Rattle.x86_words.specs.declared.operators.X86Cond.{X86Cond}
use Rattle.x86_words.specs.declared.operators.X86Cond.TheVariants.{Below, Equal, BelowOrEqual, Less, LessOrEqual}
use Rattle.x86_words.specs.declared.insn.X86Insn.{X86Insn}
use Rattle.x86_words.specs.declared.insn.X86Insn.TheVariants.{Mov, MovImm, MovZero, MovAbs, Load, Store, Alu, AluImm, AluLoad, Lea, LeaScaled}
use Rattle.x86_words.specs.declared.insn.X86Insn.TheVariants.{ShiftImm, ShiftCl, Not, TestImm, Set, MovByte, MovTwo, MovFour, JumpIf, Jump, Ret, Nop}
use Rattle.x86_words.specs.declared.insn.X86Insn.TheVariants as x86
use Rattle.x86_words.specs.Encoding.{length_of}
use Rattle.native_steps.specs.declared.places.Place.{Place}
use Rattle.native_steps.specs.declared.places.Place.TheVariants.{Register, Slot, Nowhere}
use Rattle.native_steps.specs.Places.{Places, ArePlaces, is_in, place_at, operand_place, is_callee_saved, RAX, RCX, FUEL}
use Rattle.native_steps.specs.Sequences.{keep_place, fetch, keep, source, brought, ready, target, settle, work_reg, load_code, load_around_code}
use Rattle.native_steps.specs.Sequences.{action_code}
use Rattle.native_steps.specs.Sequences.{alu_code, move_code, cmp_code, compare_code, shift_code, bic_code, scaled_code, extract_code, op_code, sum_code}
use Rattle.native_steps.specs.Straight.{total_length}
use Rattle.native_code.specs.declared.insn.NativeInsn.{NativeInsn}
use Rattle.native_code.specs.declared.insn.NativeInsn.TheVariants.{Plain, Go, GoIf}
use Rattle.native_code.specs.declared.insn.Form.{Form}
use Rattle.native_code.specs.declared.insn.Form.TheVariants.{Whole, Dead, Compare, Joined, Gone}
use Rattle.native_code.specs.Heads.{is_loop_head}
use Rattle.native_code.specs.Lives.{Lean, form_at}
use Rattle.native_code.specs.Blocks.{for_registers, save_place, restore_place, enter, clear, entry_code, exit_code, is_argument, plain, branch_code, end_code}
use Rattle.native_code.specs.Blocks.{return_code, spent_code, compare_flags, form_code, joined_code, form_end, fuel_code, block_at, RDX}
use Rattle.native_code.specs.Layout.{code_length, padding, distance, front_code, offset_of, AlignedHeads}
use Rattle.native_code.proofs.Texts.{length-append-code, plain-length, offset-next, block, pad, end_of}

-- ---- padding

nops-length : (n : ℕ) → code_length (replicate n (Plain Nop)) ≡ n
nops-length zero = refl
nops-length (suc n) = let h = nops-length n in omega (arith, h)

padding-short : (k at : ℕ) (b : Bool) → code_length (cond b [] (Go k ∷ replicate ((32 - (at + 5) % 32) % 32) (Plain Nop))) ≤ 36
padding-short k at true = omega arith
padding-short k at false =
    let n = nops-length ((32 - (at + 5) % 32) % 32) in
    let m : (32 - (at + 5) % 32) % 32 < 32 = mod_below (32 - (at + 5) % 32) 32 (omega arith) in
    omega (arith, n, m)

pad-short-by : (k at : ℕ) (h : Bool) → code_length (cond h (padding k at) []) ≤ 36
pad-short-by k at true = padding-short k at (at % 32 == 0)
pad-short-by k at false = omega arith

-- ---- a displacement

fits-both : (z : ℤ) → up z < 2 ^ 31 + down z → down z ≤ 2 ^ 31 + up z → FitsSigned w32 z
fits-both (pos n) h k = record { sfits = omega (arith, h) }
fits-both (negsuc n) h k = record { sfits = omega (arith, k) }

pub distance-fits : (a b : ℕ) → a < 2 ^ 31 → b < 2 ^ 31 → FitsSigned w32 (distance a b)
distance-fits a b h k = fits-both (pos b -ℤ pos a) (omega (arith, ints, h, k)) (omega (arith, ints, h, k))

-- ---- lengths

one-short : (i : X86Insn) → length_of i ≤ 10
one-short (Mov to from) = omega arith
one-short (MovImm to imm) = omega arith
one-short (MovZero to imm) = omega arith
one-short (MovAbs to imm) = omega arith
one-short (Load to base disp) = omega arith
one-short (Store base disp from) = omega arith
one-short (Alu op to from) = omega arith
one-short (AluImm op to imm) = omega arith
one-short (AluLoad op to base disp) = omega arith
one-short (Lea to base disp) = omega arith
one-short (LeaScaled to base index s) = omega arith
one-short (ShiftImm op to count) = omega arith
one-short (ShiftCl op to) = omega arith
one-short (Not to) = omega arith
one-short (x86.Test left right) = omega arith
one-short (TestImm left imm) = omega arith
one-short (Set c to) = omega arith
one-short (MovByte to from) = omega arith
one-short (MovTwo to from) = omega arith
one-short (MovFour to from) = omega arith
one-short (JumpIf c disp) = omega arith
one-short (Jump disp) = omega arith
one-short Ret = omega arith
one-short Nop = omega arith

all-short : (l : List X86Insn) → total_length l ≤ 10 * length l
all-short [] = omega arith
all-short (i ∷ rest) = let h = all-short rest in let k = one-short i in omega (arith, h, k)

pub plain-count : (l : List X86Insn) → length (plain l) ≡ length l
plain-count [] = refl
plain-count (i ∷ rest) = ap suc (plain-count rest)

plain-short : (l : List X86Insn) (n : ℕ) → length l ≤ n → code_length (plain l) ≤ 10 * n
plain-short l n h = let k = all-short l in let e = plain-length l in omega (arith, h, k, e)

keep_place-count : (o : Place) (r from : ℕ) → length (keep_place o r from) ≤ 1
keep_place-count (Register q) r from = omega arith
keep_place-count Slot r from = omega arith
keep_place-count Nowhere r from = omega arith

-- a list that may be left out
either-count : (b : Bool) (l m : List X86Insn) (n : ℕ) → length l ≤ n → length m ≤ n → length (cond b l m) ≤ n
either-count true l m n h k = h
either-count false l m n h k = k

both-count : (l m : List X86Insn) (j k : ℕ) → length l ≤ j → length m ≤ k → length (l ++ m) ≤ j + k
both-count l m j k h g = let e = length-append l m in omega (arith, h, g, e)

registers-count : (f : ℕ → List X86Insn) (k n : ℕ) → ((r : ℕ) → length (f r) ≤ k) → length (for_registers f n) ≤ k * n
registers-count f k zero h = omega arith
registers-count f k (suc n) h =
    let g = registers-count f k n h in
    let e = length-append (for_registers f n) (f n) in
    let one = h n in
    let more : k * suc n ≡ k * n + k = omega arith in
    omega (arith, g, e, one, more)

save_place-count : (o : Place) (r : ℕ) → length (save_place o r) ≤ 1
save_place-count (Register q) r = either-count (is_callee_saved q) _ _ 1 (omega arith) (omega arith)
save_place-count Slot r = omega arith
save_place-count Nowhere r = omega arith

restore_place-count : (o : Place) (r : ℕ) → length (restore_place o r) ≤ 1
restore_place-count (Register q) r = either-count (is_callee_saved q) _ _ 1 (omega arith) (omega arith)
restore_place-count Slot r = omega arith
restore_place-count Nowhere r = omega arith

module _ (p : Places) (places : ArePlaces p) where
  keep-count : (r : ℕ) → length (keep p r) ≤ 1
  keep-count r = either-count (eqb r 31) [] (keep_place (place_at p r) r RAX) 1 (omega arith) (keep_place-count (place_at p r) r RAX)

  module _ (lean : Lean) where
    enter-count : (r from : ℕ) → length (enter p lean r from) ≤ 2
    enter-count r from =
        both-count (save_place (place_at p r) r) _ 1 1 (save_place-count (place_at p r) r)
        (either-count (lean.live 0 r) (keep_place (place_at p r) r from) [] 1 (keep_place-count (place_at p r) r from) (omega arith))

    clear-count : (r : ℕ) → length (clear p lean r) ≤ 2
    clear-count r = either-count (is_argument r) [] (enter p lean r RAX) 2 (omega arith) (enter-count r RAX)

    pub entry-count : length (entry_code p lean) ≤ 72
    entry-count =
        let n = places.count in
        let clears = registers-count (clear p lean) 2 (length p) clear-count in
        let zeros : List X86Insn = MovZero RAX 0 ∷ for_registers (clear p lean) (length p) in
        let last : length zeros ≤ 63 = omega (arith, clears, n) in
        let second : length (enter p lean 17 RCX ++ zeros) ≤ 65 = both-count (enter p lean 17 RCX) zeros 2 63 (enter-count 17 RCX) last in
        let first : length (enter p lean 16 RAX ++ (enter p lean 17 RCX ++ zeros)) ≤ 67 =
        both-count (enter p lean 16 RAX) (enter p lean 17 RCX ++ zeros) 2 65 (enter-count 16 RAX) second in
        let all : length (enter p lean 18 RDX ++ (enter p lean 16 RAX ++ (enter p lean 17 RCX ++ zeros))) ≤ 69 =
        both-count (enter p lean 18 RDX) (enter p lean 16 RAX ++ (enter p lean 17 RCX ++ zeros)) 2 67 (enter-count 18 RDX) first in
        omega (arith, all)

    entry-short : code_length (plain (entry_code p lean)) ≤ 800
    entry-short = let n = entry-count in plain-short (entry_code p lean) 80 (omega (arith, n))

  pub exit-count : (why : ℕ) → length (exit_code p why) ≤ 33
  exit-count why =
      let n = places.count in
      let all = registers-count (λ r. restore_place (place_at p r) r) 1 (length p) (λ r. restore_place-count (place_at p r) r) in
      let some : length (for_registers (λ r. restore_place (place_at p r) r) (length p)) ≤ 31 = omega (arith, n, all) in
      both-count (for_registers (λ r. restore_place (place_at p r) r) (length p)) (MovZero RDX why ∷ Ret ∷ []) 31 2 some (omega arith)

  brought-count : (r to : ℕ) → length (brought p r to) ≤ 1
  brought-count r to = either-count (is_in (operand_place p r) to) [] (fetch p r to ∷ []) 1 (omega arith) (omega arith)

  ready-count : (r temp : ℕ) → length (ready p r temp) ≤ 1
  ready-count r temp = brought-count r (source p r temp)

  settle-count : (r work : ℕ) → length (settle p r work) ≤ 1
  settle-count r work = either-count (is_in (operand_place p r) work) [] (keep p r) 1 (omega arith) (keep-count r)

  module _ (work left : ℕ) where
    alu-count : (op : AluOp) (right : Rhs) → length (alu_code p op work left right) ≤ 3
    alu-count op (Lit n) = both-count (brought p left work) _ 1 2 (brought-count left work) (omega arith)
    alu-count op (Reg r) =
        either-count (is_in (operand_place p r) work) _ _ 3 (both-count (ready p left RCX) _ 1 2 (ready-count left RCX) (omega arith))
        (both-count (ready p r RCX) _ 1 2 (ready-count r RCX) (both-count (brought p left work) _ 1 1 (brought-count left work) (omega arith)))

    move-count : (op : AluOp) (right : Rhs) → length (move_code p op work left right) ≤ 3
    move-count op right = either-count (eqb left 31) _ (alu_code p op work left right) 3 (omega arith) (alu-count op right)

    cmp-count : (right : Rhs) → length (cmp_code p left right) ≤ 2
    cmp-count (Lit n) = omega arith
    cmp-count (Reg r) = both-count (ready p r RCX) _ 1 1 (ready-count r RCX) (omega arith)

    compare-count : (c : X86Cond) (right : Rhs) → length (compare_code p c work left right) ≤ 5
    compare-count c right =
        both-count (ready p left RAX) _ 1 4 (ready-count left RAX) (both-count (cmp_code p left right) _ 2 2 (cmp-count right) (omega arith))

    shift-count : (op : ShiftOp) (right : Rhs) → length (shift_code p op work left right) ≤ 3
    shift-count op (Lit n) = both-count (brought p left work) _ 1 2 (brought-count left work) (omega arith)
    shift-count op (Reg r) =
        let h : length (brought p left work ++ ShiftCl op work ∷ []) ≤ 2 = both-count (brought p left work) _ 1 1 (brought-count left work) (omega arith) in
        omega (arith, h)

    bic-count : (right : Rhs) → length (bic_code p work left right) ≤ 4
    bic-count right =
        let h : length (brought p left work ++ Alu alu.And work RCX ∷ []) ≤ 2 =
        both-count (brought p left work) _ 1 1 (brought-count left work) (omega arith) in
        omega (arith, h)

    scaled-count : (s : Scale) (right : Rhs) → length (scaled_code p s work left right) ≤ 3
    scaled-count s (Lit n) = both-count (ready p left RAX) _ 1 2 (ready-count left RAX) (omega arith)
    scaled-count s (Reg r) =
        both-count (ready p left RAX) _ 1 2 (ready-count left RAX) (both-count (ready p r RCX) _ 1 1 (ready-count r RCX) (omega arith))

    extract-count : (last : X86Insn) (right : Rhs) → length (extract_code p last work left right) ≤ 5
    extract-count last (Lit n) = both-count (brought p left work) _ 1 4 (brought-count left work) (omega arith)
    extract-count last (Reg r) =
        let h : length (brought p left work ++ ShiftCl Shr work ∷ last ∷ []) ≤ 3 =
        both-count (brought p left work) _ 1 2 (brought-count left work) (omega arith) in
        omega (arith, h)

    op-count : (op : Op) (right : Rhs) → length (op_code p op work left right) ≤ 5
    op-count ops.Add right = let h = move-count alu.Add right in omega (arith, h)
    op-count ops.Sub right = let h = alu-count alu.Sub right in omega (arith, h)
    op-count ops.Band right = let h = alu-count alu.And right in omega (arith, h)
    op-count ops.Bis right = let h = move-count alu.Or right in omega (arith, h)
    op-count ops.Xor right = let h = alu-count alu.Xor right in omega (arith, h)
    op-count ops.Sll right = let h = shift-count Shl right in omega (arith, h)
    op-count ops.Srl right = let h = shift-count Shr right in omega (arith, h)
    op-count ops.Sra right = let h = shift-count Sar right in omega (arith, h)
    op-count ops.Cmpeq right = compare-count Equal right
    op-count ops.Cmplt right = compare-count Less right
    op-count ops.Cmple right = compare-count LessOrEqual right
    op-count ops.Cmpult right = compare-count Below right
    op-count ops.Cmpule right = compare-count BelowOrEqual right
    op-count ops.Bic right = let h = bic-count right in omega (arith, h)
    op-count ops.S4add right = let h = scaled-count Four right in omega (arith, h)
    op-count ops.S8add right = let h = scaled-count Eight right in omega (arith, h)
    op-count ops.Extb right = extract-count (MovByte work work) right
    op-count ops.Extw right = extract-count (MovTwo work work) right
    op-count ops.Extl right = extract-count (MovFour work work) right

    sum-count : (disp : ℤ) → length (sum_code p work left disp) ≤ 2
    sum-count disp =
        either-count (eqb left 31) (MovImm work disp ∷ []) (ready p left RAX ++ Lea work (source p left RAX) disp ∷ []) 2 (omega arith)
        (both-count (ready p left RAX) _ 1 1 (ready-count left RAX) (omega arith))

  action-count : (e : Action) → length (action_code p e) ≤ 6
  action-count (actions.Compute to (Sum base disp)) =
      let k =
      both-count (sum_code p (target p to) base disp) (settle p to (target p to)) 2 1 (sum-count (target p to) base disp) (settle-count to (target p to)) in
      omega (arith, k)
  action-count (actions.Compute to (Applied op left right)) =
      let work : ℕ = work_reg p op to right in
      both-count (op_code p op work left right) (settle p to work) 5 1 (op-count work left op right) (settle-count to work)
  action-count (actions.Load to base disp) =
      let work : ℕ = target p to in
      let l : length (load_code p work base disp) ≤ 2 = both-count (ready p base RCX) _ 1 1 (ready-count base RCX) (omega arith) in
      let k = both-count (load_code p work base disp) (settle p to work) 2 1 l (settle-count to work) in
      omega (arith, k)
  action-count (actions.LoadAround to base disp) =
      let work : ℕ = target p to in
      let l : length (load_around_code p work base disp) ≤ 4 = both-count (ready p base RCX) _ 1 3 (ready-count base RCX) (omega arith) in
      let k = both-count (load_around_code p work base disp) (settle p to work) 4 1 l (settle-count to work) in
      omega (arith, k)
  action-count (actions.Store from base disp) =
      both-count (ready p base RCX) _ 1 5 (ready-count base RCX)
      (both-count (ready p from RAX) _ 1 4 (ready-count from RAX) (omega arith))
  action-count (actions.Branching Always) = omega arith
  action-count (actions.Branching (When c r)) = both-count (ready p r RAX) _ 1 5 (ready-count r RAX) (omega arith)
  action-count actions.Return = omega arith

  end-count : (e : Action) (jump : Option ℕ) → length (end_code p e jump) ≤ 34
  end-count (actions.Branching test) None = omega arith
  end-count (actions.Branching Always) (Some k) = omega arith
  end-count (actions.Branching (When c r)) (Some k) = omega arith
  end-count actions.Return jump =
      let h = exit-count 0 in
      let same = plain-count (return_code p) in
      omega (arith, h, same)
  end-count (actions.Compute to word) jump = omega arith
  end-count (actions.Load to base disp) jump = omega arith
  end-count (actions.LoadAround to base disp) jump = omega arith
  end-count (actions.Store from base disp) jump = omega arith

  branch-short : (test : Test) (jump : Option ℕ) → code_length (branch_code p test jump) ≤ 340
  branch-short test None = omega arith
  branch-short Always (Some k) = omega arith
  branch-short (When c r) (Some k) = omega arith

  end-short : (e : Action) (jump : Option ℕ) → code_length (end_code p e jump) ≤ 340
  end-short (actions.Branching test) jump = branch-short test jump
  end-short actions.Return jump = let h = exit-count 0 in plain-short (return_code p) 34 (omega (arith, h))
  end-short (actions.Compute to word) jump = omega arith
  end-short (actions.Load to base disp) jump = omega arith
  end-short (actions.LoadAround to base disp) jump = omega arith
  end-short (actions.Store from base disp) jump = omega arith

  -- ---- by forms

  compare-flags-count : (e : Action) → length (compare_flags p e) ≤ 3
  compare-flags-count (actions.Compute to (Sum base disp)) = omega arith
  compare-flags-count (actions.Compute to (Applied op left right)) =
      both-count (ready p left RAX) (cmp_code p left right) 1 2 (ready-count left RAX) (cmp-count 0 left right)
  compare-flags-count (actions.Load to base disp) = omega arith
  compare-flags-count (actions.LoadAround to base disp) = omega arith
  compare-flags-count (actions.Store from base disp) = omega arith
  compare-flags-count (actions.Branching test) = omega arith
  compare-flags-count actions.Return = omega arith

  pub form-count : (form : Form) (e : Action) → length (form_code p form e) ≤ 6
  form-count Whole e = action-count e
  form-count Compare e = let h = compare-flags-count e in omega (arith, h)
  form-count Dead e = omega arith
  form-count (Joined c) e = omega arith
  form-count Gone e = omega arith

  joined-count : (c : X86Cond) (jump : Option ℕ) → length (joined_code c jump) ≤ 34
  joined-count c None = omega arith
  joined-count c (Some k) = omega arith

  pub form-end-count : (form : Form) (e : Action) (jump : Option ℕ) → length (form_end p form e jump) ≤ 34
  form-end-count Whole e jump = end-count e jump
  form-end-count Compare e jump = omega arith
  form-end-count Dead e jump = omega arith
  form-end-count (Joined c) e jump = joined-count c jump
  form-end-count Gone e jump = omega arith

  joined-short : (c : X86Cond) (jump : Option ℕ) → code_length (joined_code c jump) ≤ 340
  joined-short c None = omega arith
  joined-short c (Some k) = omega arith

  form-end-short : (form : Form) (e : Action) (jump : Option ℕ) → code_length (form_end p form e jump) ≤ 340
  form-end-short Whole e jump = end-short e jump
  form-end-short Compare e jump = omega arith
  form-end-short Dead e jump = omega arith
  form-end-short (Joined c) e jump = joined-short c jump
  form-end-short Gone e jump = omega arith

  module _ (lean : Lean) (metered : Bool) (code : List Insn) where
    fuel-short : (b : Bool) (l : List NativeInsn) → code_length l ≤ 13 → code_length (cond b l []) ≤ 13
    fuel-short true l h = h
    fuel-short false l h = omega arith

    block-short : (k : ℕ) (o : Option Insn) → code_length (block_at p lean metered code k o) ≤ 413
    block-short k None = let h = exit-count 1 in let s = plain-short (spent_code p) 34 (omega (arith, h)) in omega (arith, s)
    block-short k (Some insn) =
        let f : code_length (fuel_code p lean metered code k) ≤ 13 =
        fuel-short (metered && is_loop_head code k) (Plain (AluImm alu.Sub FUEL (pos 1)) ∷ GoIf Below (length code) ∷ []) (omega arith) in
        let insns : List X86Insn = form_code p (form_at lean k) (action_of insn) in
        let ending : List NativeInsn = form_end p (form_at lean k) (action_of insn) (jump_of k insn) in
        let c = plain-short insns 6 (form-count (form_at lean k) (action_of insn)) in
        let e = form-end-short (form_at lean k) (action_of insn) (jump_of k insn) in
        let two = length-append-code (plain insns) ending in
        let one = length-append-code (fuel_code p lean metered code k) (plain insns ++ ending) in
        omega (arith, f, c, e, two, one)

    pad-short : (k at : ℕ) → code_length (pad p lean metered code k at) ≤ 36
    pad-short k at = pad-short-by k at (is_loop_head code k)

    front-short : (k : ℕ) → offset_of p lean metered code k ≤ 836 + 449 * k
    front-short zero =
        let entry : List NativeInsn = plain (entry_code p lean) in
        let h = entry-short lean in
        let g = pad-short 0 (code_length entry) in
        let e = length-append-code entry (pad p lean metered code 0 (code_length entry)) in
        omega (arith, h, g, e)
    front-short (suc k) =
        let h = front-short k in
        let b = block-short k (slice_get code k) in
        let e = offset-next p lean metered code k in
        let g = pad-short (suc k) (end_of p lean metered code k) in
        omega (arith, h, b, e, g)

    pub offset-small : (k : ℕ) → IsCode code → k ≤ suc (length code) → offset_of p lean metered code k < 2 ^ 30
    offset-small k ok h =
        let s = front-short k in
        let n : length code ≤ 1024 = ok.short in
        omega (arith, s, n, h)

-- ---- loop heads are aligned

aligned-by : (k at : ℕ) (b : Bool) → (at % 32 == 0) ≡ b →
    (at + code_length (cond b [] (Go k ∷ replicate ((32 - (at + 5) % 32) % 32) (Plain Nop)))) % 32 ≡ 0
aligned-by k at true e = let h = eqb-true (at % 32) 0 e in omega (arith, h)
aligned-by k at false e = let n = nops-length ((32 - (at + 5) % 32) % 32) in omega (arith, n)

module _ (p : Places) (lean : Lean) (metered : Bool) (code : List Insn) where
  -- so begins what has a front and a loop head's padding
  front-aligned : (k : ℕ) (front : List NativeInsn) → is_loop_head code k ≡ true → code_length (front ++ pad p lean metered code k (code_length front)) % 32 ≡ 0
  front-aligned k front h =
      let at : ℕ = code_length front in
      let whole = length-append-code front (pad p lean metered code k at) in
      let is : code_length (pad p lean metered code k at) ≡ code_length (padding k at) = ap (λ b. code_length (cond b (padding k at) [])) h in
      let a = aligned-by k at (at % 32 == 0) refl in
      omega (arith, whole, is, a)

  aligned : (k : ℕ) → is_loop_head code k ≡ true → offset_of p lean metered code k % 32 ≡ 0
  aligned zero h = front-aligned zero (plain (entry_code p lean)) h
  aligned (suc k) h = front-aligned (suc k) (front_code p lean metered code k ++ block p lean metered code k) h

pub heads-aligned : AlignedHeads
heads-aligned = λ p lean metered code k h. aligned p lean metered code k h
