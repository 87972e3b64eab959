-- The code of a program is code, whose branches lead forward.
use Rattle.std.proofs.Common.{◌≡◌, ℕ, zero, suc, ◌+◌, ◌-◌, ◌*◌, ◌/◌, ◌%◌, ◌^◌, ◌<◌, ◌≤◌, Bool, true, false, cond, eqb, inl, inr, List, [], ◌∷◌, ◌++◌, length, slice_get, Some, None, Ok, refl, sym, ap, ◌∙◌, subst, arith}
use Rattle.std.specs.Prelude.{pos}
use Rattle.std.proofs.lemmas.Option.{none-some, same_Some}
use Rattle.word_ops.specs.declared.Op.{Op}
use Rattle.word_ops.specs.declared.Op.TheVariants.{Add, Band, Bis, Sll, Srl, Cmpeq, Cmpult, Cmpule}
use Rattle.alpha_words.specs.declared.insn.Rhs.{Rhs}
use Rattle.alpha_words.specs.declared.insn.Rhs.TheVariants.{Reg, Lit}
use Rattle.alpha_words.specs.declared.conditions.Cond.TheVariants.{NotZero}
use Rattle.alpha_words.specs.declared.insn.Insn.{Insn}
use Rattle.alpha_words.specs.declared.insn.Insn.TheVariants.{Ldq, Oper, Branch, Br, Ret}
use Rattle.alpha_words.specs.Conditions.{cond_opcode_of}
use Rattle.alpha_words.specs.Encoding.{IsWritableRegister, IsRhs, HasBits, memory_word, branch_word, operate_word, Encodes}
use Rattle.alpha_words.specs.Lawful.{target_of}
use Rattle.alpha_cfg.specs.Flow.{landing, next_of, jump_of, InsideOf, IsFinal, AreOfProfile, IsCode}
use Rattle.alpha_cfg.specs.CodeBytes.{EncodesCode}
use Rattle.alpha_cfg.specs.CodeDecoding.{decoded_code}
use Rattle.alpha_cfg.proofs.Readings.{decoded_code-ok}
use Rattle.alpha_cfg.specs.Cuts.{StepsTo, FreeWalk, IsCut}
use Rattle.bpf_words.specs.declared.insn.Bpf.{Bpf}
use Rattle.bpf_words.specs.declared.insn.BpfOp.{BpfOp}
use Rattle.bpf_words.specs.declared.insn.BpfOp.TheVariants as ops
use Rattle.bpf_words.specs.declared.insn.BpfTest.{BpfTest}
use Rattle.bpf_words.specs.declared.insn.BpfTest.TheVariants as tests
use Rattle.bpf_words.specs.Programs.{bpf_op, IsInBounds, IsRet, IsSoundAt, IsProgram}
use Rattle.bpf_code.specs.Blocks.{shift_in, constant_code, byte_code, quad_reg, bytes_code, load_code, nonzero_flag, test_code, straight_code, taken_index, passed_index, block_distance, branch_pair, end_code, end_place, filled, block_code, block_of, blocks_from, bpf_code}
use Rattle.bpf_code.specs.Inside.Bounds.{KeepsTo}
use Rattle.bpf_code.proofs.Straight.{onward, onward-is}
use Rattle.bpf_code.proofs.Places.{length-block_of}
use Rattle.bpf_code.proofs.Simulation.{IsGoing, LeadsInside, leads, fits-good, straight_code-short, end_code-going}
use Rattle.bpf_code.proofs.Starting.{length-bpf_code}
use Rattle.word_ops.specs.declared.Profile.TheVariants.{One}
use Rattle.word_ops.specs.Operators.{has_op}

-- ---- words that don't branch

-- some word encodes the instruction, which the first profile has
abbrev IsOne : Insn → Type 0
IsOne x = (word : ℕ) × Encodes One word x

-- it is so, and doesn't branch
record IsPlain (x : Insn) : Type 0 where
  insn : IsOne x
  stays : (i : ℕ) → target_of i x ≡ None

-- each of them is so
abbrev ArePlain : List Insn → Type 0
ArePlain [] = Unit {0}
ArePlain (x ∷ l) = IsPlain x × ArePlain l

plain-append : (l k : List Insn) → ArePlain l → ArePlain k → ArePlain (l ++ k)
plain-append [] k h g = g
plain-append (x ∷ l) k h g = (h.0, plain-append l k h.1 g)

plain-oper : (op : Op) → has_op One op ≡ true → (ra : ℕ) (rhs : Rhs) (rc : ℕ) → ra < 32 → IsRhs rhs → IsWritableRegister rc → IsPlain (Oper op ra rhs rc)
plain-oper op has ra rhs rc from operand to = record { insn = (operate_word op ra rhs rc, (has, (from, operand, to, refl))); stays = λ i. refl }

by_literal : (op : Op) → has_op One op ≡ true → (ra n rc : ℕ) → ra < 32 → n < 256 → IsWritableRegister rc → IsPlain (Oper op ra (Lit n) rc)
by_literal op has ra n rc from small to = plain-oper op has ra (Lit n) rc from small to

by_register : (op : Op) → has_op One op ≡ true → (ra rb rc : ℕ) → ra < 32 → rb < 32 → IsWritableRegister rc → IsPlain (Oper op ra (Reg rb) rc)
by_register op has ra rb rc from other to = plain-oper op has ra (Reg rb) rc from other to

load_quad : (ra quad : ℕ) → ra < 31 → IsWritableRegister ra → quad < 8 → IsPlain (Ldq ra 16 (pos (8 * quad)))
load_quad ra quad low to inside = record {
  insn = (memory_word 0x29 ra 16 (pos (8 * quad)), (refl, ((to, low), omega arith, omega (arith, inside), refl)));
  stays = λ i. refl;
}

-- registers 0 to 6 may be written
writable-0 : IsWritableRegister 0
writable-0 = (omega arith, refl)

writable-1 : IsWritableRegister 1
writable-1 = (omega arith, refl)

writable-4 : IsWritableRegister 4
writable-4 = (omega arith, refl)

writable-5 : IsWritableRegister 5
writable-5 = (omega arith, refl)

writable-6 : IsWritableRegister 6
writable-6 = (omega arith, refl)

plain-constant : (r k : ℕ) → IsWritableRegister r → k < 2 ^ 32 → ArePlain (constant_code r k)
plain-constant r k w small =
    let shift : IsPlain (Oper Sll r (Lit 8) r) = by_literal Sll refl r 8 r w.0 (omega arith) w in (
      by_literal Add refl 31 (k / 16777216) r (omega arith) (omega (arith, small)) w,
      (
        shift,
        (
          by_literal Add refl r (k / 65536 % 256) r w.0 (omega arith) w,
          (
            shift,
            (
              by_literal Add refl r (k / 256 % 256) r w.0 (omega arith) w,
              (shift, (by_literal Add refl r (k % 256) r w.0 (omega arith) w, tt)),
            ),
          ),
        ),
      ),
    )

plain-shift_in : (n : ℕ) → IsPlain (shift_in n 1)
plain-shift_in zero = by_literal Add refl 31 0 1 (omega arith) (omega arith) writable-1
plain-shift_in (suc n) = by_literal Sll refl 1 8 1 (omega arith) (omega arith) writable-1

plain-byte : (n q at : ℕ) → q < 32 → at < 8 → ArePlain (byte_code n q at)
plain-byte n q at low inside = (
  plain-shift_in n,
  (
    by_literal Srl refl q (8 * at) 4 low (omega (arith, inside)) writable-4,
    (
      by_literal Band refl 4 255 4 (omega arith) (omega arith) writable-4,
      (by_register Add refl 1 4 1 (omega arith) (omega arith) writable-1, tt),
    ),
  ),
)

quad_reg-low : (k n : ℕ) → quad_reg k n < 32
quad_reg-low k n = elim (eqb ((k + n) / 8) (k / 8)) as (λ b. cond b 2 3 < 32) [ true ↦ omega arith | false ↦ omega arith ]

plain-bytes : (k n : ℕ) → ArePlain (bytes_code k n)
plain-bytes k zero = tt
plain-bytes k (suc n) = plain-append (bytes_code k n) (byte_code n (quad_reg k n) ((k + n) % 8)) (plain-bytes k n)
    (plain-byte n (quad_reg k n) ((k + n) % 8) (quad_reg-low k n) (omega arith))

plain-load : (k n : ℕ) → k + suc n ≤ 64 → ArePlain (load_code k n)
plain-load k n inside = (
  load_quad 2 (k / 8) (omega arith) (omega arith, refl) (omega (arith, inside)),
  (load_quad 3 ((k + n) / 8) (omega arith) (omega arith, refl) (omega (arith, inside)), plain-bytes k (suc n)),
)

plain-test : (t : BpfTest) → IsPlain (test_code t)
plain-test tests.Jeq = by_register Cmpeq refl 1 5 6 (omega arith) (omega arith) writable-6
plain-test tests.Jgt = by_register Cmpult refl 5 1 6 (omega arith) (omega arith) writable-6
plain-test tests.Jge = by_register Cmpule refl 5 1 6 (omega arith) (omega arith) writable-6
plain-test tests.Jset = by_register Band refl 1 5 6 (omega arith) (omega arith) writable-6

nonzero_flag-small : (k : ℕ) → nonzero_flag k < 256
nonzero_flag-small k = elim (eqb k 0) as (λ b. cond b 0 1 < 256) [ true ↦ omega arith | false ↦ omega arith ]

-- the constant, and words behind it
plain-behind : (k : ℕ) (l : List Insn) → k < 2 ^ 32 → ArePlain l → ArePlain (constant_code 5 k ++ l)
plain-behind k l small h = plain-append (constant_code 5 k) l (plain-constant 5 k writable-5 small) h

plain-straight : (op : BpfOp) (k : ℕ) → KeepsTo op k → k < 2 ^ 32 → ArePlain (straight_code op k)
plain-straight ops.Ld k keeps small = plain-load k 3 keeps
plain-straight ops.Ldh k keeps small = plain-load k 1 keeps
plain-straight ops.Ldb k keeps small = plain-load k 0 keeps
plain-straight ops.LdImm k keeps small = plain-constant 1 k writable-1 small
plain-straight ops.Add k keeps small = plain-behind k (Oper Add 1 (Reg 5) 1 ∷ Oper Sll 1 (Lit 32) 1 ∷ Oper Srl 1 (Lit 32) 1 ∷ []) small (
  by_register Add refl 1 5 1 (omega arith) (omega arith) writable-1,
  (by_literal Sll refl 1 32 1 (omega arith) (omega arith) writable-1, (by_literal Srl refl 1 32 1 (omega arith) (omega arith) writable-1, tt)),
)
plain-straight ops.Or k keeps small = plain-behind k (Oper Bis 1 (Reg 5) 1 ∷ []) small (by_register Bis refl 1 5 1 (omega arith) (omega arith) writable-1, tt)
plain-straight ops.And k keeps small = plain-behind k (Oper Band 1 (Reg 5) 1 ∷ []) small (by_register Band refl 1 5 1 (omega arith) (omega arith) writable-1, tt)
plain-straight ops.Rsh k keeps small = let most : k ≤ 31 = keeps in (by_literal Srl refl 1 k 1 (omega arith) (omega (arith, most)) writable-1, tt)
plain-straight ops.Ja k keeps small = (by_literal Add refl 31 0 6 (omega arith) (omega arith) writable-6, tt)
plain-straight (ops.Jump t) k keeps small = plain-behind k (test_code t ∷ []) small (plain-test t, tt)
plain-straight ops.Ret k keeps small = (by_literal Add refl 31 (nonzero_flag k) 0 (omega arith) (nonzero_flag-small k) writable-0, tt)
plain-straight ops.RetA k keeps small = (by_register Cmpult refl 31 1 0 (omega arith) (omega arith) writable-0, tt)

-- ---- words at their places

-- the first word of a block, one of n words
abbrev pub IsBlockStart : ℕ → ℕ → Type 0
IsBlockStart n j = (block : ℕ) × (20 * block < n) × (j ≡ 20 * block)

-- The instruction at index i of n: some word encodes it, the first profile has it, its branch leads forward, to a block that is inside, and if it is the last, it doesn't go on.
pub record IsFit (n i : ℕ) (x : Insn) : Type 0 where
  pub insn : IsOne x
  pub inside : InsideOf n (target_of i x)
  pub forward : (j : ℕ) → jump_of i x ≡ Some j → i < j
  pub lands : (j : ℕ) → jump_of i x ≡ Some j → IsBlockStart n j
  pub final : i + 1 ≡ n → IsFinal x

-- the instructions from index i on
abbrev pub AreFit : ℕ → ℕ → List Insn → Type 0
AreFit n i [] = Unit {0}
AreFit n i (x ∷ l) = IsFit n i x × AreFit n (i + 1) l

fit-plain : (n i : ℕ) (x : Insn) → IsPlain x → i + 1 < n → IsFit n i x
fit-plain n i x plain within = record {
  insn = plain.insn;
  inside = subst (InsideOf n) (sym (plain.stays i)) tt;
  forward = λ j e. absurd (none-some j (ap landing (sym (plain.stays i)) ∙ e));
  lands = λ j e. absurd (none-some j (ap landing (sym (plain.stays i)) ∙ e));
  final = λ e. absurd (omega (arith, within, e));
}

fit-plains : (n i : ℕ) (l : List Insn) → ArePlain l → i + length l < n → AreFit n i l
fit-plains n i [] h within = tt
fit-plains n i (x ∷ l) h within = (fit-plain n i x h.0 (omega (arith, within)), fit-plains n (i + 1) l h.1 (omega (arith, within)))

fit-ret : (n i : ℕ) → IsFit n i Ret
fit-ret n i = record {
  insn = (0x6BFA8001, (refl, (1, omega arith, refl)));
  inside = tt;
  forward = λ j e. absurd (none-some j e);
  lands = λ j e. absurd (none-some j e);
  final = λ e. refl;
}

-- a branch to a block further on
fit-branch : (n at i : ℕ) (x : Insn) → IsOne x → target_of at x ≡ Some (pos (20 * i)) → at < 20 * i → 20 * i < n → (at + 1 ≡ n → IsFinal x) → IsFit n at x
fit-branch n at i x insn target ahead below final =
    let there : (j : ℕ) → jump_of at x ≡ Some j → 20 * i ≡ j = λ j e. same_Some (20 * i) j (sym (ap landing target) ∙ e) in
    record {
      insn = insn;
      inside = subst (InsideOf n) (sym target) below;
      forward = λ j e. subst (λ k. at < k) (there j e) ahead;
      lands = λ j e. (i, below, sym (there j e));
      final = final;
    }

fit-pair : (n at i j : ℕ) → at + 2 ≤ 20 * i → at + 2 ≤ 20 * j → 20 * i < n → 20 * j < n → n ≤ 800 → AreFit n at (branch_pair at i j)
fit-pair n at i j taken passed far near small =
    let first : HasBits 20 (block_distance at i) = omega (arith, far, small) in
    let second : HasBits 20 (block_distance (at + 1) j) = omega (arith, near, small) in
    let one : at + 1 + (20 * i - (at + 1)) ≡ 20 * i = omega (arith, taken) in
    let two : at + 1 + 1 + (20 * j - (at + 1 + 1)) ≡ 20 * j = omega (arith, passed) in (
      fit-branch n at i (Branch NotZero 6 (block_distance at i))
          (branch_word (cond_opcode_of NotZero) 6 (block_distance at i), (refl, (omega arith, first, refl)))
          (ap (λ k. Some (pos k)) one) (omega (arith, taken)) far (λ e. absurd (omega (arith, taken, far, e))),
      (
        fit-branch n (at + 1) j (Br (block_distance (at + 1) j)) (branch_word 0x30 31 (block_distance (at + 1) j), (refl, (second, refl)))
            (ap (λ k. Some (pos k)) two) (omega (arith, passed)) near (λ e. refl),
        tt,
      ),
    )

fit-append : (n i : ℕ) (l k : List Insn) → AreFit n i l → AreFit n (onward l i) k → AreFit n i (l ++ k)
fit-append n i [] k h g = g
fit-append n i (x ∷ l) k h g = (h.0, fit-append n (i + 1) l k h.1 g)

fit-filled : (n i m : ℕ) (l : List Insn) → AreFit n i l → AreFit n i (filled m l)
fit-filled n i zero l h = tt
fit-filled n i (suc m) [] h = (fit-ret n i, fit-filled n (i + 1) m [] tt)
fit-filled n i (suc m) (x ∷ l) h = (h.0, fit-filled n (i + 1) m l h.1)

-- ---- blocks

-- the instruction at index i of count, which does this
record IsPlaced (count i : ℕ) (b : Bpf) (op : BpfOp) : Type 0 where
  few : count ≤ 40
  within : i < count
  bounds : IsInBounds count i b op
  small : b.k < 2 ^ 32
  last : i + 1 ≡ count → IsRet op

fit-going : (count i at : ℕ) (b : Bpf) (op : BpfOp) → IsPlaced count i b op → at ≤ 20 * i + 18 → IsGoing op → AreFit (20 * count) at (end_code at i b op)
fit-going count i at b op placed place going =
    let to : LeadsInside count i b op = leads count i b op placed.within placed.bounds placed.last going in
    let far : taken_index i b op < count = to.far in
    let near : passed_index i b op < count = to.near in
    let on : suc i ≤ taken_index i b op = to.on in
    let over : suc i ≤ passed_index i b op = to.over in
    let few : count ≤ 40 = placed.few in
    subst (AreFit (20 * count) at) (sym (end_code-going at i b op going))
    (fit-pair (20 * count) at (taken_index i b op) (passed_index i b op) (omega (arith, place, on)) (omega (arith, place, over))
    (omega (arith, far)) (omega (arith, near)) (omega (arith, few)))

fit-end : (count i at : ℕ) (b : Bpf) (op : BpfOp) → IsPlaced count i b op → at ≤ 20 * i + 18 → AreFit (20 * count) at (end_code at i b op)
fit-end count i at b ops.Ret placed place = (fit-ret (20 * count) at, (fit-ret (20 * count) (at + 1), tt))
fit-end count i at b ops.RetA placed place = (fit-ret (20 * count) at, (fit-ret (20 * count) (at + 1), tt))
fit-end count i at b op placed place = fit-going count i at b op placed place tt

fit-block : (count i : ℕ) (b : Bpf) (op : BpfOp) → IsPlaced count i b op → AreFit (20 * count) (20 * i) (filled 20 (block_code i b op))
fit-block count i b op placed =
    let short : length (straight_code op b.k) ≤ 18 = straight_code-short op b.k in
    let within : i < count = placed.within in
    let at : onward (straight_code op b.k) (20 * i) ≡ end_place i op b.k = onward-is (straight_code op b.k) (20 * i) in
    fit-filled (20 * count) (20 * i) 20 (block_code i b op)
    (fit-append (20 * count) (20 * i) (straight_code op b.k) (end_code (end_place i op b.k) i b op)
    (fit-plains (20 * count) (20 * i) (straight_code op b.k) (plain-straight op b.k (fits-good count i b op placed.bounds) placed.small)
    (omega (arith, short, within)))
    (subst (λ k. AreFit (20 * count) k (end_code (end_place i op b.k) i b op)) (sym at)
    (fit-end count i (end_place i op b.k) b op placed (omega (arith, short)))))

fit-blocks : (count first : ℕ) (p : List Bpf) → first + length p ≡ count → count ≤ 40
    → ((j : ℕ) (b : Bpf) → slice_get p j ≡ Some b → IsSoundAt count (first + j) b) → AreFit (20 * count) (20 * first) (blocks_from first p)
fit-blocks count first [] whole few sound = tt
fit-blocks count first (b ∷ p) whole few sound =
    let here : first + 0 ≡ first = omega arith in
    let within : first < count = omega (arith, whole) in
    let good : IsSoundAt count first b = subst (λ i. IsSoundAt count i b) here (sound 0 b refl) in
    let block : List Insn = block_of first b (bpf_op b.code) in
    let length_is : length block ≡ 20 = length-block_of first b (bpf_op b.code) in
    let onward_is : onward block (20 * first) ≡ 20 * first + length block = onward-is block (20 * first) in
    let next : onward block (20 * first) ≡ 20 * suc first = omega (arith, length_is, onward_is) in
    let placed : IsPlaced count first b good.op = record { few = few; within = within; bounds = good.bounds; small = good.widths.k; last = good.last } in
    fit-append (20 * count) (20 * first) block (blocks_from (suc first) p)
    (subst (λ o. AreFit (20 * count) (20 * first) (block_of first b o)) (sym good.op_is) (fit-block count first b good.op placed))
    (subst (λ i. AreFit (20 * count) i (blocks_from (suc first) p)) (sym next)
    (fit-blocks count (suc first) p (omega (arith, whole)) few
    (λ j c e. let on : first + suc j ≡ suc first + j = omega arith in subst (λ i. IsSoundAt count i c) on (sound (suc j) c e))))

fit-at : (n i : ℕ) (l : List Insn) (j : ℕ) (x : Insn) → AreFit n i l → slice_get l j ≡ Some x → IsFit n (i + j) x
fit-at n i [] j x h e = absurd cc
fit-at n i (y ∷ l) zero x h e = let here : i ≡ i + 0 = omega arith in subst (λ k. IsFit n k x) here (subst (IsFit n i) (same_Some y x e) h.0)
fit-at n i (y ∷ l) (suc j) x h e = let on : i + 1 + j ≡ i + suc j = omega arith in subst (λ k. IsFit n k x) on (fit-at n (i + 1) l j x h.1 e)

-- ---- the code

module _ (program : List Bpf) (is : IsProgram program) where
  pub fits : AreFit (20 * length program) 0 (bpf_code program)
  unfolding bpf_code
  fits =
      let whole : 0 + length program ≡ length program = omega arith in
      fit-blocks (length program) 0 program whole is.few
      (λ j b at. let there : j ≡ 0 + j = omega arith in subst (λ k. IsSoundAt (length program) k b) there (is.each j b at))

  fit : (i : ℕ) (x : Insn) → slice_get (bpf_code program) i ≡ Some x → IsFit (20 * length program) i x
  fit i x e =
      let here : 0 + i ≡ i = omega arith in
      subst (λ k. IsFit (20 * length program) k x) here (fit-at (20 * length program) 0 (bpf_code program) i x fits e)

  pub code-is : IsCode (bpf_code program)
  code-is =
      let count : length (bpf_code program) ≡ 20 * length program = length-bpf_code program in
      let some : 0 < length program = is.some in
      let few : length program ≤ 40 = is.few in
      record {
        nonempty = omega (arith, count, some);
        short = omega (arith, count, few);
        encoded = λ i x e. let one = (fit i x e).insn in (one.0, one.1.1);
        inside = λ i x e. subst (λ n. InsideOf n (target_of i x)) (sym count) (fit i x e).inside;
        ends = λ x e. (fit (length (bpf_code program) - 1) x e).final (omega (arith, count, some));
      }

  pub code-first : AreOfProfile One (bpf_code program)
  code-first i x e = (fit i x e).insn.1.0

-- bytes that encode it are read as it
pub read : (program : List Bpf) (bytes : List ℕ) → IsProgram program → EncodesCode One bytes (bpf_code program) → decoded_code One bytes ≡ Ok (bpf_code program)
read program bytes is encodes = sym (decoded_code-ok One bytes (bpf_code program) encodes (code-is program is))

pub lands : (program : List Bpf) (i j : ℕ) (x : Insn) → IsProgram program → slice_get (bpf_code program) i ≡ Some x → jump_of i x ≡ Some j
    → (block : ℕ) × (block < length program) × (j ≡ 20 * block)
lands program i j x is at e =
    let start : IsBlockStart (20 * length program) j = (fit program is i x at).lands j e in
    let inside : 20 * start.0 < 20 * length program = start.1 in
    (start.0, omega (arith, inside), start.2)

-- a word that may go on does so at the next index
pub goes_next : (i : ℕ) (x : Insn) (j : ℕ) → next_of i x ≡ Some j → (j ≡ i + 1) × (IsFinal x → ⊥)
goes_next i (Br disp) j e = absurd (none-some j e)
goes_next i Ret j e = absurd (none-some j e)
goes_next i _ j e = (sym (same_Some (i + 1) j e), λ none. cc)

pub ahead : (program : List Bpf) (i j : ℕ) → IsProgram program → StepsTo (bpf_code program) i j → i < j
ahead program i j is step = elim step.2 [
  | inl e ↦ (fit program is i step.0 step.1).forward j e
  | inr e ↦ let next : j ≡ i + 1 = (goes_next i step.0 j e).0 in omega (arith, next)
]

walk-ahead : (program : List Bpf) (marks : List Bool) (i j n : ℕ) → IsProgram program → FreeWalk (bpf_code program) marks i j (suc n) → i < j
walk-ahead program marks i j zero is walk =
    let same : i ≡ walk.0 = walk.1.0 in
    let on : walk.0 < j = ahead program walk.0 j is walk.2 in
    omega (arith, same, on)
walk-ahead program marks i j (suc n) is walk =
    let before : i < walk.0 = walk-ahead program marks i walk.0 n is walk.1 in
    let on : walk.0 < j = ahead program walk.0 j is walk.2 in
    omega (arith, before, on)

pub cut : (program : List Bpf) (marks : List Bool) → IsProgram program → IsCut (bpf_code program) marks
cut program marks is i cycle = let on : i < i = walk-ahead program marks i i cycle.0 is cycle.1 in omega (arith, on)
