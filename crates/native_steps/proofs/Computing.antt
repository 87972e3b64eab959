-- The code of each operator gives its word, in the register that it works in.
use Rattle.std.proofs.Common.{◌≡◌, ◌≢◌, ℕ, ◌+◌, ◌-◌, ◌*◌, ◌/◌, ◌%◌, ◌^◌, ◌<◌, ◌≤◌, Bool, true, false, ◌&&◌, eqb, List, [], ◌∷◌, ◌++◌, slice_index, Option}
use Rattle.std.proofs.Common.{Some, None}
use Rattle.std.proofs.Common.{ℤ, pos, negsuc, refl, sym, ap, ◌∙◌, subst, arith, inl, inr, cond}
use Rattle.std.proofs.lemmas.Bool.{cases_Bool, eqb-true}
use Rattle.std.proofs.lemmas.Nat.{mod_below, and_comm, or_comm, xor_comm}
use Rattle.std.specs.Int.Bits.{or_zero_l}
use Rattle.word_ops.specs.declared.Op.{Op}
use Rattle.word_ops.specs.declared.Op.TheVariants as ops
use Rattle.word_ops.specs.declared.Rel.TheVariants.{Eq, Ult, Ule, Slt, Sle}
use Rattle.word_ops.specs.Registers.{read_reg}
use Rattle.word_ops.specs.Words.{word_of, test_of, flag_of, shifted_signed}
use Rattle.word_ops.proofs.EachOp.{word_of-below}
use Rattle.alpha_words.specs.declared.insn.Rhs.{Rhs}
use Rattle.alpha_words.specs.declared.insn.Rhs.TheVariants.{Reg, Lit}
use Rattle.alpha_words.specs.Encoding.{IsRhs, HasBits}
use Rattle.alpha_cfg.specs.Machine.{State, IsState, rhs_word, address_of}
use Rattle.x86_words.specs.declared.operators.AluOp.{AluOp}
use Rattle.x86_words.specs.declared.operators.AluOp.TheVariants as alu
use Rattle.x86_words.specs.declared.operators.ShiftOp.{ShiftOp}
use Rattle.x86_words.specs.declared.operators.ShiftOp.TheVariants.{Shl, Shr, Sar}
use Rattle.x86_words.specs.declared.operators.X86Cond.{X86Cond}
use Rattle.x86_words.specs.declared.operators.X86Cond.TheVariants.{Below, Equal, BelowOrEqual, Less, LessOrEqual}
use Rattle.x86_words.specs.declared.operators.Scale.{Scale}
use Rattle.x86_words.specs.declared.operators.Scale.TheVariants.{Four, Eight}
use Rattle.x86_words.specs.Codes.{scale_factor}
use Rattle.x86_words.specs.declared.insn.X86Insn.{X86Insn}
use Rattle.x86_words.specs.declared.insn.X86Insn.TheVariants.{MovImm, MovZero, Alu, AluImm, Lea, LeaScaled, ShiftImm, ShiftCl, Set, MovByte, MovTwo, MovFour}
use Rattle.x86_words.specs.Encoding.{length_of}
use Rattle.x86_machine.specs.declared.flags.Flags.{Flags}
use Rattle.x86_machine.specs.declared.outcome.X86Step.TheVariants as steps
use Rattle.x86_machine.specs.Flags.{alu_flags, cond_holds, shift_word, AfterCmp}
use Rattle.x86_machine.specs.Machine.{X86, IsX86, extended, x86_outcome}
use Rattle.x86_machine.proofs.Keeping.{shift_word-below}
use Rattle.x86_machine.proofs.Orders.{after_cmp}
use Rattle.native_steps.specs.Places.{Places, ArePlaces, IsSomewhere, is_in, operand_place, is_free, RAX, RCX}
use Rattle.native_steps.specs.Sequences.{RhsIsPlaced, fetch_rhs, source, brought, ready, target, has_second, work_reg, is_difference}
use Rattle.native_steps.specs.Sequences.{alu_code, move_code, cmp_code, compare_code, shift_code, bic_code, scaled_code, extract_code, op_code, sum_code}
use Rattle.native_steps.specs.Agreement.{Call, IsLent, Agrees}
use Rattle.native_steps.proofs.Straights.{Runs, none-run, then-run, both-run}
use Rattle.native_steps.proofs.Frames.{wrote, SameBut, SameTo, same-refl, same-trans, to-same, wrote-same, wrote-is, wrote-reads, wrote-other, flags-same}
use Rattle.native_steps.proofs.Frames.{Only, only-same, only-to, agrees-same}
use Rattle.native_steps.proofs.Operators.{Gives, gives-as, after-code, then-gives, work-gives, last-gives, IsAluFor, alu-gives, alu_imm-gives, cut-below}
use Rattle.native_steps.proofs.Operators.{set-gives}
use Rattle.native_steps.proofs.Operators.{twice-mod, IsShiftFor, shift_imm-gives, shift_cl-gives}
use Rattle.native_steps.proofs.Operands.{source-apart, not-in, IsWork, work-below, work-apart, target-works}
use Rattle.native_steps.proofs.Operands.{fetched-rhs, reg-below, rhs-below, held, bring, readied}

-- eight times a word, modulo 64, is eight times its last three bits
by-eight : (b : ℕ) → b * 2 ^ 3 % 2 ^ 64 % 64 % 64 ≡ 8 * (b % 8)
by-eight b = omega arith

eight-small : (b : ℕ) → 8 * (b % 8) % 64 ≡ 8 * (b % 8)
eight-small b = omega arith

scaled-sum : (k a b : ℕ) → (b + k * a) % 2 ^ 64 ≡ (a * k + b) % 2 ^ 64
scaled-sum k a b = let e : b + k * a ≡ a * k + b = omega arith in ap (λ n. n % 2 ^ 64) e

extended-low : (z : ℤ) → HasBits 31 z → extended z < 2 ^ 64
extended-low (pos n) h = omega (arith, h)
extended-low (negsuc n) h = omega arith

-- 0 op b is b
pub record IsMove (op : Op) : Type 0 where
  pub word : (b : ℕ) → b < 2 ^ 64 → word_of op 0 b ≡ b

module _ (p : Places) (call : Call) (places : ArePlaces p) (s : State) (x : X86) (state : IsState s) (lent : IsLent call s.rights)
    (agrees : Agrees p call s x) (to work : ℕ) (works : IsWork p call places to work)
  where
    abbrev val : ℕ → ℕ
    val r = read_reg s.regs r

    below : (r : ℕ) → val r < 2 ^ 64
    below = reg-below p call places s x state lent agrees

    work-low : work < 16
    work-low = work-below p call places to work works

    -- where an operand is read isn't a temporary that is no place
    source-not : (r temp q : ℕ) → temp < 2 → temp ≢ q → is_free q ≡ false → source p r temp ≢ q
    source-not r temp q low n f = source-apart (operand_place p r) temp q (not-in p call places r q f) n

    -- after instructions that change a temporary alone
    then-agrees : (temp : ℕ) (y : X86) → temp < 2 → Only temp x y → Agrees p call s y
    then-agrees temp y low only = agrees-same p call s x y places agrees (only-same temp x y low only)

    only-work : (temp : ℕ) (u y : X86) → temp < 2 → Only temp u y → SameTo work u y
    only-work temp u y low only = to-same work u y (only-same temp u y low only)

    -- ---- operators of the processor

    alu-lit : (o : AluOp) (op : Op) (left n : ℕ) → IsAluFor o op → IsSomewhere p left → n < 2 ^ 8 →
        Gives work (alu_code p o work left (Lit n)) x (word_of op (val left) n)
    alu-lit o op left n is h small =
        let b = bring p call places s x state lent agrees left work h work-low in
        after-code work (brought p left work) (AluImm o work (pos n) ∷ []) x b.end (word_of op (val left) n) b.runs (only-to work x b.end b.only)
        (alu_imm-gives o op b.end work n (val left) is b.only.machine work-low small b.has)

    -- the second operand is in the register
    alu-there : (o : AluOp) (op : Op) (left r : ℕ) → IsAluFor o op → IsSomewhere p left → is_in (operand_place p r) work ≡ true →
        ((a b : ℕ) → word_of op b a ≡ word_of op a b) →
        Gives work (ready p left RCX ++ Alu o work (source p left RCX) ∷ []) x (word_of op (val left) (val r))
    alu-there o op left r is h there swap =
        let b = readied p call places s x state lent agrees left 1 h (omega arith) in
        let first : slice_index b.end.regs work ≡ val r =
        b.only.others work (λ e. work-apart p call places to work works (sym e)) ∙ held p call places s x state lent agrees r work there in
        after-code work (ready p left RCX) (Alu o work (source p left RCX) ∷ []) x b.end (word_of op (val left) (val r)) b.runs
        (only-work 1 x b.end (omega arith) b.only)
        (gives-as work (Alu o work (source p left RCX) ∷ []) b.end (word_of op (val r) (val left)) (word_of op (val left) (val r)) (swap (val left) (val r))
        (alu-gives o op b.end work (source p left RCX) (val r) (val left) is b.only.machine work-low first b.has))

    -- it isn't
    alu-away : (o : AluOp) (op : Op) (left r : ℕ) → IsAluFor o op → IsSomewhere p left → IsSomewhere p r → is_in (operand_place p r) work ≡ false →
        Gives work (ready p r RCX ++ (brought p left work ++ Alu o work (source p r RCX) ∷ [])) x (word_of op (val left) (val r))
    alu-away o op left r is h k away =
        let b = readied p call places s x state lent agrees r 1 k (omega arith) in
        let b-agrees = then-agrees 1 b.end (omega arith) b.only in
        let c = bring p call places s b.end state lent b-agrees left work h work-low in
        let apart : source p r RCX ≢ work = source-apart (operand_place p r) 1 work away (work-apart p call places to work works) in
        let second : slice_index c.end.regs (source p r RCX) ≡ val r = c.only.others (source p r RCX) apart ∙ b.has in
        after-code work (ready p r RCX) (brought p left work ++ Alu o work (source p r RCX) ∷ []) x b.end (word_of op (val left) (val r)) b.runs
        (only-work 1 x b.end (omega arith) b.only)
        (after-code work (brought p left work) (Alu o work (source p r RCX) ∷ []) b.end c.end (word_of op (val left) (val r)) c.runs
        (only-to work b.end c.end c.only)
        (alu-gives o op c.end work (source p r RCX) (val left) (val r) is c.only.machine work-low c.has second))

    alu-reg : (o : AluOp) (op : Op) (left r : ℕ) → IsAluFor o op → IsSomewhere p left → IsSomewhere p r →
        (is_in (operand_place p r) work ≡ true → (a b : ℕ) → word_of op b a ≡ word_of op a b) →
        Gives work (alu_code p o work left (Reg r)) x (word_of op (val left) (val r))
    alu-reg o op left r is h k swap =
        let there : List X86Insn = ready p left RCX ++ Alu o work (source p left RCX) ∷ [] in
        let away : List X86Insn = ready p r RCX ++ (brought p left work ++ Alu o work (source p r RCX) ∷ []) in
        elim (cases_Bool (is_in (operand_place p r) work)) [
          | inl e ↦ subst (λ b. Gives work (cond b there away) x (word_of op (val left) (val r))) (sym e) (alu-there o op left r is h e (swap e))
          | inr e ↦ subst (λ b. Gives work (cond b there away) x (word_of op (val left) (val r))) (sym e) (alu-away o op left r is h k e)
        ]

    alu-gives-word : (o : AluOp) (op : Op) (left : ℕ) (right : Rhs) → IsAluFor o op → IsSomewhere p left → RhsIsPlaced p right → IsRhs right →
        (has_second p right work ≡ true → (a b : ℕ) → word_of op b a ≡ word_of op a b) →
        Gives work (alu_code p o work left right) x (word_of op (val left) (rhs_word s.regs right))
    alu-gives-word o op left (Lit n) is h there small swap = alu-lit o op left n is h (omega (arith, small))
    alu-gives-word o op left (Reg r) is h there small swap = alu-reg o op left r is h there swap

    -- 0 and a second operand
    move-gives : (o : AluOp) (op : Op) (left : ℕ) (right : Rhs) → IsAluFor o op → IsMove op → ((a b : ℕ) → word_of op b a ≡ word_of op a b) →
        IsSomewhere p left → RhsIsPlaced p right → IsRhs right →
        Gives work (move_code p o work left right) x (word_of op (val left) (rhs_word s.regs right))
    move-gives o op left right is moves swap h there small =
        let w : ℕ = rhs_word s.regs right in
        let w-below : w < 2 ^ 64 = rhs-below p call places s x state lent agrees right small in
        let other : List X86Insn = alu_code p o work left right in
        elim (cases_Bool (eqb left 31)) [
          | inl e ↦
              let none : val left ≡ 0 = ap (λ r. read_reg s.regs r) (eqb-true left 31 e) in
              let word : w ≡ word_of op (val left) w = sym (moves.word w w-below) ∙ ap (λ a. word_of op a w) (sym none) in
              subst (λ b. Gives work (cond b (fetch_rhs p right work ∷ []) other) x (word_of op (val left) w)) (sym e)
              (gives-as work (fetch_rhs p right work ∷ []) x w (word_of op (val left) w) word
              (last-gives work (fetch_rhs p right work) x x.flags w agrees.machine work-low w-below
              (fetched-rhs p call places s x lent agrees right work (x.at + length_of (fetch_rhs p right work)) there)))
          | inr e ↦
              subst (λ b. Gives work (cond b (fetch_rhs p right work ∷ []) other) x (word_of op (val left) w)) (sym e)
              (alu-gives-word o op left right is h there small (λ _. swap))
        ]

    -- ---- compares

    -- the flags say how the words compare
    pub record Compared (code : List X86Insn) (a b : ℕ) (u : X86) : Type 0 where
      pub end : X86
      pub runs : Runs code u end
      pub same : SameBut u end
      pub set : end.flags ≡ Some (alu_flags alu.Cmp a b)

    pub compared : (left : ℕ) (right : Rhs) (u : X86) → Agrees p call s u → slice_index u.regs (source p left RAX) ≡ val left → RhsIsPlaced p right →
        IsRhs right →
        Compared (cmp_code p left right) (val left) (rhs_word s.regs right) u
    compared left (Lit n) u u-agrees first there small =
        let q : ℕ = source p left RAX in
        let f : Flags = alu_flags alu.Cmp (slice_index u.regs q) (extended (pos n)) in
        let y : X86 = record u { at = u.at + 7; flags = Some f } in
        let literal : extended (pos n) ≡ n = omega (arith, small) in
        record {
          end = y;
          runs = then-run (AluImm alu.Cmp q (pos n)) [] u y y refl refl (none-run y);
          same = flags-same u (u.at + 7) (Some f) u-agrees.machine;
          set = ap (λ a. Some (alu_flags alu.Cmp a (extended (pos n)))) first ∙ ap (λ b. Some (alu_flags alu.Cmp (val left) b)) literal;
        }
    compared left (Reg r) u u-agrees first there small =
        let q : ℕ = source p left RAX in
        let b = readied p call places s u state lent u-agrees r 1 there (omega arith) in
        let q-apart : q ≢ 1 = source-not left 0 1 (omega arith) (λ e. omega (arith, e)) refl in
        let one : slice_index b.end.regs q ≡ val left = b.only.others q q-apart ∙ first in
        let f : Flags = alu_flags alu.Cmp (slice_index b.end.regs q) (slice_index b.end.regs (source p r RCX)) in
        let y : X86 = record b.end { at = b.end.at + 3; flags = Some f } in
        let last : Runs (Alu alu.Cmp q (source p r RCX) ∷ []) b.end y = then-run (Alu alu.Cmp q (source p r RCX)) [] b.end y y refl refl (none-run y) in
        record {
          end = y;
          runs = both-run (ready p r RCX) (Alu alu.Cmp q (source p r RCX) ∷ []) u b.end y b.runs last;
          same = same-trans u b.end y (only-same 1 u b.end (omega arith) b.only) (flags-same b.end (b.end.at + 3) (Some f) b.only.machine);
          set = ap (λ a. Some (alu_flags alu.Cmp a (slice_index b.end.regs (source p r RCX)))) one ∙ ap (λ c. Some (alu_flags alu.Cmp (val left) c)) b.has;
        }

    compare-gives : (c : X86Cond) (left : ℕ) (right : Rhs) (t : Bool) → IsSomewhere p left → RhsIsPlaced p right → IsRhs right →
        cond_holds c (alu_flags alu.Cmp (val left) (rhs_word s.regs right)) ≡ t →
        Gives work (compare_code p c work left right) x (flag_of t)
    compare-gives c left right t h there small e =
        let b = readied p call places s x state lent agrees left 0 h (omega arith) in
        let k = compared left right b.end (then-agrees 0 b.end (omega arith) b.only) b.has there small in
        let last : List X86Insn = Set c RAX ∷ MovByte work RAX ∷ [] in
        after-code work (ready p left RAX) (cmp_code p left right ++ last) x b.end (flag_of t) b.runs (only-work 0 x b.end (omega arith) b.only)
        (after-code work (cmp_code p left right) last b.end k.end (flag_of t) k.runs (to-same work b.end k.end k.same)
        (set-gives work c k.end (alu_flags alu.Cmp (val left) (rhs_word s.regs right)) t k.same.machine work-low k.set e))

    pub cmp : (left : ℕ) (right : Rhs) → IsRhs right → AfterCmp (val left) (rhs_word s.regs right)
    cmp left right small = after_cmp (val left) (rhs_word s.regs right) (below left) (rhs-below p call places s x state lent agrees right small)

    -- ---- a count in rcx

    -- a second operand in rcx
    abbrev counted : Rhs → X86
    counted right = wrote x (x.at + length_of (fetch_rhs p right RCX)) x.flags 1 (rhs_word s.regs right)

    module _ (right : Rhs) (there : RhsIsPlaced p right) (small : IsRhs right) where
      abbrev w : ℕ
      w = rhs_word s.regs right

      w-below : w < 2 ^ 64
      w-below = rhs-below p call places s x state lent agrees right small

      counted-same : SameBut x (counted right)
      counted-same = wrote-same x (x.at + length_of (fetch_rhs p right RCX)) x.flags 1 w agrees.machine (omega arith) w-below

      counted-reads : slice_index (counted right).regs 1 ≡ w
      counted-reads = wrote-reads x (x.at + length_of (fetch_rhs p right RCX)) x.flags 1 w agrees.machine (omega arith)

      -- it comes there, and the rest goes on
      count-gives : (rest : List X86Insn) (word : ℕ) → Gives work rest (counted right) word → Gives work (fetch_rhs p right RCX ∷ rest) x word
      count-gives rest word g =
          then-gives work (fetch_rhs p right RCX) rest x x.flags 1 w word agrees.machine (omega arith) w-below
          (fetched-rhs p call places s x lent agrees right 1 (x.at + length_of (fetch_rhs p right RCX)) there) g

    -- the first operand comes into the register, from a state in which rcx has a word
    first-gives : (left : ℕ) (u : X86) (c word : ℕ) (rest : List X86Insn) → IsSomewhere p left → SameBut x u → slice_index u.regs 1 ≡ c →
        ((y : X86) → IsX86 y → slice_index y.regs work ≡ val left → slice_index y.regs 1 ≡ c → Gives work rest y word) →
        Gives work (brought p left work ++ rest) u word
    first-gives left u c word rest h same count on =
        let b = bring p call places s u state lent (agrees-same p call s x u places agrees same) left work h work-low in
        let second : slice_index b.end.regs 1 ≡ c = b.only.others 1 (work-apart p call places to work works) ∙ count in
        after-code work (brought p left work) rest u b.end word b.runs (only-to work u b.end b.only) (on b.end b.only.machine b.has second)

    -- ---- shifts

    shift-gives : (o : ShiftOp) (op : Op) (left : ℕ) (right : Rhs) → IsShiftFor o op → IsSomewhere p left → RhsIsPlaced p right → IsRhs right →
        Gives work (shift_code p o work left right) x (word_of op (val left) (rhs_word s.regs right))
    shift-gives o op left (Lit n) is h there small =
        first-gives left x (slice_index x.regs 1) (word_of op (val left) n) (ShiftImm o work (n % 64) ∷ []) h (same-refl x agrees.machine) refl
        (λ y y-is first second. shift_imm-gives o op y work n (val left) is y-is work-low first)
    shift-gives o op left (Reg r) is h there small =
        count-gives (Reg r) there small (brought p left work ++ ShiftCl o work ∷ []) (word_of op (val left) (val r))
        (first-gives left (counted (Reg r)) (val r) (word_of op (val left) (val r)) (ShiftCl o work ∷ []) h (counted-same (Reg r) there small)
        (counted-reads (Reg r) there small)
        (λ y y-is first second. shift_cl-gives o op y work (val left) (val r) is y-is work-low first second))

    -- ---- and not

    bic-gives : (left : ℕ) (right : Rhs) → IsSomewhere p left → RhsIsPlaced p right → IsRhs right →
        Gives work (bic_code p work left right) x (word_of ops.Bic (val left) (rhs_word s.regs right))
    bic-gives left right h there small =
        let b : ℕ = rhs_word s.regs right in
        let ones : ℕ = 2 ^ 64 - 1 in
        let y : X86 = counted right in
        let y-same : SameBut x y = counted-same right there small in
        let not_b : ℕ = word_of ops.Xor b ones in
        let read : ℕ = slice_index y.regs 1 in
        let word_1 : ℕ = word_of ops.Xor read ones in
        let f : Option Flags = Some (alu_flags alu.Xor read ones) in
        let below_1 : word_1 < 2 ^ 64 = word_of-below ops.Xor read ones (y-same.machine.words 1) (omega arith) in
        let z : X86 = wrote y (y.at + 7) f 1 word_1 in
        let z-same : SameBut x z = same-trans x y z y-same (wrote-same y (y.at + 7) f 1 word_1 y-same.machine (omega arith) below_1) in
        let not-is : slice_index z.regs 1 ≡ not_b =
        wrote-reads y (y.at + 7) f 1 word_1 y-same.machine (omega arith) ∙ ap (λ k. word_of ops.Xor k ones) (counted-reads right there small) in
        let word : ℕ = word_of ops.Bic (val left) b in
        let rest : List X86Insn = brought p left work ++ Alu alu.And work RCX ∷ [] in
        count-gives right there small (AluImm alu.Xor RCX (negsuc 0) ∷ rest) word
        (then-gives work (AluImm alu.Xor RCX (negsuc 0)) rest y f 1 word_1 word y-same.machine (omega arith) below_1 refl
        (first-gives left z not_b word (Alu alu.And work RCX ∷ []) h z-same not-is
        (λ u u-is first second. alu-gives alu.And ops.Band u work 1 (val left) not_b
        (record { writes = λ regs to c. refl; word = λ a c. refl }) u-is work-low first second)))

    -- ---- a multiple and a second operand

    -- both operands are read where they are
    sum-from : (k : Scale) (op : Op) (v w base index : ℕ) (u : X86) → ((a b : ℕ) → (b + scale_factor k * a) % 2 ^ 64 ≡ word_of op a b) → IsX86 u →
        slice_index u.regs index ≡ v → slice_index u.regs base ≡ w → Gives work (LeaScaled work base index k ∷ []) u (word_of op v w)
    sum-from k op v w base index u is u-is first second =
        let sum : ℕ = (slice_index u.regs base + scale_factor k * slice_index u.regs index) % 2 ^ 64 in
        gives-as work (LeaScaled work base index k ∷ []) u sum (word_of op v w)
        (is (slice_index u.regs index) (slice_index u.regs base) ∙ ap (λ a. word_of op a (slice_index u.regs base)) first ∙ ap (λ b. word_of op v b) second)
        (last-gives work (LeaScaled work base index k) u u.flags sum u-is work-low
        (mod_below (slice_index u.regs base + scale_factor k * slice_index u.regs index) (2 ^ 64) (omega arith)) refl)

    scaled-gives : (k : Scale) (op : Op) (left : ℕ) (right : Rhs) → ((a b : ℕ) → (b + scale_factor k * a) % 2 ^ 64 ≡ word_of op a b) →
        IsSomewhere p left → RhsIsPlaced p right → IsRhs right →
        Gives work (scaled_code p k work left right) x (word_of op (val left) (rhs_word s.regs right))
    scaled-gives k op left (Lit n) is h there small =
        let q : ℕ = source p left RAX in
        let b = readied p call places s x state lent agrees left 0 h (omega arith) in
        let q-apart : q ≢ 1 = source-not left 0 1 (omega arith) (λ e. omega (arith, e)) refl in
        let z : X86 = wrote b.end (b.end.at + 6) b.end.flags 1 n in
        let n-below : n < 2 ^ 64 = omega (arith, small) in
        let first : slice_index z.regs q ≡ val left = wrote-other b.end (b.end.at + 6) b.end.flags 1 n q q-apart ∙ b.has in
        let second : slice_index z.regs 1 ≡ n = wrote-reads b.end (b.end.at + 6) b.end.flags 1 n b.only.machine (omega arith) in
        after-code work (ready p left RAX) (MovZero RCX n ∷ LeaScaled work RCX q k ∷ []) x b.end (word_of op (val left) n) b.runs
        (only-work 0 x b.end (omega arith) b.only)
        (then-gives work (MovZero RCX n) (LeaScaled work RCX q k ∷ []) b.end b.end.flags 1 n (word_of op (val left) n) b.only.machine (omega arith) n-below refl
        (sum-from k op (val left) n 1 q z is (wrote-is b.end (b.end.at + 6) b.end.flags 1 n b.only.machine n-below) first second))
    scaled-gives k op left (Reg r) is h there small =
        let q : ℕ = source p left RAX in
        let b = readied p call places s x state lent agrees left 0 h (omega arith) in
        let q-apart : q ≢ 1 = source-not left 0 1 (omega arith) (λ e. omega (arith, e)) refl in
        let c = readied p call places s b.end state lent (then-agrees 0 b.end (omega arith) b.only) r 1 there (omega arith) in
        let first : slice_index c.end.regs q ≡ val left = c.only.others q q-apart ∙ b.has in
        after-code work (ready p left RAX) (ready p r RCX ++ LeaScaled work (source p r RCX) q k ∷ []) x b.end (word_of op (val left) (val r)) b.runs
        (only-work 0 x b.end (omega arith) b.only)
        (after-code work (ready p r RCX) (LeaScaled work (source p r RCX) q k ∷ []) b.end c.end (word_of op (val left) (val r)) c.runs
        (only-work 1 b.end c.end (omega arith) c.only)
        (sum-from k op (val left) (val r) (source p r RCX) q c.end is c.only.machine first c.has))

    -- ---- extracts

    -- the low values of what is shifted
    cut-from : (last : X86Insn) (n count v word : ℕ) (i : X86Insn) (u : X86) → IsX86 u → 0 < n → n ≤ 2 ^ 64 → slice_index u.regs work ≡ v →
        x86_outcome u (u.at + length_of i) i ≡ (steps.Moved, wrote u (u.at + length_of i) None work (shift_word Shr (slice_index u.regs work) count)) →
        ((y : X86) → x86_outcome y (y.at + length_of last) last
        ≡ (steps.Moved, wrote y (y.at + length_of last) y.flags work (slice_index y.regs work % n))) →
        v / 2 ^ (count % 64) % n ≡ word → Gives work (i ∷ last ∷ []) u word
    cut-from last n count v word i u u-is some most first shifts does is =
        let shifted : ℕ = shift_word Shr (slice_index u.regs work) count in
        let shifted-below : shifted < 2 ^ 64 = shift_word-below Shr (slice_index u.regs work) count (u-is.words work) in
        let z : X86 = wrote u (u.at + length_of i) None work shifted in
        let z-is : IsX86 z = wrote-is u (u.at + length_of i) None work shifted u-is shifted-below in
        let cut : slice_index z.regs work % n ≡ word =
        ap (λ k. k % n) (wrote-reads u (u.at + length_of i) None work shifted u-is work-low) ∙ ap (λ a. a / 2 ^ (count % 64) % n) first ∙ is in
        work-gives work i (last ∷ []) u None shifted word u-is shifted-below shifts
        (gives-as work (last ∷ []) z (slice_index z.regs work % n) word cut
        (last-gives work last z z.flags (slice_index z.regs work % n) z-is work-low (cut-below (slice_index z.regs work) n some most) (does z)))

    extract-gives : (last : X86Insn) (n left : ℕ) (right : Rhs) → 0 < n → n ≤ 2 ^ 64 →
        ((y : X86) → x86_outcome y (y.at + length_of last) last
        ≡ (steps.Moved, wrote y (y.at + length_of last) y.flags work (slice_index y.regs work % n))) →
        IsSomewhere p left → RhsIsPlaced p right → IsRhs right →
        Gives work (extract_code p last work left right) x (val left / 2 ^ (8 * (rhs_word s.regs right % 8)) % n)
    extract-gives last n left (Lit k) some most does h there small =
        let word : ℕ = val left / 2 ^ (8 * (k % 8)) % n in
        first-gives left x (slice_index x.regs 1) word (ShiftImm Shr work (8 * (k % 8)) ∷ last ∷ []) h (same-refl x agrees.machine) refl
        (λ y y-is first second. cut-from last n (8 * (k % 8)) (val left) word (ShiftImm Shr work (8 * (k % 8))) y y-is some most first refl does
        (ap (λ c. val left / 2 ^ c % n) (eight-small k)))
    extract-gives last n left (Reg r) some most does h there small =
        let b : ℕ = val r in
        let y : X86 = counted (Reg r) in
        let y-same : SameBut x y = counted-same (Reg r) there small in
        let word : ℕ = val left / 2 ^ (8 * (b % 8)) % n in
        let read : ℕ = slice_index y.regs 1 in
        let count : ℕ = shift_word Shl read 3 in
        let count-below : count < 2 ^ 64 = shift_word-below Shl read 3 (y-same.machine.words 1) in
        let z : X86 = wrote y (y.at + 4) None 1 count in
        let z-same : SameBut x z = same-trans x y z y-same (wrote-same y (y.at + 4) None 1 count y-same.machine (omega arith) count-below) in
        let second-is : slice_index z.regs 1 ≡ b * 2 ^ 3 % 2 ^ 64 =
        wrote-reads y (y.at + 4) None 1 count y-same.machine (omega arith) ∙ ap (λ k. k * 2 ^ 3 % 2 ^ 64) (counted-reads (Reg r) there small) in
        let rest : List X86Insn = brought p left work ++ ShiftCl Shr work ∷ last ∷ [] in
        count-gives (Reg r) there small (ShiftImm Shl RCX 3 ∷ rest) word
        (then-gives work (ShiftImm Shl RCX 3) rest y None 1 count word y-same.machine (omega arith) count-below refl
        (first-gives left z (b * 2 ^ 3 % 2 ^ 64) word (ShiftCl Shr work ∷ last ∷ []) h z-same second-is
        (λ u u-is first second. cut-from last n (slice_index u.regs 1 % 64) (val left) word (ShiftCl Shr work) u u-is some most first refl does
        (ap (λ c. val left / 2 ^ (c % 64 % 64) % n) second ∙ ap (λ c. val left / 2 ^ c % n) (by-eight b)))))

    -- ---- each operator

    op-gives : (op : Op) (left : ℕ) (right : Rhs) → IsSomewhere p left → RhsIsPlaced p right → IsRhs right →
        (is_difference op ≡ true → has_second p right work ≡ false) →
        Gives work (op_code p op work left right) x (word_of op (val left) (rhs_word s.regs right))
    op-gives ops.Add left right h there small apart =
        move-gives alu.Add ops.Add left right (record { writes = λ regs to b. refl; word = λ a b. refl }) (record { word = λ b low. omega (arith, low) })
        (λ a b. omega arith) h there small
    op-gives ops.Sub left right h there small apart =
        alu-gives-word alu.Sub ops.Sub left right (record { writes = λ regs to b. refl; word = λ a b. refl }) h there small
        (λ has. let wrong : true ≡ false = sym has ∙ apart refl in absurd cc)
    op-gives ops.Band left right h there small apart =
        alu-gives-word alu.And ops.Band left right (record { writes = λ regs to b. refl; word = λ a b. refl }) h there small (λ _ a b. and_comm b a)
    op-gives ops.Bis left right h there small apart =
        move-gives alu.Or ops.Bis left right (record { writes = λ regs to b. refl; word = λ a b. refl }) (record { word = λ b low. or_zero_l b })
        (λ a b. or_comm b a) h there small
    op-gives ops.Xor left right h there small apart =
        alu-gives-word alu.Xor ops.Xor left right (record { writes = λ regs to b. refl; word = λ a b. refl }) h there small (λ _ a b. xor_comm b a)
    op-gives ops.Sll left right h there small apart =
        shift-gives Shl ops.Sll left right (record { word = λ a b. ap (λ k. a * 2 ^ k % 2 ^ 64) (twice-mod b) }) h there small
    op-gives ops.Srl left right h there small apart =
        shift-gives Shr ops.Srl left right (record { word = λ a b. ap (λ k. a / 2 ^ k) (twice-mod b) }) h there small
    op-gives ops.Sra left right h there small apart =
        shift-gives Sar ops.Sra left right (record { word = λ a b. ap (λ k. shifted_signed a k) (twice-mod b) }) h there small
    op-gives ops.Cmpeq left right h there small apart =
        compare-gives Equal left right (test_of Eq (val left) (rhs_word s.regs right)) h there small (cmp left right small).equal
    op-gives ops.Cmplt left right h there small apart =
        compare-gives Less left right (test_of Slt (val left) (rhs_word s.regs right)) h there small (cmp left right small).less
    op-gives ops.Cmple left right h there small apart =
        compare-gives LessOrEqual left right (test_of Sle (val left) (rhs_word s.regs right)) h there small (cmp left right small).less_or_equal
    op-gives ops.Cmpult left right h there small apart =
        compare-gives Below left right (test_of Ult (val left) (rhs_word s.regs right)) h there small (cmp left right small).below
    op-gives ops.Cmpule left right h there small apart =
        compare-gives BelowOrEqual left right (test_of Ule (val left) (rhs_word s.regs right)) h there small (cmp left right small).below_or_equal
    op-gives ops.Bic left right h there small apart = bic-gives left right h there small
    op-gives ops.S4add left right h there small apart = scaled-gives Four ops.S4add left right (λ a b. scaled-sum 4 a b) h there small
    op-gives ops.S8add left right h there small apart = scaled-gives Eight ops.S8add left right (λ a b. scaled-sum 8 a b) h there small
    op-gives ops.Extb left right h there small apart =
        extract-gives (MovByte work work) (2 ^ 8) left right (omega arith) (omega arith) (λ y. refl) h there small
    op-gives ops.Extw left right h there small apart =
        extract-gives (MovTwo work work) (2 ^ 16) left right (omega arith) (omega arith) (λ y. refl) h there small
    op-gives ops.Extl left right h there small apart =
        extract-gives (MovFour work work) (2 ^ 32) left right (omega arith) (omega arith) (λ y. refl) h there small

    pub applied-gives : (op : Op) (left : ℕ) (right : Rhs) → IsSomewhere p left → RhsIsPlaced p right → IsRhs right →
        (is_difference op ≡ true → has_second p right work ≡ false) →
        Gives work (op_code p op work left right) x (word_of op (val left) (rhs_word s.regs right))
    applied-gives = op-gives

    -- ---- a sum

    pub sum-gives : (base : ℕ) (disp : ℤ) → IsSomewhere p base → HasBits 31 disp → Gives work (sum_code p work base disp) x (address_of s.regs base disp)
    sum-gives base disp h bits =
        let a : ℕ = address_of s.regs base disp in
        let add : ℕ → ℕ = λ w. (w + extended disp) % 2 ^ 64 in
        let q : ℕ = source p base RAX in
        let one : List X86Insn = MovImm work disp ∷ [] in
        let two : List X86Insn = ready p base RAX ++ Lea work q disp ∷ [] in
        elim (cases_Bool (eqb base 31)) [
          | inl e ↦
              let word : (0 + extended disp) % 2 ^ 64 ≡ a = ap (λ r. add (read_reg s.regs r)) (sym (eqb-true base 31 e)) in
              let low : extended disp < 2 ^ 64 = extended-low disp bits in
              let same : extended disp ≡ (0 + extended disp) % 2 ^ 64 = omega (arith, low) in
              subst (λ b. Gives work (cond b one two) x a) (sym e)
              (gives-as work one x (extended disp) a (same ∙ word)
              (last-gives work (MovImm work disp) x x.flags (extended disp) agrees.machine work-low low refl))
          | inr e ↦
              let b = readied p call places s x state lent agrees base 0 h (omega arith) in
              subst (λ c. Gives work (cond c one two) x a) (sym e)
              (after-code work (ready p base RAX) (Lea work q disp ∷ []) x b.end a b.runs (only-work 0 x b.end (omega arith) b.only)
              (gives-as work (Lea work q disp ∷ []) b.end (add (slice_index b.end.regs q)) a (ap add b.has)
              (last-gives work (Lea work q disp) b.end b.end.flags (add (slice_index b.end.regs q)) b.only.machine work-low
              (mod_below (slice_index b.end.regs q + extended disp) (2 ^ 64) (omega arith)) refl)))
        ]

-- ---- the register that an operator works in

module _ (p : Places) (call : Call) (places : ArePlaces p) where
  pub work-works : (op : Op) (to : ℕ) (right : Rhs) → IsWork p call places to (work_reg p op to right)
  work-works op to right = elim (cases_Bool (is_difference op && has_second p right (target p to))) [
    | inl e ↦ inl (ap (λ b. cond b RAX (target p to)) e)
    | inr e ↦ subst (λ b. IsWork p call places to (cond b RAX (target p to))) (sym e) (target-works p call places to)
  ]

  not-rax : (right : Rhs) → has_second p right RAX ≡ false
  not-rax (Lit n) = refl
  not-rax (Reg r) = not-in p call places r 0 refl

  apart-by : (to : ℕ) (right : Rhs) (b : Bool) → has_second p right (target p to) ≡ b → has_second p right (cond b RAX (target p to)) ≡ false
  apart-by to right true e = not-rax right
  apart-by to right false e = e

  -- a difference doesn't work where its second operand is
  pub work-no-second : (op : Op) (to : ℕ) (right : Rhs) → is_difference op ≡ true → has_second p right (work_reg p op to right) ≡ false
  work-no-second op to right d =
      ap (λ b. has_second p right (cond (b && has_second p right (target p to)) RAX (target p to))) d
      ∙ apart-by to right (has_second p right (target p to)) refl
