-- The code of a program returns 0 where the program's value is 0, else 1.
use Rattle.std.proofs.Common.{◌≡◌, ℕ, zero, suc, ◌+◌, ◌-◌, ◌*◌, ◌/◌, ◌%◌, ◌^◌, ◌<◌, ◌≤◌, Bool, true, false, cond, eqb, inl, inr, List, [], ◌∷◌, length, slice_get, slice_index, Option, Some, bit_and, bit_or, refl, sym, ap, ◌∙◌, subst, arith, length-append, get_or}
use Rattle.std.specs.Prelude.{nat_lt, nat_le, not}
use Rattle.std.proofs.lemmas.Nat.{or_lt, and_le_l, shr_le}
use Rattle.std.proofs.lemmas.Option.{slice_get-get_or}
use Rattle.std.proofs.lemmas.Bool.{cases_Bool, eqb-true, lt-ltb, ne_eqb}
use Rattle.word_ops.specs.Words.{word_of, flag_of}
use Rattle.word_ops.specs.Memory.{Memory}
use Rattle.word_ops.specs.Rights.{Rights}
use Rattle.word_ops.specs.declared.Op.TheVariants.{Add, Cmpult}
use Rattle.alpha_words.specs.declared.insn.Insn.{Insn}
use Rattle.alpha_words.specs.declared.insn.Insn.TheVariants.{Branch, Br, Ret}
use Rattle.alpha_words.specs.declared.conditions.Cond.TheVariants.{NotZero}
use Rattle.alpha_cfg.specs.Flow.{jump_of}
use Rattle.alpha_cfg.specs.Machine.{State, state_at, step_at, ends_with, run_of}
use Rattle.alpha_cfg.specs.declared.outcome.Outcome.{Outcome}
use Rattle.alpha_cfg.specs.declared.outcome.Outcome.TheVariants as outcomes
use Rattle.alpha_cfg.specs.declared.outcome.Step.{Step}
use Rattle.bpf_words.specs.declared.insn.Bpf.{Bpf}
use Rattle.bpf_words.specs.declared.insn.BpfOp.{BpfOp}
use Rattle.bpf_words.specs.declared.insn.BpfOp.TheVariants as ops
use Rattle.bpf_words.specs.declared.insn.BpfTest.{BpfTest}
use Rattle.bpf_words.specs.declared.insn.BpfTest.TheVariants as tests
use Rattle.bpf_words.specs.Programs.{bpf_op, IsInBounds, IsRet, IsSoundAt, IsProgram}
use Rattle.bpf_words.specs.Values.{big_endian, jumps, op_effect, code_effect, bpf_effect, value_after, value_from, bpf_value}
use Rattle.bpf_code.specs.Blocks.{load_code, straight_code, nonzero_flag, taken_index, passed_index, block_distance, branch_pair, end_code, end_place, block_code, blocks_from, bpf_code}
use Rattle.bpf_code.specs.Inside.Bounds.{KeepsTo}
use Rattle.bpf_words.specs.Reading.{AreBytes}
use Rattle.bpf_code.proofs.Straight.{Stands, effects, effects-length, listing, listed, MayRun, more, more-is, onward, onward-is, runs_straight}
use Rattle.bpf_code.proofs.Results.{constant-a, add-a, or-a, and-a, shift-a, tested, test-six}
use Rattle.bpf_code.proofs.Loads.{HasPacket, load-is, big-small}
use Rattle.bpf_code.proofs.Places.{stands-first, stands-second, stands-block_code}

-- ---- what an instruction makes of A

abbrev pub next_a : List ℕ → BpfOp → ℕ → ℕ → ℕ
next_a packet ops.Ld k a = big_endian packet k 4
next_a packet ops.Ldh k a = big_endian packet k 2
next_a packet ops.Ldb k a = big_endian packet k 1
next_a packet ops.LdImm k a = k
next_a packet ops.Add k a = (a + k) % 2 ^ 32
next_a packet ops.Or k a = bit_or a k
next_a packet ops.And k a = bit_and a k
next_a packet ops.Rsh k a = a / 2 ^ k
next_a packet ops.Ja k a = a
next_a packet (ops.Jump t) k a = a
next_a packet ops.Ret k a = a
next_a packet ops.RetA k a = a

-- what the straight words of an instruction leave
record IsLeft (packet : List ℕ) (m : Memory) (reads : List (ℕ × ℕ)) (op : BpfOp) (k : ℕ) (regs : List ℕ) : Type 0 where
  may : MayRun m reads (straight_code op k) regs
  a : slice_index (effects m (straight_code op k) regs) 1 ≡ next_a packet op k (slice_index regs 1)
  base : slice_index (effects m (straight_code op k) regs) 16 ≡ slice_index regs 16

module _ (packet : List ℕ) (m : Memory) (reads : List (ℕ × ℕ)) (bytes : AreBytes packet) where
  left-load : (op : BpfOp) (k n : ℕ) (regs : List ℕ) → straight_code op k ≡ load_code k n
      → next_a packet op k (slice_index regs 1) ≡ big_endian packet k (suc n) → n ≤ 3 → k + suc n ≤ 64 → length regs ≡ 31
      → HasPacket packet m reads (slice_index regs 16) → IsLeft packet m reads op k regs
  left-load op k n regs code a few inside count has =
      let l = load-is packet m reads k n bytes few inside regs count has in
      record {
        may = subst (λ c. MayRun m reads c regs) (sym code) l.may;
        a = ap (λ c. slice_index (effects m c regs) 1) code ∙ l.a ∙ sym a;
        base = ap (λ c. slice_index (effects m c regs) 16) code ∙ l.base;
      }

  left-listed : (op : BpfOp) (k : ℕ) (f : ℕ → ℕ) → KeepsTo op k → k < 2 ^ 32 → f 1 < 2 ^ 32 → HasPacket packet m reads (f 16)
      → IsLeft packet m reads op k (listing 31 f 0)
  left-listed ops.Ld k f fits w a has = left-load ops.Ld k 3 (listing 31 f 0) refl refl (omega arith) fits refl has
  left-listed ops.Ldh k f fits w a has = left-load ops.Ldh k 1 (listing 31 f 0) refl refl (omega arith) fits refl has
  left-listed ops.Ldb k f fits w a has = left-load ops.Ldb k 0 (listing 31 f 0) refl refl (omega arith) fits refl has
  left-listed ops.LdImm k f fits w a has = record { may = (tt, (tt, (tt, (tt, (tt, (tt, (tt, tt))))))); a = constant-a m k f w; base = refl }
  left-listed ops.Add k f fits w a has = record { may = (tt, (tt, (tt, (tt, (tt, (tt, (tt, (tt, (tt, (tt, tt)))))))))); a = add-a m k f w a; base = refl }
  left-listed ops.Or k f fits w a has = record { may = (tt, (tt, (tt, (tt, (tt, (tt, (tt, (tt, tt)))))))); a = or-a m k f w; base = refl }
  left-listed ops.And k f fits w a has = record { may = (tt, (tt, (tt, (tt, (tt, (tt, (tt, (tt, tt)))))))); a = and-a m k f w; base = refl }
  left-listed ops.Rsh k f fits w a has = record { may = (tt, tt); a = shift-a m k f fits; base = refl }
  left-listed ops.Ja k f fits w a has = record { may = (tt, tt); a = refl; base = refl }
  left-listed (ops.Jump tests.Jeq) k f fits w a has = record { may = (tt, (tt, (tt, (tt, (tt, (tt, (tt, (tt, tt)))))))); a = refl; base = refl }
  left-listed (ops.Jump tests.Jgt) k f fits w a has = record { may = (tt, (tt, (tt, (tt, (tt, (tt, (tt, (tt, tt)))))))); a = refl; base = refl }
  left-listed (ops.Jump tests.Jge) k f fits w a has = record { may = (tt, (tt, (tt, (tt, (tt, (tt, (tt, (tt, tt)))))))); a = refl; base = refl }
  left-listed (ops.Jump tests.Jset) k f fits w a has = record { may = (tt, (tt, (tt, (tt, (tt, (tt, (tt, (tt, tt)))))))); a = refl; base = refl }
  left-listed ops.Ret k f fits w a has = record { may = (tt, tt); a = refl; base = refl }
  left-listed ops.RetA k f fits w a has = record { may = (tt, tt); a = refl; base = refl }

  left-is : (op : BpfOp) (k : ℕ) (regs : List ℕ) → length regs ≡ 31 → KeepsTo op k → k < 2 ^ 32 → slice_index regs 1 < 2 ^ 32
      → HasPacket packet m reads (slice_index regs 16) → IsLeft packet m reads op k regs
  left-is op k regs count fits w a has = subst (IsLeft packet m reads op k) (sym (listed regs count)) (left-listed op k (slice_index regs) fits w a has)

  next-small : (op : BpfOp) (k a : ℕ) → k < 2 ^ 32 → a < 2 ^ 32 → next_a packet op k a < 2 ^ 32
  next-small ops.Ld k a w h = big-small packet k 3 (omega arith) bytes
  next-small ops.Ldh k a w h = big-small packet k 1 (omega arith) bytes
  next-small ops.Ldb k a w h = big-small packet k 0 (omega arith) bytes
  next-small ops.LdImm k a w h = w
  next-small ops.Add k a w h = omega arith
  next-small ops.Or k a w h = or_lt 32 a k h w
  next-small ops.And k a w h = omega (arith, and_le_l a k, h)
  next-small ops.Rsh k a w h = omega (arith, shr_le a k, h)
  next-small ops.Ja k a w h = h
  next-small (ops.Jump t) k a w h = h
  next-small ops.Ret k a w h = h
  next-small ops.RetA k a w h = h

-- ---- ends of blocks

-- the state at another index
abbrev at_index : ℕ → State → State
at_index j s = record { index = j; regs = s.regs; memory = s.memory; rights = s.rights }

abbrev stepped : List Insn → ℕ → Step × State → Outcome × State
stepped code n step = ends_with step.0 step.1 (run_of code n step.1)

branch-lands : (at i : ℕ) → at + 1 ≤ 20 * i → jump_of at (Branch NotZero 6 (block_distance at i)) ≡ Some (20 * i)
branch-lands at i room = ap Some (omega (arith, room))

br-lands : (at i : ℕ) → at + 1 ≤ 20 * i → jump_of at (Br (block_distance at i)) ≡ Some (20 * i)
br-lands at i room = ap Some (omega (arith, room))

-- where the first branch leads, given whether the register is 0
abbrev branched : ℕ → ℕ → Bool → Option ℕ
branched at i b = cond (not b) (jump_of at (Branch NotZero 6 (block_distance at i))) (Some (at + 1))

-- a branch that isn't taken, and the branch behind it
branch-passes : (code : List Insn) (s : State) (n i j : ℕ) → Stands code s.index (branch_pair s.index i j) → s.index + 2 ≤ 20 * j
    → slice_index s.regs 6 ≡ 0 → run_of code (suc (suc n)) s ≡ run_of code n (at_index (20 * j) s)
branch-passes code s n i j stands room clear =
    let behind : State = at_index (s.index + 1) s in
    ap (λ o. stepped code (suc n) (step_at o s)) stands.0
    ∙ ap (λ x. run_of code (suc n) (state_at s (branched s.index i (eqb x 0)))) clear
    ∙ ap (λ o. stepped code n (step_at o behind)) stands.1.0
    ∙ ap (λ o. run_of code n (state_at behind o)) (br-lands (s.index + 1) j (omega (arith, room)))

branch-taken_index : (code : List Insn) (s : State) (n i j : ℕ) → Stands code s.index (branch_pair s.index i j) → s.index + 1 ≤ 20 * i
    → eqb (slice_index s.regs 6) 0 ≡ false → run_of code (suc (suc n)) s ≡ run_of code (suc n) (at_index (20 * i) s)
branch-taken_index code s n i j stands room set =
    ap (λ o. stepped code (suc n) (step_at o s)) stands.0
    ∙ ap (λ b. run_of code (suc n) (state_at s (branched s.index i b))) set
    ∙ ap (λ o. run_of code (suc n) (state_at s o)) (branch-lands s.index i room)

returns-now : (code : List Insn) (s : State) (n : ℕ) → slice_get code s.index ≡ Some Ret
    → run_of code (suc n) s ≡ (outcomes.Returned (slice_index s.regs 0), s)
returns-now code s n stands = ap (λ o. stepped code n (step_at o s)) stands

-- ---- what a block returns

nonzero_flag-word : (k : ℕ) → word_of Add 0 (nonzero_flag k) ≡ nonzero_flag k
nonzero_flag-word k = elim (eqb k 0) as (λ b. word_of Add 0 (cond b 0 1) ≡ cond b 0 1) [ true ↦ refl | false ↦ refl ]

above-zero : (a : ℕ) → word_of Cmpult 0 a ≡ nonzero_flag a
above-zero zero = refl
above-zero (suc a) = ap flag_of (lt-ltb 0 (suc a) (omega arith)) ∙ sym (ap (λ b. cond b 0 1) (ne_eqb (suc a) 0 (λ e. absurd (omega (arith, e)))))

return-listed : (m : Memory) (k : ℕ) (f : ℕ → ℕ) → slice_index (effects m (straight_code ops.Ret k) (listing 31 f 0)) 0 ≡ nonzero_flag k
return-listed m k f = nonzero_flag-word k

return_a-listed : (m : Memory) (k : ℕ) (f : ℕ → ℕ) → slice_index (effects m (straight_code ops.RetA k) (listing 31 f 0)) 0 ≡ nonzero_flag (f 1)
return_a-listed m k f = above-zero (f 1)

return-is : (m : Memory) (k : ℕ) (regs : List ℕ) → length regs ≡ 31 → slice_index (effects m (straight_code ops.Ret k) regs) 0 ≡ nonzero_flag k
return-is m k regs count = ap (λ l. slice_index (effects m (straight_code ops.Ret k) l) 0) (listed regs count) ∙ return-listed m k (slice_index regs)

return_a-is : (m : Memory) (k : ℕ) (regs : List ℕ) → length regs ≡ 31
    → slice_index (effects m (straight_code ops.RetA k) regs) 0 ≡ nonzero_flag (slice_index regs 1)
return_a-is m k regs count = ap (λ l. slice_index (effects m (straight_code ops.RetA k) l) 0) (listed regs count) ∙ return_a-listed m k (slice_index regs)

six-is : (m : Memory) (k : ℕ) (t : BpfTest) (regs : List ℕ) → k < 2 ^ 32 → length regs ≡ 31
    → slice_index (effects m (straight_code (ops.Jump t) k) regs) 6 ≡ tested t (slice_index regs 1) k
six-is m k t regs w count = ap (λ l. slice_index (effects m (straight_code (ops.Jump t) k) l) 6) (listed regs count) ∙ test-six m k (slice_index regs) t w

-- ---- where a block goes

nonzero_flag-clear : (b : Bool) → flag_of b ≡ 0 → b ≡ false
nonzero_flag-clear true e = absurd cc
nonzero_flag-clear false e = refl

nonzero_flag-set : (b : Bool) → eqb (flag_of b) 0 ≡ false → b ≡ true
nonzero_flag-set true e = refl
nonzero_flag-set false e = absurd cc

test-clear : (t : BpfTest) (a k : ℕ) → tested t a k ≡ 0 → jumps t a k ≡ false
test-clear tests.Jeq a k e = nonzero_flag-clear (eqb a k) e
test-clear tests.Jgt a k e = nonzero_flag-clear (nat_lt k a) e
test-clear tests.Jge a k e = nonzero_flag-clear (nat_le k a) e
test-clear tests.Jset a k e = ap (λ x. not (eqb x 0)) e

test-set : (t : BpfTest) (a k : ℕ) → eqb (tested t a k) 0 ≡ false → jumps t a k ≡ true
test-set tests.Jeq a k e = nonzero_flag-set (eqb a k) e
test-set tests.Jgt a k e = nonzero_flag-set (nat_lt k a) e
test-set tests.Jge a k e = nonzero_flag-set (nat_le k a) e
test-set tests.Jset a k e = ap not e

-- the instruction doesn't return
abbrev pub IsGoing : BpfOp → Type 0
IsGoing ops.Ret = ⊥
IsGoing ops.RetA = ⊥
IsGoing op = Unit {0}

-- what a jump left in register 6
abbrev IsTested : BpfOp → ℕ → ℕ → ℕ → Type 0
IsTested (ops.Jump t) a k six = six ≡ tested t a k
IsTested op a k six = Unit {0}

-- the value that an instruction leads to, given the value from an index on with an A
abbrev op_value : List ℕ → (ℕ → ℕ → ℕ) → ℕ → ℕ → Bpf → BpfOp → ℕ
op_value packet onward i a b op = value_after onward (Some (op_effect packet i a b op))

-- the value goes on where the code does
record Goes (packet : List ℕ) (again : ℕ → ℕ → ℕ) (i a : ℕ) (b : Bpf) (op : BpfOp) (six : ℕ) : Type 0 where
  clear : six ≡ 0 → op_value packet again i a b op ≡ again (passed_index i b op) (next_a packet op b.k a)
  some : eqb six 0 ≡ false → op_value packet again i a b op ≡ again (taken_index i b op) (next_a packet op b.k a)

goes : (packet : List ℕ) (again : ℕ → ℕ → ℕ) (i a : ℕ) (b : Bpf) (op : BpfOp) (six : ℕ) → IsGoing op → IsTested op a b.k six → Goes packet again i a b op six
goes packet again i a b ops.Ld six g t = record { clear = λ e. refl; some = λ e. refl }
goes packet again i a b ops.Ldh six g t = record { clear = λ e. refl; some = λ e. refl }
goes packet again i a b ops.Ldb six g t = record { clear = λ e. refl; some = λ e. refl }
goes packet again i a b ops.LdImm six g t = record { clear = λ e. refl; some = λ e. refl }
goes packet again i a b ops.Add six g t = record { clear = λ e. refl; some = λ e. refl }
goes packet again i a b ops.Or six g t = record { clear = λ e. refl; some = λ e. refl }
goes packet again i a b ops.And six g t = record { clear = λ e. refl; some = λ e. refl }
goes packet again i a b ops.Rsh six g t = record { clear = λ e. refl; some = λ e. refl }
goes packet again i a b ops.Ja six g t = record { clear = λ e. refl; some = λ e. refl }
goes packet again i a b (ops.Jump j) six g t = record {
  clear = λ e. ap (λ h. again (i + 1 + cond h b.jt b.jf) a) (test-clear j a b.k (sym t ∙ e));
  some = λ e. ap (λ h. again (i + 1 + cond h b.jt b.jf) a) (test-set j a b.k (ap (λ x. eqb x 0) (sym t) ∙ e));
}
goes packet again i a b ops.Ret six g t = absurd g
goes packet again i a b ops.RetA six g t = absurd g

-- ---- lengths

pub straight_code-short : (op : BpfOp) (k : ℕ) → length (straight_code op k) ≤ 18
straight_code-short ops.Ld k = omega arith
straight_code-short ops.Ldh k = omega arith
straight_code-short ops.Ldb k = omega arith
straight_code-short ops.LdImm k = omega arith
straight_code-short ops.Add k = omega arith
straight_code-short ops.Or k = omega arith
straight_code-short ops.And k = omega arith
straight_code-short ops.Rsh k = omega arith
straight_code-short ops.Ja k = omega arith
straight_code-short (ops.Jump t) k = omega arith
straight_code-short ops.Ret k = omega arith
straight_code-short ops.RetA k = omega arith

end_code-length : (at i : ℕ) (b : Bpf) (op : BpfOp) → length (end_code at i b op) ≡ 2
end_code-length at i b ops.Ld = refl
end_code-length at i b ops.Ldh = refl
end_code-length at i b ops.Ldb = refl
end_code-length at i b ops.LdImm = refl
end_code-length at i b ops.Add = refl
end_code-length at i b ops.Or = refl
end_code-length at i b ops.And = refl
end_code-length at i b ops.Rsh = refl
end_code-length at i b ops.Ja = refl
end_code-length at i b (ops.Jump t) = refl
end_code-length at i b ops.Ret = refl
end_code-length at i b ops.RetA = refl

pub block_code-short : (i : ℕ) (b : Bpf) (op : BpfOp) → length (block_code i b op) ≤ 20
block_code-short i b op =
    let s = straight_code-short op b.k in
    let e = end_code-length (end_place i op b.k) i b op in
    let a = length-append (straight_code op b.k) (end_code (end_place i op b.k) i b op) in
    omega (arith, s, e, a)

pub fits-good : (n i : ℕ) (b : Bpf) (op : BpfOp) → IsInBounds n i b op → KeepsTo op b.k
fits-good n i b ops.Ld g = g
fits-good n i b ops.Ldh g = g
fits-good n i b ops.Ldb g = g
fits-good n i b ops.LdImm g = tt
fits-good n i b ops.Add g = tt
fits-good n i b ops.Or g = tt
fits-good n i b ops.And g = tt
fits-good n i b ops.Rsh g = g
fits-good n i b ops.Ja g = tt
fits-good n i b (ops.Jump t) g = tt
fits-good n i b ops.Ret g = tt
fits-good n i b ops.RetA g = tt

-- both branches lead forward, inside the program
pub record LeadsInside (n i : ℕ) (b : Bpf) (op : BpfOp) : Type 0 where
  pub far : taken_index i b op < n
  pub near : passed_index i b op < n
  pub on : suc i ≤ taken_index i b op
  pub over : suc i ≤ passed_index i b op

-- what a step inside the program is
pub leads : (n i : ℕ) (b : Bpf) (op : BpfOp) → i < n → IsInBounds n i b op → (i + 1 ≡ n → IsRet op) → IsGoing op → LeadsInside n i b op
leads n i b ops.Ld lt g last going = next n i lt last
  where
    next : (n i : ℕ) → i < n → (i + 1 ≡ n → ⊥) → LeadsInside n i b ops.Ld
    next n i lt last = record { far = omega (arith, lt, last); near = omega (arith, lt, last); on = omega arith; over = omega arith }
leads n i b ops.Ldh lt g last going = record { far = omega (arith, lt, last); near = omega (arith, lt, last); on = omega arith; over = omega arith }
leads n i b ops.Ldb lt g last going = record { far = omega (arith, lt, last); near = omega (arith, lt, last); on = omega arith; over = omega arith }
leads n i b ops.LdImm lt g last going = record { far = omega (arith, lt, last); near = omega (arith, lt, last); on = omega arith; over = omega arith }
leads n i b ops.Add lt g last going = record { far = omega (arith, lt, last); near = omega (arith, lt, last); on = omega arith; over = omega arith }
leads n i b ops.Or lt g last going = record { far = omega (arith, lt, last); near = omega (arith, lt, last); on = omega arith; over = omega arith }
leads n i b ops.And lt g last going = record { far = omega (arith, lt, last); near = omega (arith, lt, last); on = omega arith; over = omega arith }
leads n i b ops.Rsh lt g last going = record { far = omega (arith, lt, last); near = omega (arith, lt, last); on = omega arith; over = omega arith }
leads n i b ops.Ja lt g last going = record { far = g; near = g; on = omega arith; over = omega arith }
leads n i b (ops.Jump t) lt g last going = record { far = g.0; near = g.1; on = omega arith; over = omega arith }
leads n i b ops.Ret lt g last going = absurd going
leads n i b ops.RetA lt g last going = absurd going

tested-is : (m : Memory) (op : BpfOp) (k : ℕ) (regs : List ℕ) → k < 2 ^ 32 → length regs ≡ 31
    → IsTested op (slice_index regs 1) k (slice_index (effects m (straight_code op k) regs) 6)
tested-is m ops.Ld k regs w count = tt
tested-is m ops.Ldh k regs w count = tt
tested-is m ops.Ldb k regs w count = tt
tested-is m ops.LdImm k regs w count = tt
tested-is m ops.Add k regs w count = tt
tested-is m ops.Or k regs w count = tt
tested-is m ops.And k regs w count = tt
tested-is m ops.Rsh k regs w count = tt
tested-is m ops.Ja k regs w count = tt
tested-is m (ops.Jump t) k regs w count = six-is m k t regs w count
tested-is m ops.Ret k regs w count = tt
tested-is m ops.RetA k regs w count = tt

pub end_code-going : (at i : ℕ) (b : Bpf) (op : BpfOp) → IsGoing op → end_code at i b op ≡ branch_pair at (taken_index i b op) (passed_index i b op)
end_code-going at i b ops.Ld g = refl
end_code-going at i b ops.Ldh g = refl
end_code-going at i b ops.Ldb g = refl
end_code-going at i b ops.LdImm g = refl
end_code-going at i b ops.Add g = refl
end_code-going at i b ops.Or g = refl
end_code-going at i b ops.And g = refl
end_code-going at i b ops.Rsh g = refl
end_code-going at i b ops.Ja g = refl
end_code-going at i b (ops.Jump t) g = refl
end_code-going at i b ops.Ret g = absurd g
end_code-going at i b ops.RetA g = absurd g

-- ---- the whole

module _ (p : List Bpf) (program : IsProgram p) (packet : List ℕ) (bytes : AreBytes packet) (m : Memory) (rights : Rights) (x : ℕ)
    (has : HasPacket packet m rights.reads x) where
  -- the state at the first word of block i
  abbrev here : ℕ → List ℕ → State
  here i regs = record { index = 20 * i; regs = regs; memory = m; rights = rights }

  -- the code at block i with these registers returns what the value says
  abbrev Answers : ℕ → ℕ → ℕ → List ℕ → Type 0
  Answers n i budget regs = (run_of (blocks_from 0 p) budget (here i regs)).0 ≡ outcomes.Returned
      (nonzero_flag (value_from p packet n i (slice_index regs 1)))

  -- registers at the first word of a block
  record AreReady (regs : List ℕ) : Type 0 where
    count : length regs ≡ 31
    small : slice_index regs 1 < 2 ^ 32
    base : slice_index regs 16 ≡ x

  -- what is known of the blocks further on
  abbrev Further : ℕ → Type 0
  Further n = (i budget : ℕ) (regs : List ℕ) → AreReady regs → i < length p → length p ≤ i + n → 20 * n ≤ budget → Answers n i budget regs

  module _ (n i : ℕ) (b : Bpf) (op : BpfOp) (regs : List ℕ) (ready : AreReady regs) (at : slice_get p i ≡ Some b) (good : IsSoundAt (length p) i b)
      (op_is : bpf_op b.code ≡ Some op) (fine : IsInBounds (length p) i b op) (inside : i < length p) (last-of : i + 1 ≡ length p → IsRet op) where
    left : IsLeft packet m rights.reads op b.k regs
    left = left-is packet m rights.reads bytes op b.k regs ready.count (fits-good (length p) i b op fine) good.widths.k ready.small
        (subst (HasPacket packet m rights.reads) (sym ready.base) has)

    abbrev behind : List ℕ
    behind = effects m (straight_code op b.k) regs

    abbrev end : ℕ
    end = onward (straight_code op b.k) (20 * i)

    end-is : end ≡ end_place i op b.k
    end-is = onward-is (straight_code op b.k) (20 * i)

    stands : Stands (blocks_from 0 p) (20 * i) (block_code i b op)
    stands = stands-block_code p i b op at op_is (block_code-short i b op)

    stands-end_code : Stands (blocks_from 0 p) end (end_code end i b op)
    stands-end_code = subst (λ e. Stands (blocks_from 0 p) end (end_code e i b op)) (sym end-is)
        (stands-second (blocks_from 0 p) (20 * i) (straight_code op b.k) (end_code (end_place i op b.k) i b op) stands)

    -- the run up to the ending
    up : (r : ℕ) → run_of (blocks_from 0 p) (more (straight_code op b.k) r) (here i regs) ≡ run_of (blocks_from 0 p) r (at_index end (here i behind))
    up r = runs_straight (blocks_from 0 p) (straight_code op b.k) (here i regs) r
        (stands-first (blocks_from 0 p) (20 * i) (straight_code op b.k) (end_code (end_place i op b.k) i b op) stands) left.may

    value-is : value_from p packet (suc n) i (slice_index regs 1) ≡ op_value packet (value_from p packet n) i (slice_index regs 1) b op
    value-is =
        ap (λ o. value_after (value_from p packet n) (bpf_effect packet i (slice_index regs 1) o)) at
        ∙ ap (λ o. value_after (value_from p packet n) (code_effect packet i (slice_index regs 1) b o)) op_is

    behind-ready : AreReady behind
    behind-ready = record {
      count = effects-length m (straight_code op b.k) regs ∙ ready.count;
      small = subst (λ v. v < 2 ^ 32) (sym left.a) (next-small packet m rights.reads bytes op b.k (slice_index regs 1) good.widths.k ready.small);
      base = left.base ∙ ready.base;
    }

    -- a block that returns
    return-case : (r : ℕ) → op ≡ ops.Ret → Answers (suc n) i (more (straight_code op b.k) (suc r)) regs
    return-case r e =
        let ret : Stands (blocks_from 0 p) end (Ret ∷ Ret ∷ []) = subst (λ kd. Stands (blocks_from 0 p) end (end_code end i b kd)) e stands-end_code in
        let zero_is : slice_index behind 0 ≡ nonzero_flag b.k = ap (λ kd. slice_index (effects m (straight_code kd b.k) regs) 0) e
        ∙ return-is m b.k regs ready.count in
        let value : value_from p packet (suc n) i (slice_index regs 1) ≡ b.k = value-is
        ∙ ap (op_value packet (value_from p packet n) i (slice_index regs 1) b) e in
        ap (λ o. o.0) (up (suc r) ∙ returns-now (blocks_from 0 p) (at_index end (here i behind)) r ret.0)
        ∙ ap outcomes.Returned (zero_is ∙ ap nonzero_flag (sym value))

    return_a-case : (r : ℕ) → op ≡ ops.RetA → Answers (suc n) i (more (straight_code op b.k) (suc r)) regs
    return_a-case r e =
        let ret : Stands (blocks_from 0 p) end (Ret ∷ Ret ∷ []) = subst (λ kd. Stands (blocks_from 0 p) end (end_code end i b kd)) e stands-end_code in
        let zero_is : slice_index behind 0 ≡ nonzero_flag (slice_index regs 1) = ap (λ kd. slice_index (effects m (straight_code kd b.k) regs) 0) e
        ∙ return_a-is m b.k regs ready.count in
        let value : value_from p packet (suc n) i (slice_index regs 1) ≡ slice_index regs 1 = value-is
        ∙ ap (op_value packet (value_from p packet n) i (slice_index regs 1) b) e in
        ap (λ o. o.0) (up (suc r) ∙ returns-now (blocks_from 0 p) (at_index end (here i behind)) r ret.0)
        ∙ ap outcomes.Returned (zero_is ∙ ap nonzero_flag (sym value))

    -- a block that goes on
    going-case : (r : ℕ) → IsGoing op → Further n → length p ≤ i + suc n → 20 * n ≤ r → Answers (suc n) i (more (straight_code op b.k) (suc (suc r))) regs
    going-case r going further long enough =
        let code = blocks_from 0 p in
        let six : ℕ = slice_index behind 6 in
        let to : LeadsInside (length p) i b op = leads (length p) i b op inside fine last-of going in
        let g = goes packet (value_from p packet n) i (slice_index regs 1) b op six going (tested-is m op b.k regs good.widths.k ready.count) in
        let short = straight_code-short op b.k in
        let stands_here : Stands code end (branch_pair end (taken_index i b op) (passed_index i b op)) = subst (Stands code end)
        (end_code-going end i b op going) stands-end_code in
        let a_is : slice_index behind 1 ≡ next_a packet op b.k (slice_index regs 1) = left.a in
        let near_room : end + 2 ≤ 20 * passed_index i b op = let o = to.over in omega (arith, end-is, short, o) in
        let far_room : end + 1 ≤ 20 * taken_index i b op = let o = to.on in omega (arith, end-is, short, o) in
        elim (cases_Bool (eqb six 0)) [
          | inl e ↦
              ap (λ o. o.0) (up (suc (suc r))
              ∙ branch-passes code (at_index end (here i behind)) r (taken_index i b op) (passed_index i b op) stands_here near_room (eqb-true six 0 e))
              ∙ further (passed_index i b op) r behind behind-ready to.near (let o = to.over in omega (arith, long, o)) enough
              ∙ ap (λ v. outcomes.Returned (nonzero_flag v)) (ap (value_from p packet n (passed_index i b op)) a_is ∙ sym (g.clear (eqb-true six 0 e))
              ∙ sym value-is)
          | inr e ↦
              ap (λ o. o.0) (up (suc (suc r))
              ∙ branch-taken_index code (at_index end (here i behind)) r (taken_index i b op) (passed_index i b op) stands_here far_room e)
              ∙ further (taken_index i b op) (suc r) behind behind-ready to.far (let o = to.on in omega (arith, long, o)) (omega (arith, enough))
              ∙ ap (λ v. outcomes.Returned (nonzero_flag v)) (ap (value_from p packet n (taken_index i b op)) a_is ∙ sym (g.some e) ∙ sym value-is)
        ]

  no_insn : Bpf
  no_insn = record { code = 0; jt = 0; jf = 0; k = 0 }

  by-op : (n i : ℕ) (regs : List ℕ) → AreReady regs → i < length p → length p ≤ i + suc n → Further n
      → (b : Bpf) (at : slice_get p i ≡ Some b) (good : IsSoundAt (length p) i b) (op : BpfOp) → good.op ≡ op → (r : ℕ) → 20 * n ≤ r
      → Answers (suc n) i (more (straight_code good.op b.k) (suc (suc r))) regs
  by-op n i regs ready inside long further b at good ops.Ret e r room = return-case n i b good.op regs ready at good good.op_is good.bounds inside
      good.last (suc r) e
  by-op n i regs ready inside long further b at good ops.RetA e r room = return_a-case n i b good.op regs ready at good good.op_is good.bounds inside
      good.last (suc r) e
  by-op n i regs ready inside long further b at good ops.Ld e r room = going-case n i b good.op regs ready at good good.op_is good.bounds inside
      good.last r (subst IsGoing (sym e) tt) further long room
  by-op n i regs ready inside long further b at good ops.Ldh e r room = going-case n i b good.op regs ready at good good.op_is good.bounds inside
      good.last r (subst IsGoing (sym e) tt) further long room
  by-op n i regs ready inside long further b at good ops.Ldb e r room = going-case n i b good.op regs ready at good good.op_is good.bounds inside
      good.last r (subst IsGoing (sym e) tt) further long room
  by-op n i regs ready inside long further b at good ops.LdImm e r room = going-case n i b good.op regs ready at good good.op_is good.bounds inside
      good.last r (subst IsGoing (sym e) tt) further long room
  by-op n i regs ready inside long further b at good ops.Add e r room = going-case n i b good.op regs ready at good good.op_is good.bounds inside
      good.last r (subst IsGoing (sym e) tt) further long room
  by-op n i regs ready inside long further b at good ops.Or e r room = going-case n i b good.op regs ready at good good.op_is good.bounds inside
      good.last r (subst IsGoing (sym e) tt) further long room
  by-op n i regs ready inside long further b at good ops.And e r room = going-case n i b good.op regs ready at good good.op_is good.bounds inside
      good.last r (subst IsGoing (sym e) tt) further long room
  by-op n i regs ready inside long further b at good ops.Rsh e r room = going-case n i b good.op regs ready at good good.op_is good.bounds inside
      good.last r (subst IsGoing (sym e) tt) further long room
  by-op n i regs ready inside long further b at good ops.Ja e r room = going-case n i b good.op regs ready at good good.op_is good.bounds inside
      good.last r (subst IsGoing (sym e) tt) further long room
  by-op n i regs ready inside long further b at good
      (ops.Jump t) e r room = going-case n i b good.op regs ready at good good.op_is good.bounds inside good.last r
      (subst IsGoing (sym e) tt) further long room

  answers : (n : ℕ) → Further n
  answers zero i budget regs ready inside long enough = absurd (omega (arith, inside, long))
  answers (suc n) i budget regs ready inside long enough =
      let b : Bpf = get_or p i no_insn in
      let at : slice_get p i ≡ Some b = slice_get-get_or p i no_insn inside in
      let good : IsSoundAt (length p) i b = program.each i b at in
      let l = straight_code good.op b.k in
      let short = straight_code-short good.op b.k in
      let r : ℕ = budget - (length l + 2) in
      let count = more-is l (suc (suc r)) in
      let whole : more l (suc (suc r)) ≡ budget = omega (arith, count, short, enough) in
      let room : 20 * n ≤ r = omega (arith, short, enough) in
      subst (λ k. Answers (suc n) i k regs) whole (by-op n i regs ready inside long (answers n) b at good good.op refl r room)

  -- from the first word, with A = 0
  pub program-answers : (budget : ℕ) (regs : List ℕ) → length regs ≡ 31 → slice_index regs 1 ≡ 0 → slice_index regs 16 ≡ x → 20 * length p ≤ budget →
      (run_of (bpf_code p) budget (record { index = 0; regs = regs; memory = m; rights = rights })).0 ≡ outcomes.Returned (nonzero_flag (bpf_value p packet))
  unfolding bpf_code bpf_value
  program-answers budget regs count zero_a base enough =
      answers (length p) 0 budget regs (record { count = count; small = let z = zero_a in omega (arith, z); base = base }) program.some (omega arith) enough
      ∙ ap (λ a. outcomes.Returned (nonzero_flag (value_from p packet (length p) 0 a))) zero_a
