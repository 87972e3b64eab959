-- A step keeps a state one, and its index inside the code.
use Rattle.std.proofs.Common.{◌≡◌, ℕ, zero, suc, ◌+◌, ◌^◌, ◌<◌, Bool, true, false, List, length, slice_get, Option, Some, None, IsSome, refl, ◌∙◌, arith, ℤ, pos, negsuc, if◌then◌else◌, subst, sym, neg_ℤ, ◌*◌}
use Rattle.std.proofs.lemmas.Nat.{mod_below}
use Rattle.std.specs.Int.{cast_unsigned, w64}
use Rattle.word_ops.proofs.EachOp.{word_of-below}
use Rattle.word_ops.proofs.Memories.{IsMemory-write, read-below}
use Rattle.word_ops.proofs.RegisterWords.{read_reg-below, AreRegs-write_reg}
use Rattle.word_ops.specs.Memory.{read, write}
use Rattle.word_ops.specs.Rights.{allowed}
use Rattle.word_ops.specs.Registers.{read_reg, write_reg, AreRegs}
use Rattle.alpha_words.specs.declared.insn.Rhs.{Rhs}
use Rattle.alpha_words.specs.declared.insn.Rhs.TheVariants.{Reg, Lit}
use Rattle.alpha_words.specs.declared.insn.Insn.{Insn}
use Rattle.alpha_words.specs.declared.insn.Format.{Format}
use Rattle.alpha_words.specs.declared.insn.Format.TheVariants as F
use Rattle.alpha_words.specs.declared.memory.MemoryOp.{MemoryOp}
use Rattle.alpha_words.specs.declared.memory.MemoryOp.TheVariants.{Lda, Ldah, Ldq, LdqU, Stq}
use Rattle.alpha_words.specs.MemoryOps.{memory_kind}
use Rattle.alpha_words.specs.Formats.{format_of}
use Rattle.alpha_words.specs.Encoding.{IsRhs, HasBits, EncodesFormat}
use Rattle.alpha_words.proofs.Words.{first_register-below}
use Rattle.alpha_words.specs.Lawful.{target_of}
use Rattle.alpha_cfg.specs.Actions.{Computed, Sum, Applied, Always, When, Action, memory_action, format_action, action_of, HasOperands, next_after}
use Rattle.alpha_cfg.specs.Actions as actions
use Rattle.alpha_cfg.specs.Flow.{IsCode, IsInsn, jump_of, next_of}
use Rattle.alpha_cfg.proofs.FreeWalks.{landing_within, next_within}
use Rattle.alpha_cfg.specs.declared.outcome.Kind.{Kind}
use Rattle.alpha_cfg.specs.declared.outcome.Kind.TheVariants.{Load, Store}
use Rattle.alpha_cfg.specs.declared.outcome.Step.{Step}
use Rattle.alpha_cfg.specs.declared.outcome.Step.TheVariants as steps
use Rattle.alpha_cfg.specs.declared.outcome.Outcome.{Outcome}
use Rattle.alpha_cfg.specs.Machine.{State, IsState, rhs_word, address_of, access_outcome, state_at, word_computed, passes, action_outcome, insn_outcome, takes, step_at, step_of, ends_with, run_of, aligned}
use Rattle.std.specs.Prelude.{◌*ℤ◌}

-- a state whose index is below n
pub record IsAt (n : ℕ) (s : State) : Type 0 where
  pub index : s.index < n
  pub state : IsState s

rhs_word-below : (regs : List ℕ) (rhs : Rhs) → AreRegs regs → IsRhs rhs → rhs_word regs rhs < 2 ^ 64
rhs_word-below regs (Reg rb) h is = read_reg-below regs rb h
rhs_word-below regs (Lit n) h is = omega arith

address_of-below : (regs : List ℕ) (rb : ℕ) (disp : ℤ) → address_of regs rb disp < 2 ^ 64
address_of-below regs rb disp = mod_below (read_reg regs rb + cast_unsigned w64 disp) (2 ^ 64) (omega arith)

wider : (z : ℤ) → HasBits 15 z → HasBits 31 z
wider (pos n) h = omega (arith, h)
wider (negsuc n) h = omega (arith, h)

-- a displacement in units of 65,536
far : (z : ℤ) → HasBits 15 z → HasBits 31 (z *ℤ pos 65536)
far (pos n) h = omega (arith, h)
far (negsuc n) h =
    let shown : suc n * 65536 ≡ suc (n * 65536 + 65535) = omega arith in
    let low : n * 65536 + 65535 < 2 ^ 31 = omega (arith, h) in
    subst (λ k. HasBits 31 (neg_ℤ (pos k))) (sym shown) low

-- what a word encodes has operands in their ranges
memory-operands : (op : MemoryOp) (ra rb : ℕ) (disp : ℤ) → ra < 32 → rb < 32 → HasBits 15 disp → HasOperands (memory_action op ra rb disp)
memory-operands Lda ra rb disp a b d = (b, wider disp d)
memory-operands Ldah ra rb disp a b d = (b, far disp d)
memory-operands LdqU ra rb disp a b d = (b, wider disp d)
memory-operands Ldq ra rb disp a b d = (b, wider disp d)
memory-operands Stq ra rb disp a b d = (b, wider disp d, a)

format-operands : (w : ℕ) (f : Format) → EncodesFormat w f → HasOperands (format_action f)
format-operands w (F.Memory op ra rb disp) h = memory-operands op ra rb disp (first_register-below (memory_kind op) ra h.0) h.1 h.2
format-operands w (F.Operate op ra rhs rc) h = (h.0, h.1)
format-operands w (F.Branch cond ra disp) h = h.0
format-operands w (F.Br disp) h = tt
format-operands w F.Ret h = tt

pub action_of-operands : (insn : Insn) → IsInsn insn → HasOperands (action_of insn)
action_of-operands insn h = format-operands h.0 (format_of insn) h.1

word_computed-below : (regs : List ℕ) (to : ℕ) (word : Computed) → AreRegs regs → HasOperands (actions.Compute to word) → word_computed regs word < 2 ^ 64
word_computed-below regs to (Sum base disp) h is = address_of-below regs base disp
word_computed-below regs to (Applied op left right) h is = word_of-below op (read_reg regs left) (rhs_word regs right) (read_reg-below regs left h) (rhs_word-below regs right h is.1)

-- ---- where it goes on

next_after_some : (i : ℕ) (e : Action) → IsSome (next_after i e) → next_after i e ≡ Some (i + 1)
next_after_some i (actions.Branching Always) on = cc
next_after_some i actions.Return on = cc
next_after_some i e on = refl

-- where an instruction goes on, code has one more
pub next_within_some : (code : List Insn) (i : ℕ) (insn : Insn) → IsCode code → slice_get code i ≡ Some insn → IsSome (next_of i insn) → i + 1 < length code
next_within_some code i insn is at on = next_within code is i insn at (i + 1) (next_after_some i (action_of insn) on)

-- ---- a state with other parts

moved : (n : ℕ) (s : State) (j : ℕ) → IsAt n s → j < n → IsAt n (record s { index = j })
moved n s j is lt = record { index = lt; state = record { regs = is.state.regs; memory = is.state.memory; rights = is.state.rights } }

state_at-keeps : (n : ℕ) (s : State) (to : Option ℕ) → IsAt n s → ((j : ℕ) → to ≡ Some j → j < n) → IsAt n (state_at s to)
state_at-keeps n s None is below = is
state_at-keeps n s (Some j) is below = moved n s j is (below j refl)

set_reg-keeps : (n : ℕ) (s : State) (r word : ℕ) → IsAt n s → s.index + 1 < n → word < 2 ^ 64 → IsAt n (record s { index = s.index + 1; regs = write_reg s.regs r word })
set_reg-keeps n s r word is lt w = record { index = lt; state = record { regs = AreRegs-write_reg s.regs r word is.state.regs w; memory = is.state.memory; rights = is.state.rights } }

store-keeps : (n : ℕ) (s : State) (a word : ℕ) → IsAt n s → s.index + 1 < n → a < 2 ^ 64 → word < 2 ^ 64 → IsAt n (record s { index = s.index + 1; memory = write s.memory a word })
store-keeps n s a word is lt p w = record { index = lt; state = record { regs = is.state.regs; memory = IsMemory-write s.memory a word is.state.memory p w; rights = is.state.rights } }

access_outcome-keeps : (n : ℕ) (kind : Kind) (may : Bool) (a : ℕ) (s u : State) → IsAt n s → IsAt n u → IsAt n (access_outcome kind may a s u).1
access_outcome-keeps n kind true a s u is after = after
access_outcome-keeps n kind false a s u is after = is

-- ---- steps and runs

action-keeps : (n : ℕ) (e : Action) (jump : Option ℕ) (s : State) → HasOperands e → (IsSome (next_after s.index e) → s.index + 1 < n) → ((j : ℕ) → jump ≡ Some j → j < n) → IsAt n s →
    IsAt n (action_outcome e jump s).1
action-keeps n (actions.Compute to word) jump s operands on lands is = set_reg-keeps n s to (word_computed s.regs word) is (on refl) (word_computed-below s.regs to word is.state.regs operands)
action-keeps n (actions.Load to base disp) jump s operands on lands is =
    let a = address_of s.regs base disp in
    let u : State = record s { index = s.index + 1; regs = write_reg s.regs to (read s.memory a) } in
    access_outcome-keeps n Load (allowed s.rights.reads a) a s u is (set_reg-keeps n s to (read s.memory a) is (on refl) (read-below s.memory a is.state.memory))
action-keeps n (actions.LoadAround to base disp) jump s operands on lands is =
    let a = aligned (address_of s.regs base disp) in
    let u : State = record s { index = s.index + 1; regs = write_reg s.regs to (read s.memory a) } in
    access_outcome-keeps n Load (allowed s.rights.reads a) a s u is (set_reg-keeps n s to (read s.memory a) is (on refl) (read-below s.memory a is.state.memory))
action-keeps n (actions.Store from base disp) jump s operands on lands is =
    let a = address_of s.regs base disp in
    let word = read_reg s.regs from in
    let u : State = record s { index = s.index + 1; memory = write s.memory a word } in
    access_outcome-keeps n Store (allowed s.rights.writes a) a s u is
    (store-keeps n s a word is (on refl) (address_of-below s.regs base disp) (read_reg-below s.regs from is.state.regs))
action-keeps n (actions.Branching Always) jump s operands on lands is = state_at-keeps n s jump is lands
action-keeps n (actions.Branching (When cond reg)) jump s operands on lands is =
    elim (takes cond (read_reg s.regs reg)) as (λ b. IsAt n (state_at s (if b then jump else Some (s.index + 1)))) [
      | true ↦ state_at-keeps n s jump is lands
      | false ↦ moved n s (s.index + 1) is (on refl)
    ]
action-keeps n actions.Return jump s operands on lands is = is

pub insn_outcome-keeps : (code : List Insn) (insn : Insn) (s : State) → IsCode code → slice_get code s.index ≡ Some insn → IsInsn insn → IsAt (length code) s → IsAt (length code) (insn_outcome insn s).1
insn_outcome-keeps code insn s ok at byte is =
    action-keeps (length code) (action_of insn) (jump_of s.index insn) s (action_of-operands insn byte) (next_within_some code s.index insn ok at)
    (landing_within (length code) (target_of s.index insn) (ok.inside s.index insn at)) is

step_at-keeps : (code : List Insn) (insn : Option Insn) (s : State) → IsCode code → slice_get code s.index ≡ insn → IsAt (length code) s → IsAt (length code) (step_at insn s).1
step_at-keeps code None s ok at is = is
step_at-keeps code (Some insn) s ok at is = insn_outcome-keeps code insn s ok at (ok.encoded s.index insn at) is

pub step_of-keeps : (code : List Insn) (s : State) → IsCode code → IsAt (length code) s → IsAt (length code) (step_of code s).1
step_of-keeps code s ok is = step_at-keeps code (slice_get code s.index) s ok refl is

ends_with-keeps : (n : ℕ) (step : Step) (u : State) (on : Outcome × State) → IsAt n u → IsAt n on.1 → IsAt n (ends_with step u on).1
ends_with-keeps n steps.Moved u on is after = after
ends_with-keeps n steps.Returned u on is after = is
ends_with-keeps n (steps.Blocked index kind addr) u on is after = is

pub run_of-keeps : (code : List Insn) (n : ℕ) (s : State) → IsCode code → IsAt (length code) s → IsAt (length code) (run_of code n s).1
run_of-keeps code zero s ok is = is
run_of-keeps code (suc n) s ok is =
    let u : State = (step_of code s).1 in
    let keeps : IsAt (length code) u = step_of-keeps code s ok is in
    ends_with-keeps (length code) (step_of code s).0 u (run_of code n u) keeps (run_of-keeps code n u ok keeps)

-- ---- rights

access_outcome-rights : (kind : Kind) (may : Bool) (a : ℕ) (s u : State) → u.rights ≡ s.rights → (access_outcome kind may a s u).1.rights ≡ s.rights
access_outcome-rights kind true a s u same = same
access_outcome-rights kind false a s u same = refl

state_at-rights : (s : State) (to : Option ℕ) → (state_at s to).rights ≡ s.rights
state_at-rights s None = refl
state_at-rights s (Some j) = refl

pub action-rights : (e : Action) (jump : Option ℕ) (s : State) → (action_outcome e jump s).1.rights ≡ s.rights
action-rights (actions.Compute to word) jump s = refl
action-rights (actions.Load to base disp) jump s =
    let a = address_of s.regs base disp in
    access_outcome-rights Load (allowed s.rights.reads a) a s (record s { index = s.index + 1; regs = write_reg s.regs to (read s.memory a) }) refl
action-rights (actions.LoadAround to base disp) jump s =
    let a = aligned (address_of s.regs base disp) in
    access_outcome-rights Load (allowed s.rights.reads a) a s (record s { index = s.index + 1; regs = write_reg s.regs to (read s.memory a) }) refl
action-rights (actions.Store from base disp) jump s =
    let a = address_of s.regs base disp in
    access_outcome-rights Store (allowed s.rights.writes a) a s (record s { index = s.index + 1; memory = write s.memory a (read_reg s.regs from) }) refl
action-rights (actions.Branching test) jump s = state_at-rights s (if passes s.regs test then jump else Some (s.index + 1))
action-rights actions.Return jump s = refl

pub insn_outcome-rights : (insn : Insn) (s : State) → (insn_outcome insn s).1.rights ≡ s.rights
insn_outcome-rights insn s = action-rights (action_of insn) (jump_of s.index insn) s

step_at-rights : (insn : Option Insn) (s : State) → (step_at insn s).1.rights ≡ s.rights
step_at-rights None s = refl
step_at-rights (Some insn) s = insn_outcome-rights insn s

ends_with-rights : (step : Step) (u : State) (on : Outcome × State) → on.1.rights ≡ u.rights → (ends_with step u on).1.rights ≡ u.rights
ends_with-rights steps.Moved u on same = same
ends_with-rights steps.Returned u on same = refl
ends_with-rights (steps.Blocked index kind addr) u on same = refl

pub run_of-rights : (code : List Insn) (n : ℕ) (s : State) → (run_of code n s).1.rights ≡ s.rights
run_of-rights code zero s = refl
run_of-rights code (suc n) s =
    let u : State = (step_of code s).1 in
    ends_with-rights (step_of code s).0 u (run_of code n u) (run_of-rights code n u) ∙ step_at-rights (slice_get code s.index) s
