-- States of the machine, its steps and its runs, with a test at each access.
-- Alpha Architecture Handbook, the instruction descriptions.
use Rattle.std.specs.Prelude.{ℕ, zero, suc, ◌+◌, ◌%◌, ◌^◌, Bool, true, not, if◌then◌else◌, List, slice_get, slice_index, Option, Some, None, bit_and, ℤ, ◌-◌}
use Rattle.std.specs.Int.{cast_unsigned, w64}
use Rattle.word_ops.specs.Words.{word_of, test_of}
use Rattle.word_ops.specs.Memory.{Memory, read, write, IsMemory}
use Rattle.word_ops.specs.Rights.{Rights, IsRights, allowed}
use Rattle.word_ops.specs.Registers.{read_reg, write_reg, AreRegs}
use Rattle.alpha_words.specs.declared.insn.Rhs.{Rhs}
use Rattle.alpha_words.specs.declared.insn.Rhs.TheVariants.{Reg, Lit}
use Rattle.alpha_words.specs.declared.conditions.Cond.{Cond}
use Rattle.alpha_words.specs.declared.conditions.Tested.{Tested}
use Rattle.alpha_words.specs.declared.conditions.Tested.TheVariants.{Word, LowBit}
use Rattle.alpha_words.specs.Conditions.{cond_tested, cond_relation, cond_taken}
use Rattle.alpha_words.specs.declared.insn.Insn.{Insn}
use Rattle.alpha_cfg.specs.Actions.{Computed, Sum, Applied, Test, Always, When, Action, action_of}
use Rattle.alpha_cfg.specs.Actions as actions
use Rattle.alpha_cfg.specs.Flow.{jump_of}
use Rattle.alpha_cfg.specs.declared.outcome.Kind.{Kind}
use Rattle.alpha_cfg.specs.declared.outcome.Kind.TheVariants.{Load, Store}
use Rattle.alpha_cfg.specs.declared.outcome.Step.{Step}
use Rattle.alpha_cfg.specs.declared.outcome.Step.TheVariants as steps
use Rattle.alpha_cfg.specs.declared.outcome.Outcome.{Outcome}
use Rattle.alpha_cfg.specs.declared.outcome.Outcome.TheVariants as outcomes

-- an index, the words of registers 0 to 30, a memory, and what may be loaded and stored
pub record State : Type 0 where
  pub index : ℕ
  pub regs : List ℕ
  pub memory : Memory
  pub rights : Rights

-- The parts of a state are words, and its spans are aligned. Its index is said apart.
pub record IsState (s : State) : Type 0 where
  pub regs : AreRegs s.regs
  pub memory : IsMemory s.memory
  pub rights : IsRights s.rights

-- the second operand
abbrev pub rhs_word : List ℕ → Rhs → ℕ
rhs_word regs (Reg rb) = read_reg regs rb
rhs_word regs (Lit n) = n

-- the sum of a register and a sign-extended displacement
abbrev pub address_of : List ℕ → ℕ → ℤ → ℕ
address_of regs rb disp = (read_reg regs rb + cast_unsigned w64 disp) % 2 ^ 64

-- the address of the quadword that holds the byte
abbrev pub aligned : ℕ → ℕ
aligned a = a - a % 8

-- what a branch compares with 0
abbrev pub tested_word : Tested → ℕ → ℕ
tested_word Word x = x
tested_word LowBit x = bit_and x 1

-- whether a branch's comparison holds of its register's word
abbrev pub compares : Cond → ℕ → Bool
compares c x = test_of (cond_relation c) (tested_word (cond_tested c) x) 0

-- whether a conditional branch is taken
abbrev pub takes : Cond → ℕ → Bool
takes c x = if cond_taken c then compares c x else not (compares c x)

-- an access goes on to u where it may, and else is blocked and changes nothing
abbrev pub access_outcome : Kind → Bool → ℕ → State → State → Step × State
access_outcome kind may a s u = if may then (steps.Moved, u) else (steps.Blocked s.index kind a, s)

-- the state at an index
abbrev pub state_at : State → Option ℕ → State
state_at s None = s
state_at s (Some j) = record s { index = j }

-- the word that is computed
abbrev pub word_computed : List ℕ → Computed → ℕ
word_computed regs (Sum base disp) = address_of regs base disp
word_computed regs (Applied op left right) = word_of op (read_reg regs left) (rhs_word regs right)

-- whether a branch is taken
abbrev pub passes : List ℕ → Test → Bool
passes regs Always = true
passes regs (When cond reg) = takes cond (read_reg regs reg)

-- what an action answers, and what it makes of s; a branch leads to `jump`
abbrev pub action_outcome : Action → Option ℕ → State → Step × State
action_outcome (actions.Compute to word) jump s = (steps.Moved, record s { index = s.index + 1; regs = write_reg s.regs to (word_computed s.regs word) })
action_outcome (actions.Load to base disp) jump s =
    let a = address_of s.regs base disp in
    access_outcome Load (allowed s.rights.reads a) a s (record s { index = s.index + 1; regs = write_reg s.regs to (read s.memory a) })
action_outcome (actions.LoadAround to base disp) jump s =
    let a = aligned (address_of s.regs base disp) in
    access_outcome Load (allowed s.rights.reads a) a s (record s { index = s.index + 1; regs = write_reg s.regs to (read s.memory a) })
action_outcome (actions.Store from base disp) jump s =
    let a = address_of s.regs base disp in
    access_outcome Store (allowed s.rights.writes a) a s (record s { index = s.index + 1; memory = write s.memory a (read_reg s.regs from) })
action_outcome (actions.Branching test) jump s = (steps.Moved, state_at s (if passes s.regs test then jump else Some (s.index + 1)))
action_outcome actions.Return jump s = (steps.Returned, s)

-- what the instruction answers, and what it makes of s
abbrev pub insn_outcome : Insn → State → Step × State
insn_outcome insn s = action_outcome (action_of insn) (jump_of s.index insn) s

-- what is done at an index; outside the code there is no instruction, so a step there is a bad end, as a blocked access is
abbrev pub step_at : Option Insn → State → Step × State
step_at None s = (steps.Blocked s.index Load 0, s)
step_at (Some insn) s = insn_outcome insn s

-- one step of the code
abbrev pub step_of : List Insn → State → Step × State
step_of code s = step_at (slice_get code s.index) s

-- the run that begins with a step, and goes on where it moved; the word of a return is that of register 0
abbrev pub ends_with : Step → State → Outcome × State → Outcome × State
ends_with steps.Moved u on = on
ends_with steps.Returned u on = (outcomes.Returned (slice_index u.regs 0), u)
ends_with (steps.Blocked index kind addr) u on = (outcomes.Blocked index kind addr, u)

-- a run of at most so many steps, a return among them
abbrev pub run_of : List Insn → ℕ → State → Outcome × State
run_of code zero s = (outcomes.OutOfSteps, s)
run_of code (suc n) s = let step = step_of code s in ends_with step.0 step.1 (run_of code n step.1)
