-- When a state of the processor agrees with one of the Alpha machine, and that the sequence of an instruction keeps it so.
use Rattle.std.specs.Prelude.{◌≡◌, ℕ, ◌+◌, true, false, List, ◌∷◌, slice_index, Some, All}
use Rattle.word_ops.specs.Memory.{read}
use Rattle.word_ops.specs.Rights.{Rights, IsSpan, in_span, allowed}
use Rattle.word_ops.specs.Registers.{read_reg}
use Rattle.alpha_words.specs.declared.conditions.Cond.{Cond}
use Rattle.alpha_words.specs.declared.insn.Insn.{Insn}
use Rattle.alpha_cfg.specs.declared.outcome.Step.TheVariants.{Moved}
use Rattle.alpha_cfg.specs.Actions.{When, action_of}
use Rattle.alpha_cfg.specs.Flow.{IsInsn}
use Rattle.alpha_cfg.specs.Machine.{State, IsState, insn_outcome, takes}
use Rattle.x86_words.specs.declared.insn.X86Insn.{X86Insn}
use Rattle.x86_machine.specs.declared.flags.Flags.{Flags}
use Rattle.x86_machine.specs.Flags.{cond_holds}
use Rattle.x86_machine.specs.Machine.{X86, IsX86}
use Rattle.native_steps.specs.declared.places.Place.TheVariants.{Register, Slot}
use Rattle.native_steps.specs.Places.{Places, IsSomewhere, ArePlaces, place_at, slot_address, is_callee_saved, FUEL, AREA}
use Rattle.native_steps.specs.Sequences.{ReadsPlaced, insn_code, test_code, branch_cond}
use Rattle.native_steps.specs.Straight.{x86_straight, total_length, IsStraight}

-- What a call lends and what it wants back: the area's address, the fuel that is left, and the registers when it began.
pub record Call : Type 0 where
  pub area : ℕ
  pub fuel : ℕ
  pub registers : List ℕ

-- the area as a span: a quadword for each Alpha register
abbrev pub area_span : Call → ℕ × ℕ
area_span call = (call.area, 31)

-- the rights of the Alpha code, and the area
abbrev pub native_rights : Call → Rights → Rights
native_rights call rights = record { reads = area_span call ∷ rights.reads; writes = area_span call ∷ rights.writes }

-- The area is an aligned span, and the Alpha code may access none of it.
pub record IsLent (call : Call) (rights : Rights) : Type 0 where
  pub span : IsSpan (area_span call)
  pub unread : (a : ℕ) → allowed rights.reads a ≡ true → in_span (area_span call) a ≡ false
  pub unwritten : (a : ℕ) → allowed rights.writes a ≡ true → in_span (area_span call) a ≡ false

-- The states agree: each Alpha register that is somewhere is in its place, memory outside the area is the Alpha machine's, and what the caller wants back is
-- in its register, or in the quadword of the Alpha register that took it. Index and offset are said apart.
pub record Agrees (p : Places) (call : Call) (s : State) (x : X86) : Type 0 where
  pub machine : IsX86 x
  pub rights : x.rights ≡ native_rights call s.rights
  pub area : slice_index x.regs AREA ≡ call.area
  pub fuel : slice_index x.regs FUEL ≡ call.fuel
  pub in_register : (r q : ℕ) → place_at p r ≡ Register q → slice_index x.regs q ≡ slice_index s.regs r
  pub in_slot : (r : ℕ) → place_at p r ≡ Slot → read x.memory (slot_address call.area r) ≡ slice_index s.regs r
  pub saved : (r q : ℕ) → place_at p r ≡ Register q → is_callee_saved q ≡ true
      → read x.memory (slot_address call.area r) ≡ slice_index call.registers q
  pub untouched : (q : ℕ) → is_callee_saved q ≡ true → ((r : ℕ) → place_at p r ≡ Register q → ⊥)
      → slice_index x.regs q ≡ slice_index call.registers q
  pub memory : (a : ℕ) → in_span (area_span call) a ≡ false → read x.memory a ≡ read s.memory a

-- The instructions are done one after the other, and then the states agree.
pub record EndsInAgreement (p : Places) (call : Call) (code : List X86Insn) (x : X86) (s : State) : Type 0 where
  pub end : X86
  pub runs : x86_straight code x ≡ Some end
  pub at : end.at ≡ x.at + total_length code
  pub agrees : Agrees p call s end

-- The test is done, the states still agree, and the flags say whether the branch is taken.
pub record DecidesBranch (p : Places) (call : Call) (cond : Cond) (r : ℕ) (x : X86) (s : State) : Type 0 where
  pub comes : EndsInAgreement p call (test_code p (When cond r)) x s
  pub flags : Flags
  pub set : comes.end.flags ≡ Some flags
  pub says : cond_holds (branch_cond cond) flags ≡ takes cond (read_reg s.regs r)

-- From states that agree, the sequence of an instruction that isn't blocked comes to what the instruction makes of the Alpha state.
abbrev pub SimulatesInsn : Type 0
SimulatesInsn = (p : Places) (call : Call) (insn : Insn) (s t : State) (x : X86) → ArePlaces p → IsInsn insn → ReadsPlaced p (action_of insn) → IsState s
    → IsLent call s.rights → Agrees p call s x → insn_outcome insn s ≡ (Moved, t) → EndsInAgreement p call (insn_code p insn) x t

-- From states that agree, the test of a branch decides it.
abbrev pub Tests : Type 0
Tests = (p : Places) (call : Call) (cond : Cond) (r : ℕ) (s : State) (x : X86) → ArePlaces p → IsSomewhere p r → IsState s
    → IsLent call s.rights → Agrees p call s x → DecidesBranch p call cond r x s

-- The sequence of an instruction has bytes, and no jumps.
abbrev pub StraightInsns : Type 0
StraightInsns = (p : Places) (insn : Insn) → ArePlaces p → IsInsn insn → All IsStraight (insn_code p insn)
