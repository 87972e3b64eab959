-- What a call of native code does, beside what the Alpha code does.
-- System V Application Binary Interface, AMD64 Architecture Processor Supplement, section 3.2.3, "Parameter Passing".
use Rattle.std.specs.Prelude.{◌≡◌, ℕ, ◌-◌, ◌<◌, ◌≤◌, Bool, true, false, List, slice_get, slice_index, Some}
use Rattle.word_ops.specs.Memory.{read}
use Rattle.word_ops.specs.Rights.{in_span}
use Rattle.word_ops.specs.Registers.{read_reg}
use Rattle.alpha_words.specs.declared.conditions.Cond.{Cond}
use Rattle.alpha_words.specs.declared.insn.Insn.{Insn}
use Rattle.alpha_cfg.specs.declared.outcome.Outcome.{Outcome}
use Rattle.alpha_cfg.specs.declared.outcome.Outcome.TheVariants.{OutOfSteps, Returned, Blocked}
use Rattle.alpha_cfg.specs.Actions.{When, Branching, action_of}
use Rattle.alpha_cfg.specs.Flow.{IsCode}
use Rattle.alpha_cfg.specs.Machine.{State, IsState, takes, run_of}
use Rattle.x86_words.specs.declared.operators.X86Cond.{X86Cond}
use Rattle.x86_machine.specs.declared.flags.Flags.{Flags}
use Rattle.x86_machine.specs.Flags.{cond_holds}
use Rattle.x86_machine.specs.declared.outcome.X86Outcome.TheVariants as outcomes
use Rattle.x86_machine.specs.Machine.{X86, IsX86, x86_run}
use Rattle.native_steps.specs.Places.{Places, ArePlaces, is_callee_saved, RAX, RCX, FUEL}
use Rattle.native_steps.specs.Sequences.{ReadsPlaced}
use Rattle.native_steps.specs.Agreement.{Call, area_span, native_rights, IsLent, Agrees}
use Rattle.native_code.specs.declared.insn.Form.{Form}
use Rattle.native_code.specs.declared.insn.Form.TheVariants.{Whole, Compare, Joined, Gone}
use Rattle.native_code.specs.Heads.{arrivals, fuel_of}
use Rattle.native_code.specs.Lives.{Lean, form_at, IsLean}
use Rattle.native_code.specs.Blocks.{is_argument, RDX, RSI, RDI}
use Rattle.native_code.specs.Layout.{offset_of, native_text}

-- whether native code reads what an instruction of this form reads
abbrev pub reads_operands : Form → Bool
reads_operands Whole = true
reads_operands Compare = true
reads_operands _ = false

-- Lawful places, one for each register that native code reads.
pub record ArePlacesOf (p : Places) (lean : Lean) (code : List Insn) : Type 0 where
  pub places : ArePlaces p
  pub reads : (i : ℕ) (insn : Insn) → slice_get code i ≡ Some insn → reads_operands (form_at lean i) ≡ true → ReadsPlaced p (action_of insn)

-- The call passes r16, r17, r18, the area's address and the fuel in registers; all other Alpha registers are 0. Memory outside the area and rights are the
-- Alpha machine's.
pub record IsCall (call : Call) (s : State) (x : X86) : Type 0 where
  pub machine : IsX86 x
  pub start : s.index ≡ 0
  pub at : x.at ≡ 0
  pub first : slice_index s.regs 16 ≡ slice_index x.regs RDI
  pub second : slice_index s.regs 17 ≡ slice_index x.regs RSI
  pub third : slice_index s.regs 18 ≡ slice_index x.regs RDX
  pub others : (r : ℕ) → is_argument r ≡ false → slice_index s.regs r ≡ 0
  pub area : slice_index x.regs RCX ≡ call.area
  pub fuel : slice_index x.regs FUEL ≡ call.fuel
  pub registers : (q : ℕ) → slice_index x.regs q ≡ slice_index call.registers q
  pub rights : x.rights ≡ native_rights call s.rights
  pub memory : (a : ℕ) → in_span (area_span call) a ≡ false → read x.memory a ≡ read s.memory a

-- the call after so many units of fuel are spent
abbrev pub spend : Call → ℕ → Call
spend call n = record call { fuel = call.fuel - n }

-- The end of a call: a word in rax, in rdx why it ended; memory outside the area is the Alpha machine's, and the caller's registers are as they were.
pub record IsCallEnd (call : Call) (word why : ℕ) (s : State) (y : X86) : Type 0 where
  pub word_is : slice_index y.regs RAX ≡ word
  pub why_is : slice_index y.regs RDX ≡ why
  pub kept : (q : ℕ) → is_callee_saved q ≡ true → slice_index y.regs q ≡ slice_index call.registers q
  pub memory : (a : ℕ) → in_span (area_span call) a ≡ false → read y.memory a ≡ read s.memory a

-- The states are the same but for registers that are dead.
pub record IsSeen (lean : Lean) (s seen : State) : Type 0 where
  pub index : seen.index ≡ s.index
  pub memory : seen.memory ≡ s.memory
  pub rights : seen.rights ≡ s.rights
  pub state : IsState seen
  pub live : (r : ℕ) → lean.live s.index r ≡ true → slice_index seen.regs r ≡ slice_index s.regs r

-- The flags say whether the branch at the state's index will be taken.
pub record FlagsDecide (jump : X86Cond) (code : List Insn) (s : State) (x : X86) : Type 0 where
  pub flags : Flags
  pub set : x.flags ≡ Some flags
  pub says : (insn : Insn) (cond : Cond) (r : ℕ) → slice_get code s.index ≡ Some insn → action_of insn ≡ Branching (When cond r)
      → cond_holds jump flags ≡ takes cond (read_reg s.regs r)

-- What holds where a run comes to an index of this form: it isn't left out, and if it is a branch that is joined, the flags decide it.
abbrev pub IsPrepared : Form → List Insn → State → X86 → Type 0
IsPrepared (Joined jump) code s x = FlagsDecide jump code s x
IsPrepared Gone code s x = ⊥
IsPrepared _ code s x = Unit {0}

module _ (p : Places) (lean : Lean) (metered : Bool) (code : List Insn) where
  -- At the block of the Alpha state's index, and in agreement but for registers that are dead.
  pub record AgreesAt (call : Call) (s : State) (x : X86) : Type 0 where
    pub at : x.at ≡ offset_of p lean metered code s.index
    pub seen : State
    pub same : IsSeen lean s seen
    pub agrees : Agrees p call seen x
    pub ready : IsPrepared (form_at lean s.index) code s x

  -- Some number of steps leads to a state that agrees.
  pub record Comes (call : Call) (s : State) (x : X86) : Type 0 where
    pub count : ℕ
    pub end : X86
    pub runs : x86_run (native_text p lean metered code) count x ≡ (outcomes.OutOfSteps, end)
    pub agrees : AgreesAt call s end

  -- Some number of steps ends the call.
  pub record Leaves (call : Call) (word why : ℕ) (s : State) (x : X86) : Type 0 where
    pub count : ℕ
    pub end : X86
    pub left : x86_run (native_text p lean metered code) count x ≡ (outcomes.Left, end)
    pub returns : IsCallEnd call word why s end

  -- What native code does where the Alpha run has this outcome, in this state, for this fuel.
  abbrev pub Follows : Call → ℕ → Outcome × State → X86 → Type 0
  Follows call fuel (OutOfSteps, t) x = Comes (spend call fuel) t x
  Follows call fuel (Returned word, t) x = Leaves call word 0 t x
  Follows call fuel (Blocked index kind addr, t) x = Unit {0}

-- Every call comes to the first block, in agreement with the Alpha state at index 0.
abbrev pub Called : Type 0
Called = (p : Places) (lean : Lean) (metered : Bool) (code : List Insn) (call : Call) (s : State) (x : X86) → IsCode code → IsLean lean code
    → ArePlacesOf p lean code → IsState s → IsLent call s.rights → IsCall call s x → Comes p lean metered code call s x

-- From states that agree, native code follows every Alpha run for which the fuel is enough: after so many steps there are states that agree; where the run
-- returned, the call has ended with its word.
abbrev pub SimulatesRuns : Type 0
SimulatesRuns = (p : Places) (lean : Lean) (metered : Bool) (code : List Insn) (call : Call) (n : ℕ) (s : State) (x : X86) → IsCode code
    → IsLean lean code → ArePlacesOf p lean code → IsState s → IsLent call s.rights → AgreesAt p lean metered code call s x → fuel_of metered code n s ≤ call.fuel
    → Follows p lean metered code call (fuel_of metered code n s) (run_of code n s) x

-- If an Alpha run arrives at more loop heads than there is fuel, the call ends, at one of its states: rax is 0, and rdx is 1.
abbrev pub Spends : Type 0
Spends = (p : Places) (lean : Lean) (code : List Insn) (call : Call) (n : ℕ) (s : State) (x : X86) → IsCode code → IsLean lean code
    → ArePlacesOf p lean code → IsState s → IsLent call s.rights → AgreesAt p lean true code call s x → call.fuel < arrivals code n s
    → (k : ℕ) × (k ≤ n) × Leaves p lean true code call 0 1 (run_of code k s).1 x
