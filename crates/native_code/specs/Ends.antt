-- How calls of native code end, if the Alpha code makes no forbidden access: never stuck, and in so many steps.
use Rattle.std.specs.Prelude.{◌≡◌, ◌↔◌, ◌⊎◌, ℕ, ◌+◌, ◌*◌, ◌<◌, ◌≤◌, Bool, true, false, List, length, slice_index, suc}
use Rattle.alpha_words.specs.declared.insn.Insn.{Insn}
use Rattle.alpha_cfg.specs.declared.outcome.Outcome.{Outcome}
use Rattle.alpha_cfg.specs.declared.outcome.Outcome.TheVariants.{Returned, Blocked}
use Rattle.alpha_cfg.specs.Flow.{IsCode}
use Rattle.alpha_cfg.specs.Machine.{State, IsState, run_of}
use Rattle.x86_machine.specs.declared.outcome.X86Outcome.{X86Outcome}
use Rattle.x86_machine.specs.declared.outcome.X86Outcome.TheVariants as outcomes
use Rattle.x86_machine.specs.Machine.{X86, x86_run}
use Rattle.native_steps.specs.Places.{Places}
use Rattle.native_steps.specs.Agreement.{Call, IsLent}
use Rattle.native_code.specs.Heads.{arrivals, fuel_of}
use Rattle.native_code.specs.Lives.{Lean, IsLean}
use Rattle.native_code.specs.Blocks.{RDX}
use Rattle.native_code.specs.Layout.{native_insns, native_text}
use Rattle.native_code.specs.Calls.{ArePlacesOf, IsCall, IsCallEnd}

-- the outcome of a run in which no access was blocked
abbrev pub IsAllowedRun : Outcome → Type 0
IsAllowedRun (Blocked index kind addr) = ⊥
IsAllowedRun _ = Unit {0}

-- A call that may be made: of code, for lawful places and a right certificate, with an area of its own, for an Alpha state from which no run is blocked.
pub record IsSafeCall (p : Places) (lean : Lean) (code : List Insn) (call : Call) (s : State) (x : X86) : Type 0 where
  pub is_code : IsCode code
  pub lives : IsLean lean code
  pub places : ArePlacesOf p lean code
  pub state : IsState s
  pub lent : IsLent call s.rights
  pub begins : IsCall call s x
  pub allowed : (n : ℕ) → IsAllowedRun (run_of code n s).0

-- It returned as an Alpha run did, for which the fuel was enough.
pub record ReturnsAs (metered : Bool) (code : List Insn) (call : Call) (s : State) (y : X86) : Type 0 where
  pub steps : ℕ
  pub word : ℕ
  pub state : State
  pub run : run_of code steps s ≡ (Returned word, state)
  pub enough : fuel_of metered code steps s ≤ call.fuel
  pub end : IsCallEnd call word 0 state y

-- It ran out of fuel at a state of an Alpha run: rax is 0, and rdx is 1.
pub record RunsOut (metered : Bool) (code : List Insn) (call : Call) (s : State) (y : X86) : Type 0 where
  pub counted : metered ≡ true
  pub steps : ℕ
  pub more : call.fuel < arrivals code (suc steps) s
  pub end : IsCallEnd call 0 1 (run_of code steps s).1 y

-- What a run of native code may come to: it goes on, or it left in one of these two ways. It isn't stuck.
abbrev pub IsSafeEnd : Bool → List Insn → Call → State → X86Outcome × X86 → Type 0
IsSafeEnd metered code call s (outcomes.OutOfSteps, y) = Unit {0}
IsSafeEnd metered code call s (outcomes.Left, y) = ReturnsAs metered code call s y ⊎ RunsOut metered code call s y
IsSafeEnd metered code call s (outcomes.Stuck, y) = ⊥

-- A call that may be made is never stuck, whatever the number of steps: so it accesses only the area, and what the Alpha code may access. If it left, it
-- returned as an Alpha run did, or ran out of fuel.
abbrev pub SafeCalls : Type 0
SafeCalls = (p : Places) (lean : Lean) (metered : Bool) (code : List Insn) (call : Call) (s : State) (x : X86) → IsSafeCall p lean code call s x
    → (n : ℕ) → IsSafeEnd metered code call s (x86_run (native_text p lean metered code) n x)

-- It left within so many steps.
pub record LeavesWithin (text : List ℕ) (most : ℕ) (x : X86) : Type 0 where
  pub count : ℕ
  pub within : count ≤ most
  pub end : X86
  pub left : x86_run text count x ≡ (outcomes.Left, end)

-- It left in time: within as many steps as the text has instructions, for each unit of fuel and twice more. It ran out of fuel exactly if an Alpha run arrives
-- at more loop heads than there are units.
pub record EndsInTime (p : Places) (lean : Lean) (code : List Insn) (call : Call) (s : State) (x : X86) : Type 0 where
  pub leaves : LeavesWithin (native_text p lean true code) ((call.fuel + 2) * length (native_insns p lean true code)) x
  pub out : (slice_index leaves.end.regs RDX ≡ 1) ↔ ((n : ℕ) × (call.fuel < arrivals code n s))

-- A call that may be made ends in time, if fuel is counted.
abbrev pub EndingCalls : Type 0
EndingCalls = (p : Places) (lean : Lean) (code : List Insn) (call : Call) (s : State) (x : X86) → IsSafeCall p lean code call s x
    → EndsInTime p lean code call s x

-- If fuel isn't counted and an Alpha run returns, the call ends within ten steps for each of that run, and a hundred.
abbrev pub ReturningCalls : Type 0
ReturningCalls = (p : Places) (lean : Lean) (code : List Insn) (call : Call) (s t : State) (x : X86) (n word : ℕ) → IsSafeCall p lean code call s x
    → run_of code n s ≡ (Returned word, t) → LeavesWithin (native_text p lean false code) (10 * n + 100) x
