-- What it is for annotated code to be safe, and what holds on the way.
use Rattle.std.specs.Prelude.{◌≡◌, ℕ, ◌-◌, ◌<◌, ◌≤◌, ◌^◌, Bool, List, [], length, map, Option, Some, None}
use Rattle.alpha_words.specs.declared.insn.Insn.{Insn}
use Rattle.alpha_cfg.specs.Flow.{IsCode}
use Rattle.alpha_cfg.specs.Cuts.{IsCut, AreFlags}
use Rattle.alpha_cfg.specs.Machine.{State, IsState, run_of}
use Rattle.alpha_cfg.specs.declared.outcome.Step.{Step}
use Rattle.alpha_cfg.specs.declared.outcome.Step.TheVariants as steps
use Rattle.alpha_cfg.specs.declared.outcome.Outcome.{Outcome}
use Rattle.alpha_cfg.specs.declared.outcome.Outcome.TheVariants as outcomes
use Rattle.formula_tree.specs.Formulas.{Form}
use Rattle.formula_tree.specs.Scope.{IsOver}
use Rattle.formula_tree.specs.Truth.{IsTrueIn}
use Rattle.policy_set.specs.Satisfies.{Satisfies}
use Rattle.vcgen.specs.Variables.{HasVarsBelow}
use Rattle.vcgen.specs.Conditions.{AnnotatedCode, invariant_at, wp}

-- the bound, if there is one, is a word
abbrev pub IsBound : Option ℕ → Type 0
IsBound None = Unit {0}
IsBound (Some bound) = bound < 2 ^ 64

-- Code that its annotated indices cut, whose formulas have no free variable; what holds at its start and end says nothing of the steps that are left.
pub record IsAnnotated (c : AnnotatedCode) : Type 0 where
  pub code : IsCode c.code
  pub invs : (i : ℕ) (F : Form) → invariant_at c.invs i ≡ Some F → HasVarsBelow 0 F
  pub pre : IsOver 32 c.pre []
  pub post : IsOver 32 c.post []
  pub bound : IsBound c.bound
  pub marks : List Bool
  pub flags : AreFlags (map (λ p. p.0) c.invs) (length c.code) marks
  pub cut : IsCut c.code marks

-- no access was blocked, and the state that was returned in satisfies the formula
abbrev pub IsGoodEnd : Form → Outcome × State → Type 0
IsGoodEnd post (outcomes.OutOfSteps, t) = Unit {0}
IsGoodEnd post (outcomes.Returned word, t) = Satisfies t.rights t.regs t.memory post
IsGoodEnd post (outcomes.Blocked index kind addr, t) = ⊥

-- From each state at index 0 that satisfies the precondition, under its rights, whatever they are: no run is blocked, and a return satisfies the postcondition.
abbrev pub IsSafe : List Insn → Form → Form → Type 0
IsSafe code pre post = (s : State) → IsState s → s.index ≡ 0 → Satisfies s.rights s.regs s.memory pre → (n : ℕ) → IsGoodEnd post (run_of code n s)

-- a run that ended by a return
abbrev pub IsReturn : Outcome → Type 0
IsReturn outcomes.OutOfSteps = ⊥
IsReturn (outcomes.Returned word) = Unit {0}
IsReturn (outcomes.Blocked index kind addr) = ⊥

-- from each such state a run with a budget of at least the bound ends by a return
abbrev pub ReturnsWithin : ℕ → List Insn → Form → Type 0
ReturnsWithin bound code pre = (s : State) → IsState s → s.index ≡ 0 → Satisfies s.rights s.regs s.memory pre → (n : ℕ) → bound ≤ n → IsReturn (run_of code n s).0

-- ---- on the way

-- a number of steps that may be left: a word, and 0 where they aren't counted
abbrev pub IsStepCount : Option ℕ → ℕ → Type 0
IsStepCount None left = left ≡ 0
IsStepCount (Some bound) left = left < 2 ^ 64

-- What has to hold at the state's index is true under its rights, registers and memory, so many steps being left.
pub record Holds (c : AnnotatedCode) (s : State) (left : ℕ) : Type 0 where
  pub within : s.index < length c.code
  pub state : IsState s
  pub few : IsStepCount c.bound left
  pub here : IsTrueIn s.rights (wp c s.index) (record { regs = s.regs; memory = s.memory; left = left }) []

-- the steps that are left at the start; where they aren't counted, that is 0 throughout
abbrev pub all_steps : Option ℕ → ℕ
all_steps None = 0
all_steps (Some bound) = bound

-- the steps that are left after n more
abbrev pub steps_after : Option ℕ → ℕ → ℕ → ℕ
steps_after None n left = left
steps_after (Some bound) n left = left - n

-- A step from a state at which it holds: it holds again after it moved, under the same rights; a return satisfies the postcondition; no access is blocked.
abbrev pub IsGoodStep : AnnotatedCode → State → ℕ → Step × State → Type 0
IsGoodStep c s left (steps.Moved, t) = Holds c t (steps_after c.bound 1 left) × (t.rights ≡ s.rights)
IsGoodStep c s left (steps.Returned, t) = Satisfies t.rights t.regs t.memory c.post
IsGoodStep c s left (steps.Blocked index kind addr, t) = ⊥

-- the same of a run: what is left after it is out of steps
abbrev pub IsGoodRun : AnnotatedCode → State → ℕ → ℕ → Outcome × State → Type 0
IsGoodRun c s n left (outcomes.OutOfSteps, t) = Holds c t (steps_after c.bound n left) × (t.rights ≡ s.rights)
IsGoodRun c s n left (outcomes.Returned word, t) = Satisfies t.rights t.regs t.memory c.post
IsGoodRun c s n left (outcomes.Blocked index kind addr, t) = ⊥
