-- Steps and runs that test no access: those of the testing machine where all of the arena may be loaded and stored, as long as none is blocked.
use Rattle.std.specs.Prelude.{ℕ, List, [], ◌∷◌}
use Rattle.word_ops.specs.Rights.{Rights}
use Rattle.alpha_cfg.specs.Machine.{State}
use Rattle.alpha_cfg.specs.declared.outcome.Step.{Step}
use Rattle.alpha_cfg.specs.declared.outcome.Step.TheVariants as steps
use Rattle.alpha_cfg.specs.declared.outcome.Outcome.{Outcome}
use Rattle.alpha_cfg.specs.declared.outcome.Outcome.TheVariants as outcomes
use Rattle.reference_machine.specs.declared.layout.TheConstants.{QUADWORDS}
use Rattle.reference_machine.specs.Arena.{map_of}
use Rattle.host_steps.specs.declared.stepping.Stepped.{Stepped}
use Rattle.host_steps.specs.declared.stepping.Stepped.TheVariants as stepped

-- all of an arena from the base on
abbrev pub arena_rights : ℕ → Rights
arena_rights base = record { reads = (base, QUADWORDS) ∷ []; writes = (base, QUADWORDS) ∷ [] }

-- the state that an index, registers and the arena's words make where all of the arena is allowed
abbrev pub arena_state : ℕ → ℕ → List ℕ → List ℕ → State
arena_state base index regs words = record { index = index; regs = regs; memory = map_of base words; rights = arena_rights base }

-- the step's access wasn't blocked
abbrev pub IsUnblocked : Step → Type 0
IsUnblocked steps.Moved = Unit {0}
IsUnblocked steps.Returned = Unit {0}
IsUnblocked (steps.Blocked index kind addr) = ⊥

-- none of the run's accesses was
abbrev pub EndsUnblocked : Outcome → Type 0
EndsUnblocked outcomes.OutOfSteps = Unit {0}
EndsUnblocked (outcomes.Returned word) = Unit {0}
EndsUnblocked (outcomes.Blocked index kind addr) = ⊥

-- the answer of a step as one of the testing machine's
abbrev pub step_after : Stepped → Step
step_after stepped.Moved = steps.Moved
step_after stepped.Returned = steps.Returned
