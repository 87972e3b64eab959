-- When a start meets a formula.
use Rattle.std.specs.Prelude.{ℕ}
use Rattle.alpha_cfg.specs.Machine.{State}
use Rattle.reference_machine.specs.declared.layout.TheConstants.{ARENA}
use Rattle.reference_machine.specs.Starts.{StartView, start_state}
use Rattle.formula_tree.specs.Formulas.{Form}
use Rattle.policy_set.specs.Satisfies.{Satisfies}

-- the formula is true under the rights, the registers and the memory of the state at the start, where the arena begins at the base
abbrev pub StartMeetsIn : ℕ → StartView → Form → Type 0
StartMeetsIn base setup F =
    let s : State = start_state base setup in
    Satisfies s.rights s.regs s.memory F

-- the same of an agent that is alone
abbrev pub StartMeets : StartView → Form → Type 0
StartMeets = StartMeetsIn ARENA
