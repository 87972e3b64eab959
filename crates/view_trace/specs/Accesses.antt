-- What a step asks of memory, and how a line shows it.
use Rattle.std.specs.Prelude.{ℕ, List, [], ◌++◌, codes}
use Rattle.word_ops.specs.Registers.{read_reg}
use Rattle.alpha_cfg.specs.Actions.{Action}
use Rattle.alpha_cfg.specs.Actions as actions
use Rattle.alpha_cfg.specs.Machine.{address_of, aligned}
use Rattle.alpha_cfg.specs.declared.outcome.Step.{Step}
use Rattle.alpha_cfg.specs.declared.outcome.Step.TheVariants.{Moved}
use Rattle.pcc_lines.specs.Line.{hex_digits}
use Rattle.view_trace.specs.declared.accesses.Access.{Access}
use Rattle.view_trace.specs.declared.accesses.Access.TheVariants.{Nothing, Loads, Stores}

-- what an action asks: nothing, the word at an address, or that a word stands at one
abbrev pub action_access : List ℕ → Action → Access
action_access regs (actions.Load to base disp) = Loads (address_of regs base disp)
action_access regs (actions.LoadAround to base disp) = Loads (aligned (address_of regs base disp))
action_access regs (actions.Store from base disp) = Stores (address_of regs base disp) (read_reg regs from)
action_access regs action = Nothing

-- the kind and the address, blocked or not, and behind them the word of a store that is made
abbrev pub access_text : Access → Step → List ℕ
access_text Nothing step = []
access_text (Loads a) step = codes " load " ++ hex_digits 16 a
access_text (Stores a word) Moved = codes " store " ++ hex_digits 16 a ++ codes "=" ++ hex_digits 16 word
access_text (Stores a word) step = codes " store " ++ hex_digits 16 a
