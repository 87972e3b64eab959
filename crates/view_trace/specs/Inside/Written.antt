-- The one register that a step may change.
use Rattle.std.specs.Prelude.{ℕ, ◌==◌, if◌then◌else◌, List, []}
use Rattle.alpha_words.specs.declared.memory.MemoryKind.{MemoryKind}
use Rattle.alpha_words.specs.declared.memory.MemoryKind.TheVariants.{Store}
use Rattle.alpha_cfg.specs.Actions.{Action}
use Rattle.alpha_cfg.specs.Actions as actions
use Rattle.view_trace.specs.Changes.{word_text}

-- the register that an action writes; register 31, where it writes none
abbrev pub register_written : Action → ℕ
register_written (actions.Compute to word) = to
register_written (actions.Load to base disp) = to
register_written (actions.LoadAround to base disp) = to
register_written action = 31

-- the register that an instruction of the memory format writes, by what it does with its first one
abbrev pub memory_written : MemoryKind → ℕ → ℕ
memory_written Store ra = 31
memory_written kind ra = ra

-- a register's new word, where it isn't the one before
abbrev pub word_change : ℕ → ℕ → ℕ → List ℕ
word_change r before after = if before == after then [] else word_text r after
