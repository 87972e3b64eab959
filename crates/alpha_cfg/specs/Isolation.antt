-- What a run of the machine may change, what it depends on, and runs one behind the other.
use Rattle.std.specs.Prelude.{◌≡◌, ℕ, ◌+◌, true, false, List}
use Rattle.word_ops.specs.Memory.{Memory, read}
use Rattle.word_ops.specs.Rights.{Rights, allowed}
use Rattle.alpha_words.specs.declared.insn.Insn.{Insn}
use Rattle.alpha_cfg.specs.declared.outcome.Outcome.TheVariants as outcomes
use Rattle.alpha_cfg.specs.Machine.{State, run_of}

-- A run changes no address that may not be stored to.
abbrev pub ChangesWritable : List Insn → ℕ → State → Type 0
ChangesWritable code n s = (a : ℕ) → allowed s.rights.writes a ≡ false → read (run_of code n s).1.memory a ≡ read s.memory a

-- memories that read alike at the addresses that may be loaded
abbrev pub LooksAlike : Rights → Memory → Memory → Type 0
LooksAlike rights m l = (a : ℕ) → allowed rights.reads a ≡ true → read m a ≡ read l a

-- The runs from a state, and from the same with another memory, end alike: with one outcome, at one index, with the same
-- registers, and with memories that look alike.
pub record EndsAlike (code : List Insn) (n : ℕ) (s : State) (l : Memory) : Type 0 where
  pub outcome : (run_of code n s).0 ≡ (run_of code n (record s { memory = l })).0
  pub index : (run_of code n s).1.index ≡ (run_of code n (record s { memory = l })).1.index
  pub regs : (run_of code n s).1.regs ≡ (run_of code n (record s { memory = l })).1.regs
  pub memory : LooksAlike s.rights (run_of code n s).1.memory (run_of code n (record s { memory = l })).1.memory

-- A run depends on registers and on what may be loaded, and on nothing else of the memory.
abbrev pub DependsOnReadable : List Insn → ℕ → State → Type 0
DependsOnReadable code n s = (l : Memory) → LooksAlike s.rights s.memory l → EndsAlike code n s l

-- Where a run is out of steps, the run that follows is that of both budgets.
abbrev pub RunsJoin : List Insn → ℕ → ℕ → State → State → Type 0
RunsJoin code n k s t = run_of code n s ≡ (outcomes.OutOfSteps, t) → run_of code k t ≡ run_of code (n + k) s
