-- Agents that take turns in one memory, the arena, each in a part of its own.
use Rattle.std.specs.Prelude.{◌≡◌, ℕ, suc, ◌+◌, ◌*◌, ◌≤◌, Bool, true, ◌&&◌, nat_le, nat_lt, List, [], ◌∷◌, slice_get, slice_set, Option, Some, None, option_map, Contains}
use Rattle.word_ops.specs.Memory.{Memory, read}
use Rattle.word_ops.specs.Rights.{Rights, allowed}
use Rattle.alpha_turns.specs.declared.turns.Turn.{Turn}
use Rattle.alpha_turns.specs.Turns.{Agent, run_on, budget_of}

-- the arena and the agents; of an agent's state all but the memory counts
pub record World : Type 0 where
  pub arena : Memory
  pub agents : List Agent

-- the agent with the arena as its memory
abbrev pub in_arena : Memory → Agent → Agent
in_arena arena agent = record { code = agent.code; state = record agent.state { memory = arena }; outcome = agent.outcome }

-- the world as this agent's run leaves it: what the agent's memory is then, is the arena
abbrev pub with_run_in : Turn → World → Option Agent → World
with_run_in turn world None = world
with_run_in turn world (Some agent) =
    let ran : Agent = run_on turn.budget (in_arena world.arena agent) in
    record { arena = ran.state.memory; agents = slice_set world.agents turn.agent ran }

-- the world after a turn
abbrev pub turn_in : Turn → World → World
turn_in turn world = with_run_in turn world (slice_get world.agents turn.agent)

-- the world after turns in their order
abbrev pub turns_in : List Turn → World → World
turns_in [] world = world
turns_in (turn ∷ turns) world = turns_in turns (turn_in turn world)

-- memories that read alike at each address of a part
abbrev pub LooksAlikeIn : (ℕ → Bool) → Memory → Memory → Type 0
LooksAlikeIn part m l = (a : ℕ) → part a ≡ true → read m a ≡ read l a

-- each address is in one agent's part at most
abbrev pub AreApart : (ℕ → ℕ → Bool) → Type 0
AreApart part = (i j a : ℕ) → part i a ≡ true → part j a ≡ true → i ≡ j

-- what the rights allow lies in the part
pub record LieIn (part : ℕ → Bool) (rights : Rights) : Type 0 where
  pub reads : (a : ℕ) → allowed rights.reads a ≡ true → part a ≡ true
  pub writes : (a : ℕ) → allowed rights.writes a ≡ true → part a ≡ true

-- An agent of the arena is as one alone: the same but for memory, and the arena reads in the part as the other's memory.
pub record IsAsAlone (part : ℕ → Bool) (arena : Memory) (shared alone : Agent) : Type 0 where
  pub same : in_arena arena shared ≡ in_arena arena alone
  pub looks : LooksAlikeIn part arena alone.state.memory
  pub lie : LieIn part alone.state.rights

-- so are both, or neither is there
abbrev pub AreBothAlone : (ℕ → Bool) → Memory → Option Agent → Option Agent → Type 0
AreBothAlone part arena None None = Unit {0}
AreBothAlone part arena (Some shared) None = ⊥
AreBothAlone part arena None (Some alone) = ⊥
AreBothAlone part arena (Some shared) (Some alone) = IsAsAlone part arena shared alone

-- each agent of the world is as the one alone
abbrev pub AreAsAlone : (ℕ → ℕ → Bool) → World → List Agent → Type 0
AreAsAlone part world alone = (i : ℕ) → AreBothAlone (part i) world.arena (slice_get world.agents i) (slice_get alone i)

-- the rights of each agent lie in its part
abbrev pub LieInParts : (ℕ → ℕ → Bool) → List Agent → Type 0
LieInParts part agents = (i : ℕ) (agent : Agent) → slice_get agents i ≡ Some agent → LieIn (part i) agent.state.rights

-- After turns agent i is where one run alone takes it, from the arena as it was, with the sum of its own budgets.
abbrev pub IsWhereAlone : (ℕ → ℕ → Bool) → List Turn → World → ℕ → Type 0
IsWhereAlone part turns world i =
    AreBothAlone (part i) (turns_in turns world).arena (slice_get (turns_in turns world).agents i)
    (option_map (λ agent. run_on (budget_of i turns) (in_arena world.arena agent)) (slice_get world.agents i))

-- parts of one size, one behind the other from a base on
abbrev pub part_from : ℕ → ℕ → ℕ → ℕ → Bool
part_from base size i a = nat_le (base + size * i) a && nat_lt a (base + size * suc i)

-- the spans lie between two addresses
abbrev pub LieBetween : ℕ → ℕ → List (ℕ × ℕ) → Type 0
LieBetween low high spans = (span : ℕ × ℕ) → Contains spans span → (low ≤ span.0) × (span.0 + 8 * span.1 ≤ high)
