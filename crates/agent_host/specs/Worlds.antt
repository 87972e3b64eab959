-- A host of many agents as a world of alpha_turns: one arena, in which each agent has its part.
use Rattle.std.specs.Prelude.{◌≡◌, ℕ, suc, ◌*◌, Bool, List, [], ◌∷◌, length, map, slice_get, slice_index, Some}
use Rattle.std.specs.List.{concat}
use Rattle.word_ops.specs.Rights.{Rights}
use Rattle.alpha_cfg.specs.declared.outcome.Outcome.{Outcome}
use Rattle.alpha_cfg.specs.declared.outcome.Outcome.TheVariants as outcomes
use Rattle.reference_machine.specs.declared.layout.TheConstants.{ARENA, QUADWORDS}
use Rattle.reference_machine.specs.Arena.{map_of}
use Rattle.reference_machine.specs.Agents.{AreInArena}
use Rattle.alpha_turns.specs.declared.turns.Turn.{Turn}
use Rattle.alpha_turns.specs.Turns.{Agent}
use Rattle.alpha_turns.specs.Parts.{World, turn_in, LooksAlikeIn, AreAsAlone, part_from}
use Rattle.host_steps.specs.Parts.{part_state}
use Rattle.agent_host.specs.declared.phase.Phase.{Phase}
use Rattle.agent_host.specs.declared.phase.Phase.TheVariants as phases
use Rattle.agent_host.specs.declared.turned.Turned.{Turned}
use Rattle.agent_host.specs.Agents.{HostedView, part_of, RightsFitAgent}
use Rattle.agent_host.specs.Hosts.{Replaces, IsHostedAt}
use Rattle.agent_host.specs.Turns.{TurnsTo}

-- the addresses of the part of agent a
abbrev pub parts : ℕ → ℕ → Bool
parts = part_from ARENA (8 * QUADWORDS)

-- How the last run ended of an agent with these registers: by a return of the word of register 0 if
-- it has returned, else out of steps, also where none was made.
abbrev pub outcome_seen : Phase → List ℕ → Outcome
outcome_seen phases.Unloaded regs = outcomes.OutOfSteps
outcome_seen phases.Ready regs = outcomes.OutOfSteps
outcome_seen phases.Returned regs = outcomes.Returned (slice_index regs 0)

-- the agent under rights, alone, its part being its memory
abbrev pub agent_seen : HostedView → Rights → Agent
agent_seen m rights = record {
  code = m.accepted.code;
  state = part_state (part_of m) rights;
  outcome = outcome_seen m.phase m.regs;
}

-- the agents of a host, each under rights of its own, by its number
abbrev pub agents_seen : (ℕ → Rights) → List HostedView → List Agent
agents_seen rights [] = []
agents_seen rights (m ∷ host) = agent_seen m (rights 0) ∷ agents_seen (λ a. rights (suc a)) host

-- the host as a world: the quadwords of its parts, one part after another, and its agents
abbrev pub world_of : (ℕ → Rights) → List HostedView → World
world_of rights host = record {
  arena = map_of ARENA (concat (map (λ m. m.words) host));
  agents = agents_seen rights host;
}

-- Rights lie in an agent's part, and fit it while it may run.
pub record AreRightsOf (m : HostedView) (rights : Rights) : Type 0 where
  pub reads : AreInArena m.base rights.reads
  pub writes : AreInArena m.base rights.writes
  pub fits : m.phase ≡ phases.Ready → (left : ℕ) × RightsFitAgent m left rights

-- What is known of each agent of a host by its place, and of its rights.
abbrev pub AreHosted : (ℕ → Rights) → List HostedView → Type 0
AreHosted rights host = (a : ℕ) (m : HostedView) → slice_get host a ≡ Some m
    → IsHostedAt a m × AreRightsOf m (rights a)

-- A host is seen as a world under rights: those of an agent that may run fit it, each agent is as
-- one alone, and the arena reads in the part of each as the agent's own quadwords.
pub record IsSeenAs (host : List HostedView) (rights : ℕ → Rights) (world : World) : Type 0 where
  pub fits : (a : ℕ) (m : HostedView) → slice_get host a ≡ Some m → m.phase ≡ phases.Ready
      → (left : ℕ) × RightsFitAgent m left (rights a)
  pub alike : AreAsAlone parts world (agents_seen rights host)

-- Whatever world the old host is seen as, the new one is seen as the world after the turn.
abbrev pub TurnsWorlds : Turn → List HostedView → List HostedView → Type 0
TurnsWorlds turn old new = (rights : ℕ → Rights) (world : World)
    → IsSeenAs old rights world → IsSeenAs new rights (turn_in turn world)

-- Calls of `turn` for these turns, one after another, lead from one host to another.
abbrev pub TakesTurns : List Turn → List HostedView → List HostedView → Type 0
TakesTurns [] old new = new ≡ old
TakesTurns (turn ∷ turns) old new = (now : List HostedView) × (result : Turned)
    × Replaces (TurnsTo turn.budget result) turn.agent old now × TakesTurns turns now new

-- The memory reads in the part of each agent as the agent's own quadwords.
abbrev pub ReadsAsParts : List HostedView → World → Type 0
ReadsAsParts host world = (a : ℕ) (m : HostedView) → slice_get host a ≡ Some m
    → LooksAlikeIn (parts a) world.arena (map_of m.base m.words)
