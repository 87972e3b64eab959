-- Agents of a host with their packets, and where their turns take them.
use Rattle.std.specs.Prelude.{◌≡◌, ◌≢◌, ◌<◌, ◌≤◌, ℕ, false, List, length, All, slice_get, IsSome, Some, Vec}
use Rattle.std.specs.Global.{Global}
use Rattle.alpha_cfg.specs.declared.outcome.Outcome.TheVariants as outcomes
use Rattle.policy_set.specs.Views.{PolicyView}
use Rattle.reference_machine.specs.Starts.{StartView}
use Rattle.packet_store.specs.declared.reader.TheConstants.{MAX_PACKET}
use Rattle.packet_store.specs.PolicyStarts.{start_from}
use Rattle.host_steps.specs.Parts.{part_state, rights_of}
use Rattle.alpha_turns.specs.declared.turns.Turn.{Turn}
use Rattle.alpha_turns.specs.Turns.{may_go_on, budget_of}
use Rattle.agent_host.specs.declared.phase.Phase.TheVariants as phases
use Rattle.agent_host.specs.Agents.{HostedView, base_of, part_of, RightsFitAgent}
use Rattle.pcc_commands.specs.Stages.Hosting.{Member}
use Rattle.pcc_commands.specs.Commands.Host.{alone}

-- the packet isn't too long, and has a start in the part of agent a
pub record HasStart (a : ℕ) (policy : PolicyView) (packet : List ℕ) : Type 0 where
  pub short : length packet ≤ MAX_PACKET
  pub starts : IsSome (start_from (base_of a) policy.kind packet)

-- the packet at the place of each agent has a start
abbrev pub HaveStarts : List HostedView → List (Vec ℕ Global) → Type 0
HaveStarts host packets =
    (a : ℕ) (m : HostedView) (packet : Vec ℕ Global) → slice_get host a ≡ Some m → slice_get packets a ≡ Some packet → HasStart a m.accepted.policy packet.items

-- the turns are of so many agents
abbrev pub AreTurnsOf : ℕ → List Turn → Type 0
AreTurnsOf count turns = All (λ one. one.agent < count) turns

-- Agent a of a host is where its run alone takes it from a start with so many steps: out of steps it
-- may go on, and the rights of the start fit it, with some number of steps left; or it has returned.
pub record StandsAt (a : ℕ) (agent : Member) (setup : StartView) (steps : ℕ) (m : HostedView) : Type 0 where
  pub policy : m.accepted.policy ≡ agent.policy
  pub code : m.accepted.code ≡ agent.code
  pub base : m.base ≡ base_of a
  pub region : m.region ≡ setup.region
  pub state : (alone a agent setup steps).1 ≡ part_state (part_of m) (rights_of setup)
  pub loaded : m.phase ≢ phases.Unloaded
  pub out : m.phase ≡ phases.Ready → (alone a agent setup steps).0 ≡ outcomes.OutOfSteps
  pub fits : m.phase ≡ phases.Ready → (left : ℕ) × RightsFitAgent m left (rights_of setup)
  pub ended : m.phase ≡ phases.Returned → may_go_on (alone a agent setup steps).0 ≡ false

-- agent a of a host is where turns take it from the start of its packet
pub record IsWhereTurnsLead (a : ℕ) (agent : Member) (before : List Turn) (host : List HostedView) : Type 0 where
  pub setup : StartView
  pub starts : start_from (base_of a) agent.policy.kind agent.packet ≡ Some setup
  pub m : HostedView
  pub at : slice_get host a ≡ Some m
  pub stands : StandsAt a agent setup (budget_of a before) m

-- so is each
abbrev pub AreWhereTurnsLead : List Member → List Turn → List HostedView → Type 0
AreWhereTurnsLead agents before host = (a : ℕ) (agent : Member) → slice_get agents a ≡ Some agent → IsWhereTurnsLead a agent before host
