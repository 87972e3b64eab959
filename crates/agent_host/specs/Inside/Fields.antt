-- The fields of an agent as what a host holds of it, and what holds of them.
use Rattle.std.specs.Prelude.{◌≡◌, ℕ, ◌<◌, ◌≤◌, ◌%◌, ◌^◌, List, length, slice_get, Some}
use Rattle.reference_machine.specs.declared.layout.TheConstants.{QUADWORDS}
use Rattle.host_steps.specs.Operations.{AreOperations}
use Rattle.agent_host.specs.declared.agent.Hosted.TheInside.{Inside}
use Rattle.agent_host.specs.declared.host.AgentHost.TheInside.{Inside as HostInside}
use Rattle.agent_host.specs.declared.phase.Phase.TheVariants as phases
use Rattle.agent_host.specs.Agents.{HostedView, base_of, SomeRightsFit}

-- what the fields hold
abbrev pub hosted_view : Inside → HostedView
hosted_view h =
    record {
      accepted = h.accepted;
      base = h.base;
      index = h.index;
      regs = h.slots;
      words =
          h.words.items;
      region = h.region;
      phase = h.phase;
    }

-- what holds of every agent
pub record IsHosted (h : Inside) : Type 0 where
  pub operations : AreOperations h.accepted.code h.operations.items
  pub words_len : length h.words.items ≡ QUADWORDS
  pub region_within : h.region ≤ QUADWORDS
  pub aligned : h.base % 8 ≡ 0
  pub low : h.base < 2 ^ 32
  pub within : h.phase ≡ phases.Ready → h.index < length h.accepted.code
  pub rights : h.phase ≡ phases.Ready → SomeRightsFit (hosted_view h)

-- the part of each agent begins at its place
abbrev pub AreBased : List HostedView → Type 0
AreBased agents = (a : ℕ) (m : HostedView) → slice_get agents a ≡ Some m → m.base ≡ base_of a

-- what holds of every host
abbrev pub IsAgentHost : HostInside → Type 0
IsAgentHost h = AreBased h.agents.items
