-- What a host of many agents holds, and what loading one comes to.
use Rattle.std.specs.Prelude.{◌≡◌, ◌≢◌, ◌%◌, ◌^◌, ℕ, List, length, slice_get, slice_set, Bool, true, false}
use Rattle.std.specs.Prelude.{Option, Some, None}
use Rattle.reference_machine.specs.declared.layout.TheConstants.{QUADWORDS}
use Rattle.reference_machine.specs.Arena.{map_of, sum_of}
use Rattle.reference_machine.specs.Starts.{StartView}
use Rattle.packet_store.specs.PolicyStarts.{start_from}
use Rattle.packet_store.specs.StartMeets.{StartMeetsIn}
use Rattle.vcgen.specs.Safety.{all_steps}
use Rattle.host_steps.specs.Parts.{rights_of}
use Rattle.agent_host.specs.declared.phase.Phase.TheVariants as phases
use Rattle.agent_host.specs.Agents.{HostedView, base_of, SomeRightsFit, RightsFitAgent, agent_at}

-- The list is the old one with member a replaced, and of the two members this is known. So every
-- other agent is as it was.
pub record Replaces (Known : HostedView → HostedView
    → Type 0) (a : ℕ) (old new : List HostedView) : Type 0 where
  pub was : HostedView
  pub is : HostedView
  pub at : slice_get old a ≡ Some was
  pub rest : new ≡ slice_set old a is
  pub known : Known was is

-- A packet that is short leaves the agent; any other brings it to the policy's start in its part,
-- which meets the precondition and whose rights fit, all steps of the bound being left.
abbrev pub LoadsAt : Option StartView → Bool → HostedView → HostedView → Type 0
LoadsAt None loaded was is = (loaded ≡ false) × (is ≡ was)
LoadsAt (Some setup) loaded was is =
    (loaded ≡ true) × (is ≡ agent_at was setup)
    × StartMeetsIn was.base setup was.accepted.policy.pre
    × RightsFitAgent is (all_steps was.accepted.bound) (rights_of setup)

-- the same of the start on a packet
abbrev pub LoadsPacket : List ℕ → Bool → HostedView → HostedView → Type 0
LoadsPacket packet loaded was is =
    LoadsAt (start_from was.base was.accepted.policy.kind packet) loaded was is

-- what holds of each agent of a host, by its place: where its part begins, how many quadwords it
-- has, and that some rights fit while it may run
pub record IsHostedAt (a : ℕ) (m : HostedView) : Type 0 where
  pub base : m.base ≡ base_of a
  pub words : length m.words ≡ QUADWORDS
  pub rights : m.phase ≡ phases.Ready → SomeRightsFit m

-- agent a has been loaded
abbrev pub IsLoadedAt : List HostedView → ℕ → Type 0
IsLoadedAt host a = (m : HostedView) → slice_get host a ≡ Some m → m.phase ≢ phases.Unloaded

-- the sum of the region of agent a at this moment; the region is at the front of its part
abbrev pub SumsTo : List HostedView → ℕ → ℕ → Type 0
SumsTo host a sum = (m : HostedView) → slice_get host a ≡ Some m
    → sum ≡ sum_of (map_of m.base m.words) m.base m.region % 2 ^ 64
