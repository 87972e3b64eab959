use Rattle.std.proofs.Common.{◌≡◌, map}
use Rattle.std.specs.List.{All}
use Rattle.agent_host.specs.declared.phase.Phase.TheVariants as phases
use Rattle.agent_host.specs.Agents.{HostedView}
use Rattle.agent_host.specs.Inside.Fields.{AreBased}
use Rattle.agent_host.proofs.host.AgentHost.new.Given as goal

abbrev pub invariant-loop-accepted : goal.invariant-loop-accepted
invariant-loop-accepted l = record {
  accepted : map (λ (m : HostedView). m.accepted) l.hosted.items ≡ l.yielded;
  unloaded : All (λ (m : HostedView). m.phase ≡ phases.Unloaded) l.hosted.items;
  based : AreBased l.hosted.items;
}
