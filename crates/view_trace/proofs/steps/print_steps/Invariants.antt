use Rattle.std.proofs.Common.{◌≡◌, ◌<◌, ◌-◌, length}
use Rattle.view_trace.proofs.RunLemmas.{IsRunning}
use Rattle.view_trace.proofs.steps.print_steps.Given as goal

abbrev pub invariant-loop : goal.invariant-loop
invariant-loop g l = record {
  running : IsRunning l.code l.budget l.fn.agent.state (g.S.Sink.state l.fn.out) (l.budget - l.counter) l.agent.state
      (g.S.Sink.state l.out);
  within : l.agent.state.index < length l.code;
  region_at : l.agent.region_at ≡ l.fn.agent.region_at;
  region : l.agent.region ≡ l.fn.agent.region;
}
