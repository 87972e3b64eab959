use Rattle.std.proofs.Common.{◌≡◌, List, [], map, sym, ap}
use Rattle.std.proofs.Common.{◌∙◌, arith}
use Rattle.std.proofs.lemmas.Iterator.Adapters.{YieldsList-from_vec}
use Rattle.std.proofs.lemmas.Iterator.Consumers.{YieldsList-turn, YieldsList-end}
use Rattle.std.proofs.lemmas.List.{map-id}
use Rattle.std.proofs.lemmas.List.Elements.{All-nil, All-push, All-same}
use Rattle.pcc_gate.specs.Views.{AcceptedView}
use Rattle.agent_host.specs.declared.phase.Phase.TheVariants as phases
use Rattle.agent_host.specs.Agents.{HostedView}
use Rattle.agent_host.proofs.Building.{as-many, accepted-more, based-more, based-none}
use Rattle.agent_host.proofs.host.AgentHost.new.Goals as goal

pub loop-accepted-init : goal.loop-accepted-init
loop-accepted-init c = record {
  accepted = ap (map (λ (m : HostedView). m.accepted)) c.new-hosted.ensures.items;
  unloaded = All-same (λ (m : HostedView). m.phase ≡ phases.Unloaded) c.new-hosted.result.items []
      c.new-hosted.ensures.items
      (All-nil (λ (m : HostedView). m.phase ≡ phases.Unloaded));
  based = based-none c.new-hosted.result.items c.new-hosted.ensures.items;
}

pub overflow_cast-len : goal.overflow_cast-len
overflow_cast-len c =
    let all : List AcceptedView = c.args.agents.items in
    let made = c.into_iter-accepted-iterator in
    let hosted = c.loop-accepted.hosted in
    let turn = YieldsList-turn
    (YieldsList-from_vec {s = made.result} all made.ensures.into_iter_gives.0
    (omega (arith, made.ensures.into_iter_gives.1, c.args.agents.ok.0)))
    c.loop-accepted.yielded c.loop-accepted.accepted-iterator
    c.loop-accepted.yielded_by c.next.result c.next.new.self c.in-Some.accepted c.in-Some.is
    c.next.ensures.steps in
    omega (
      arith,
      turn.0,
      c.requires.few,
      c.len.ensures,
      hosted.ok.0,
      as-many hosted.items c.loop-accepted.yielded c.loop-accepted.invariant.accepted,
    )

pub part_base-base-requires : goal.part_base-base-requires
part_base-base-requires c =
    let all : List AcceptedView = c.args.agents.items in
    let made = c.into_iter-accepted-iterator in
    let hosted = c.loop-accepted.hosted in
    let turn = YieldsList-turn
    (YieldsList-from_vec {s = made.result} all made.ensures.into_iter_gives.0
    (omega (arith, made.ensures.into_iter_gives.1, c.args.agents.ok.0)))
    c.loop-accepted.yielded c.loop-accepted.accepted-iterator
    c.loop-accepted.yielded_by c.next.result c.next.new.self c.in-Some.accepted c.in-Some.is
    c.next.ensures.steps in
    omega (
      arith,
      turn.0,
      c.requires.few,
      c.len.ensures,
      hosted.ok.0,
      as-many hosted.items c.loop-accepted.yielded c.loop-accepted.invariant.accepted,
    )

pub loop-accepted-preserved : goal.loop-accepted-preserved
loop-accepted-preserved c =
    let hosted = c.loop-accepted.hosted in
    let one : HostedView = c.in_ok-agent.agent in
    record {
      accepted = accepted-more hosted.items c.push.new.self.items one c.loop-accepted.yielded
          c.in-Some.accepted c.in_ok-push.ensures.items
          c.loop-accepted.invariant.accepted c.in_ok-agent.ensures.accepted;
      unloaded = All-same (λ (m : HostedView). m.phase ≡ phases.Unloaded) c.push.new.self.items _
          c.in_ok-push.ensures.items
          (All-push (λ (m : HostedView). m.phase ≡ phases.Unloaded) hosted.items one
          c.loop-accepted.invariant.unloaded c.in_ok-agent.ensures.phase);
      based = based-more hosted.items c.push.new.self.items one c.len.result
          c.in_ok-push.ensures.items (omega (arith, c.len.ensures, hosted.ok.0))
          c.loop-accepted.invariant.based (c.in_ok-agent.ensures.base
          ∙ c.part_base-base.ensures.exact);
    }

pub returns-clause-accepted : goal.returns-clause-accepted
returns-clause-accepted c =
    let all : List AcceptedView = c.args.agents.items in
    let made = c.into_iter-accepted-iterator in
    let end = YieldsList-end
    (YieldsList-from_vec {s = made.result} all made.ensures.into_iter_gives.0
    (omega (arith, made.ensures.into_iter_gives.1, c.args.agents.ok.0)))
    c.loop-accepted.yielded c.loop-accepted.accepted-iterator
    c.loop-accepted.yielded_by c.next.result c.next.new.self c.in-None.is c.next.ensures.steps in
    c.loop-accepted.invariant.accepted ∙ sym (map-id c.loop-accepted.yielded) ∙ end.0
