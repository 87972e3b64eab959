use Rattle.std.proofs.Common.{ℕ, Ok, Vec, Global, sym, ap, subst, Err, refl}
use Rattle.policy_set.specs.Views.{PolicyView}
use Rattle.pcc_gate.specs.Views.{AcceptedView}
use Rattle.agent_script.specs.Scripts.{load_view}
use Rattle.pcc_stages.specs.Stage.{gives}
use Rattle.pcc_stages.proofs.StageLemmas.{lifted, stops_first, gives_then}
use Rattle.pcc_commands.specs.declared.commands.host.Admitted.{Admitted}
use Rattle.pcc_commands.specs.Stages.Judging.{accepted_code_of}
use Rattle.pcc_commands.specs.Stages.Hosting.{packet_of, for_agent}
use Rattle.pcc_commands.specs.Inside.Behind.{member_on_packet, load_behind}
use Rattle.pcc_commands.specs.Inside.Standing.{HasStart}
use Rattle.pcc_commands.specs.Inside.Turning.{member_view}
use Rattle.pcc_commands.proofs.commands.host.member_under.Goals as goal

pub returns-in_err-accepted-clause-exact : goal.returns-in_err-accepted-clause-exact
returns-in_err-accepted-clause-exact g c =
    let a = c.args.agent in
    let one = load_view c.args.load in
    let policy = c.args.policy.now in
    stops_first (load_behind a one policy) (λ (x : AcceptedView). x.code) member_view (for_agent a (accepted_code_of policy one.file)) _ _ _ _ c.in_err-accepted.field-0.0 c.from_residual.result
    c.in_err-accepted.ensures.code c.from_residual.ensures.1

pub returns-clause-exact : goal.returns-clause-exact
returns-clause-exact g c =
    let a = c.args.agent in
    let one = load_view c.args.load in
    let policy = c.args.policy.now in
    let accepted = c.in_ok-accepted.accepted in
    gives_then (load_behind a one policy) (λ (x : AcceptedView). x.code) member_view (for_agent a (accepted_code_of policy one.file)) _ _ _ _ _ _ accepted (Err c.in-Err.stop) c.in_ok-accepted.ensures.code
    (stops_first (λ packet. gives (member_on_packet policy accepted.code packet)) (λ (v : Vec ℕ Global). v.items) member_view (for_agent a (packet_of a policy one.packets)) _ _ _ _ c.in-Err.stop (Err c.in-Err.stop)
    c.in-Err.ensures.exact refl)

pub returns-in-Ok-clause-exact : goal.returns-in-Ok-clause-exact
returns-in-Ok-clause-exact g c =
    let a = c.args.agent in
    let one = load_view c.args.load in
    let policy = c.args.policy.now in
    let accepted = c.in_ok-accepted.accepted in
    let packet = c.in-Ok.packet in
    let member : Admitted = record { accepted = accepted; packet = packet } in
    gives_then (load_behind a one policy) (λ (x : AcceptedView). x.code) member_view (for_agent a (accepted_code_of policy one.file)) _ _ _ _ _ _ accepted (Ok member) c.in_ok-accepted.ensures.code
    (gives_then (λ packet. gives (member_on_packet policy accepted.code packet)) (λ (v : Vec ℕ Global). v.items) member_view (for_agent a (packet_of a policy one.packets)) _ _ _ _ _ _ packet (Ok member) c.in-Ok.ensures.exact
    (lifted member_view (gives (member_on_packet policy accepted.code packet.items)) _ _ (Ok member)
    (ap (λ (p : PolicyView). gives (member_on_packet p accepted.code packet.items))
    (sym c.in_ok-accepted.ensures.policy))))

pub returns-in-Ok-clause-start : goal.returns-in-Ok-clause-start
returns-in-Ok-clause-start g c = subst
    (λ (p : PolicyView). HasStart c.args.agent p c.in-Ok.packet.items)
    (sym c.in_ok-accepted.ensures.policy) c.in-Ok.ensures.start
