use Rattle.std.proofs.Common.{◌≡◌, ℕ, List, [], length, sym, ap, ◌∙◌, arith, Vec, Global}
use Rattle.std.proofs.lemmas.List.{length-map}
use Rattle.pcc_gate.specs.Views.{AcceptedView}
use Rattle.agent_host.specs.Agents.{HostedView}
use Rattle.pcc_commands.specs.declared.commands.host.Admitted.{Admitted}
use Rattle.pcc_commands.specs.Stages.Hosting.{Member}
use Rattle.pcc_commands.specs.Commands.Host.{turn_lines}
use Rattle.pcc_commands.proofs.StandingLemmas.{have_starts, members_are}
use Rattle.pcc_commands.proofs.commands.host.job_of.Goals as goal

pub new-requires : goal.new-requires
new-requires c =
    let codes = ap (λ (l : List AcceptedView). length l) c.in_ok-both.ensures.codes ∙ length-map c.args.members.items (λ (m : Admitted). m.accepted) in
    record { some = omega (arith, codes, c.requires.some); few = omega (arith, codes, c.requires.few) }

pub invariant_of-result : goal.invariant_of-result
invariant_of-result c =
    let members = c.args.members.items in
    let host = c.in_ok-host.host in
    let count : length host ≡ length members =
    sym (length-map host (λ (m : HostedView). m.accepted)) ∙ ap (λ (l : List AcceptedView). length l) (c.in_ok-host.ensures.accepted ∙ c.in_ok-both.ensures.codes) ∙ length-map members (λ (m : Admitted). m.accepted) in
    let packets : length c.in_ok-both.both.1.items ≡ length host =
    sym (length-map c.in_ok-both.both.1.items (λ (p : Vec ℕ Global). p.items)) ∙ ap (λ (l : List (List ℕ)). length l) c.in_ok-both.ensures.packets ∙ length-map members (λ (m : Admitted). m.packet.items) ∙ sym count in
    record {
      few = omega (arith, count, c.requires.few);
      packet_count = packets;
      ready = have_starts members host c.in_ok-both.both.1.items (c.in_ok-host.ensures.accepted ∙ c.in_ok-both.ensures.codes) c.in_ok-both.ensures.packets c.requires.ready;
      own_turns = λ k d less. let turn = c.requires.turns k d less in omega (arith, count, turn);
    }

pub returns : goal.returns
returns c =
    ap (λ (agents : List Member). turn_lines agents 0 [] c.args.turns.items)
    (members_are c.args.members.items c.in_ok-host.host c.in_ok-both.both.1.items (c.in_ok-host.ensures.accepted ∙ c.in_ok-both.ensures.codes) c.in_ok-both.ensures.packets)
