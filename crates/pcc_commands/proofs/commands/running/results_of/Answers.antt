use Rattle.std.proofs.Common.{ℕ, List, Option, Ok, Err, refl, ap, sym, ◌∙◌}
use Rattle.policy_set.specs.declared.kind.PolicyKind.{PolicyKind}
use Rattle.policy_set.specs.Views.{PolicyView}
use Rattle.packet_store.specs.Results.{packet_result}
use Rattle.packet_store.specs.declared.results.PacketResult.{PacketResult}
use Rattle.pcc_lines.specs.Results.{result_lines}
use Rattle.pcc_stages.specs.declared.stops.Stop.TheVariants.{Memory}
use Rattle.pcc_stages.specs.Stages.Common.{printing}
use Rattle.pcc_stages.specs.Stages.Packets.{packets_of}
use Rattle.pcc_stages.proofs.StageLemmas.{lifted, stops_first, gives_then}
use Rattle.pcc_commands.specs.declared.report.Report.{Report}
use Rattle.pcc_commands.specs.declared.report.Report.TheVariants.{Hosted}
use Rattle.pcc_commands.specs.Reports.{effect_of}
use Rattle.pcc_commands.proofs.commands.running.results_of.Goals as goal

pub returns-in-Err : goal.returns-in-Err
returns-in-Err g c =
    let a = c.args.args in
    let under = c.args.accepted.policy in
    let code = c.args.accepted.code in
    stops_first (λ all. printing (result_lines under.kind (packet_result under code a.steps) 0 all))
    _ effect_of (packets_of a.packets.now) _ _ _ _ c.in-Err.stop (Err c.in-Err.stop)
    c.in-Err.ensures refl

pub returns-in-Some : goal.returns-in-Some
returns-in-Some g c =
    let a = c.args.args in
    let under = c.args.accepted.policy in
    let kind = c.kind-under.result in
    let code = c.args.accepted.code in
    let all = c.in-Ok.packets in
    let report : Report =
    Hosted (record { kind = kind; runner = c.in-Some.runner; packets = all }) in
    gives_then (λ all. printing (result_lines under.kind (packet_result under code a.steps) 0 all))
    _ effect_of (packets_of a.packets.now) _ _ _ _ _ _ c.in-Ok.packets (Ok report)
    c.in-Ok.ensures
    (lifted effect_of (printing (result_lines under.kind (packet_result under code a.steps) 0 all))
    _ _ (Ok report)
    (ap printing (sym (
    ap (λ (results : List ℕ → PacketResult). result_lines kind results 0 all) c.in-Some.ensures
    ∙ ap (λ (k : Option PolicyKind). result_lines k (packet_result under code a.steps) 0 all)
    (c.kind-under.ensures.exact ∙ ap (λ (p : PolicyView). p.kind) c.policy.ensures)))))

pub returns-in-None : goal.returns-in-None
returns-in-None g c =
    let a = c.args.args in
    let under = c.args.accepted.policy in
    let code = c.args.accepted.code in
    gives_then (λ all. printing (result_lines under.kind (packet_result under code a.steps) 0 all))
    _ effect_of (packets_of a.packets.now) _ _ _ _ _ _ c.in-Ok.packets (Err Memory)
    c.in-Ok.ensures
    (lifted effect_of
    (printing
    (result_lines under.kind (packet_result under code a.steps) 0 c.in-Ok.packets)) _ _
    (Err Memory) tt)
