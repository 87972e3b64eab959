use Rattle.std.proofs.Common.{ℕ, List, Option, Ok, Err, refl, ap, sym, ◌∙◌}
use Rattle.policy_set.specs.declared.kind.PolicyKind.{PolicyKind}
use Rattle.packet_store.specs.Results.{packet_result}
use Rattle.packet_store.specs.declared.results.PacketResult.{PacketResult}
use Rattle.pcc_lines.specs.Results.{result_lines}
use Rattle.pcc_stages.specs.declared.stops.Stop.TheVariants.{Memory}
use Rattle.pcc_stages.specs.Stages.Common.{printing}
use Rattle.pcc_stages.specs.Stages.Packets.{packets_of}
use Rattle.pcc_stages.proofs.StageLemmas.{lifted, stops_first, gives_then}
use Rattle.pcc_commands.specs.declared.report.Report.{Report}
use Rattle.pcc_commands.specs.declared.report.Report.TheVariants.{Results}
use Rattle.pcc_commands.specs.Reports.{effect_of}
use Rattle.pcc_commands.proofs.commands.reference.results_of.Goals as goal

pub returns-in-Err : goal.returns-in-Err
returns-in-Err g c =
    let a = c.args.args in
    let under = c.args.policy in
    stops_first
    (λ all. printing (result_lines under.kind (packet_result under c.args.code a.steps) 0 all))
    _ effect_of (packets_of a.packets.now) _ _ _ _ c.in-Err.stop (Err c.in-Err.stop)
    c.in-Err.ensures refl

pub returns-in-Ok-new : goal.returns-in-Ok-new
returns-in-Ok-new g c =
    let a = c.args.args in
    let under = c.args.policy in
    let code = c.args.code in
    let all = c.in-Ok.packets in
    let report : Report =
    Results (record { kind = c.kind-under.result; runner = c.in-Ok-new.runner; packets = all }) in
    gives_then (λ all. printing (result_lines under.kind (packet_result under code a.steps) 0 all))
    _ effect_of (packets_of a.packets.now) _ _ _ _ _ _ all (Ok report)
    c.in-Ok.ensures
    (lifted effect_of (printing (result_lines under.kind (packet_result under code a.steps) 0 all))
    _ _ (Ok report)
    (ap printing (sym (
    ap (λ (results : List ℕ → PacketResult). result_lines c.kind-under.result results 0 all)
    c.in-Ok-new.ensures
    ∙ ap (λ (k : Option PolicyKind). result_lines k (packet_result under code a.steps) 0 all)
    c.kind-under.ensures.exact))))

pub returns-in-Err-new : goal.returns-in-Err-new
returns-in-Err-new g c =
    let a = c.args.args in
    let under = c.args.policy in
    gives_then
    (λ all. printing (result_lines under.kind (packet_result under c.args.code a.steps) 0 all))
    _ effect_of (packets_of a.packets.now) _ _ _ _ _ _ c.in-Ok.packets (Err Memory)
    c.in-Ok.ensures
    (lifted effect_of
    (printing
    (result_lines under.kind (packet_result under c.args.code a.steps) 0 c.in-Ok.packets))
    _ _ (Err Memory) tt)
