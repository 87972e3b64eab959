use Rattle.std.proofs.Common.{ℕ, List}
use Rattle.alpha_words.specs.declared.insn.Insn.{Insn}
use Rattle.policy_set.specs.Views.{PolicyView}
use Rattle.pcc_words.specs.Commands.{word_view}
use Rattle.pcc_stages.specs.Stages.Policies.{policy_told}
use Rattle.pcc_stages.specs.Stages.Containers.{code_of}
use Rattle.pcc_stages.specs.Stages.Packets.{packets_of}
use Rattle.pcc_stages.proofs.StageLemmas.{lifted, stops_first, gives_then}
use Rattle.view_cli.specs.Commands.Packet.{packet_command}
use Rattle.view_cli.specs.Reports.{exit_of_report}
use Rattle.view_cli.proofs.CommandStages.{last_stage, code_stage, policy_stage}
use Rattle.view_cli.proofs.commands.packet.packet_command.Goals as goal

pub returns-in_err-policy : goal.returns-in_err-policy
unfolding packet_command
returns-in_err-policy g c =
    let a = c.args.args in
    stops_first (policy_stage a.file.now a.packets.now a.steps a.number)
    (λ (p : PolicyView). p) exit_of_report (policy_told (word_view a.policy)) _ _ _ _
    c.in_err-policy.field-0.0 c.from_residual.result c.in_err-policy.ensures
    c.from_residual.ensures.1

pub returns-in_err-code : goal.returns-in_err-code
unfolding packet_command
returns-in_err-code g c =
    let a = c.args.args in
    let under = c.in_ok-policy.policy in
    gives_then (policy_stage a.file.now a.packets.now a.steps a.number)
    (λ (p : PolicyView). p) exit_of_report (policy_told (word_view a.policy)) _ _ _ _ _ _
    under _ c.in_ok-policy.ensures
    (stops_first (code_stage under a.packets.now a.steps a.number) (λ (i : List Insn). i)
    exit_of_report (code_of under a.file.now) _ _ _ _ c.in_err-code.field-0.0
    c.from_residual-in_err-code.result c.in_err-code.ensures
    c.from_residual-in_err-code.ensures.1)

pub returns-in_err-packets : goal.returns-in_err-packets
unfolding packet_command
returns-in_err-packets g c =
    let a = c.args.args in
    let under = c.in_ok-policy.policy in
    let code = c.in_ok-code.code in
    gives_then (policy_stage a.file.now a.packets.now a.steps a.number)
    (λ (p : PolicyView). p) exit_of_report (policy_told (word_view a.policy)) _ _ _ _ _ _
    under _ c.in_ok-policy.ensures
    (gives_then (code_stage under a.packets.now a.steps a.number) (λ (i : List Insn). i)
    exit_of_report (code_of under a.file.now) _ _ _ _ _ _ code _ c.in_ok-code.ensures
    (stops_first (last_stage under code a.steps a.number) (λ (p : List (List ℕ)). p)
    exit_of_report (packets_of a.packets.now) _ _ _ _ c.in_err-packets.field-0.0
    c.from_residual-in_err-packets.result c.in_err-packets.ensures
    c.from_residual-in_err-packets.ensures.1))

pub returns : goal.returns
unfolding packet_command
returns g c =
    let a = c.args.args in
    let under = c.in_ok-policy.policy in
    let code = c.in_ok-code.code in
    let all = c.in_ok-packets.packets in
    gives_then (policy_stage a.file.now a.packets.now a.steps a.number)
    (λ (p : PolicyView). p) exit_of_report (policy_told (word_view a.policy)) _ _ _ _ _ _
    under _ c.in_ok-policy.ensures
    (gives_then (code_stage under a.packets.now a.steps a.number) (λ (i : List Insn). i)
    exit_of_report (code_of under a.file.now) _ _ _ _ _ _ code _ c.in_ok-code.ensures
    (gives_then (last_stage under code a.steps a.number) (λ (p : List (List ℕ)). p)
    exit_of_report (packets_of a.packets.now) _ _ _ _ _ _ all _ c.in_ok-packets.ensures
    (lifted exit_of_report (last_stage under code a.steps a.number all) _ _ c.started.result
    c.started.ensures)))
