-- The lines and statuses of stops.
use Rattle.std.specs.Prelude.{ℕ, List, Option, Some, None, unwrap_or, string_bytes}
use Rattle.formula_text.specs.Names.{text_flaw_name}
use Rattle.agent_script.specs.Names.{script_flaw_name}
use Rattle.asm_text.specs.Names.{line_flaw_name}
use Rattle.pcc_asm.specs.Names.{asm_flaw_line, asm_flaw_name}
use Rattle.bounds_prover.specs.Names.{measure_name}
use Rattle.pcc_lines.specs.Agents.{agent_line, no_packet_line, short_line}
use Rattle.pcc_lines.specs.Bpf.{bpf_flaw_line}
use Rattle.pcc_lines.specs.Fixed.{already_line, bpf_too_long_line, container_too_long_line, packets_too_long_line, policy_too_long_line, script_too_long_line, source_too_long_line, unknown_policy_line}
use Rattle.pcc_lines.specs.PacketFaults.{packet_fault_line}
use Rattle.pcc_lines.specs.Policies.{policy_lines_line, policy_length_line, policy_form_line}
use Rattle.pcc_lines.specs.Proving.{not_easy_line, too_big_line}
use Rattle.pcc_lines.specs.Refusals.{refusal_line}
use Rattle.pcc_lines.specs.Scripts.{script_fault_line}
use Rattle.pcc_lines.specs.Sources.{source_fault_line}
use Rattle.pcc_stages.specs.Exits.{Exit}
use Rattle.pcc_stages.specs.Requests.{usage_exit, missing_exit, read_fault_exit, write_fault_exit, no_memory_exit}
use Rattle.pcc_stages.specs.Texts.{texts}
use Rattle.pcc_stages.specs.Stages.Common.{refused}
use Rattle.pcc_stages.specs.declared.agent_stop.AgentStop.{AgentStop}
use Rattle.pcc_stages.specs.declared.agent_stop.AgentStop.TheVariants as agent_stop
use Rattle.pcc_stages.specs.declared.refused_line.RefusedLine.{RefusedLine}
use Rattle.pcc_stages.specs.declared.refused_line.RefusedLine.TheVariants as refused_line
use Rattle.pcc_stages.specs.declared.stops.Stop.{Stop}
use Rattle.pcc_stages.specs.declared.stops.Stop.TheVariants as stop

-- the line of a load that is refused, without its agent
abbrev pub agent_text : AgentStop → List ℕ
agent_text agent_stop.UnknownPolicy = unknown_policy_line
agent_text agent_stop.ContainerTooLong = container_too_long_line
agent_text (agent_stop.Refused refusal) = refusal_line refusal
agent_text agent_stop.PacketsTooLong = packets_too_long_line
agent_text (agent_stop.BadPackets fault) = packet_fault_line fault
agent_text agent_stop.NoPacket = no_packet_line
agent_text agent_stop.Short = short_line

-- the line that refuses
abbrev pub refused_text : RefusedLine → List ℕ
refused_text refused_line.UnknownPolicy = unknown_policy_line
refused_text refused_line.PolicyTooLong = policy_too_long_line
refused_text (refused_line.PolicyLines count) = policy_lines_line count
refused_text (refused_line.PolicyLength line) = policy_length_line line
refused_text (refused_line.PolicyForm line position flaw) =
    policy_form_line line position (text_flaw_name flaw)
refused_text (refused_line.Container refusal) = refusal_line refusal
refused_text refused_line.ContainerTooLong = container_too_long_line
refused_text (refused_line.NotEasy part) = not_easy_line part
refused_text (refused_line.TooBig measure number) = too_big_line (measure_name measure) number
refused_text refused_line.Already = already_line
refused_text refused_line.SourceTooLong = source_too_long_line
refused_text (refused_line.BadLine line flaw) = source_fault_line line (line_flaw_name flaw)
refused_text (refused_line.BadSource flaw) = source_fault_line (asm_flaw_line flaw)
    (asm_flaw_name flaw)
refused_text refused_line.PacketsTooLong = packets_too_long_line
refused_text (refused_line.BadPackets fault) = packet_fault_line fault
refused_text refused_line.ProgramTooLong = bpf_too_long_line
refused_text (refused_line.BadProgram flaw) = bpf_flaw_line flaw
refused_text refused_line.ScriptTooLong = script_too_long_line
refused_text (refused_line.BadScript line flaw) = script_fault_line line (script_flaw_name flaw)
refused_text (refused_line.OfAgent a why) = agent_line a (agent_text why)

-- the exit of a stop, if its line is put; none of want of memory
abbrev pub end_of : Stop → Option Exit
end_of stop.Usage = Some (usage_exit texts)
end_of (stop.Refused line) = Some (refused (refused_text line))
end_of (stop.MissingOfScript name) = Some (missing_exit texts (string_bytes name))
end_of (stop.ReadFaultOfScript name) = Some (read_fault_exit texts (string_bytes name))
end_of (stop.Missing name) = Some (missing_exit texts name.now)
end_of (stop.ReadFault name) = Some (read_fault_exit texts name.now)
end_of (stop.WriteFault name) = Some (write_fault_exit texts name.now)
end_of stop.Memory = None

-- the exit of a stop
abbrev pub stop_exit : Stop → Exit
stop_exit why = unwrap_or (end_of why) no_memory_exit
