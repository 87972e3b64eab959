use Rattle.std.proofs.Common.{ℕ, List, Err, Result, Vec, Global, sym, ap, subst, string_bytes}
use Rattle.packet_store.specs.declared.fault.PacketFault.{PacketFault}
use Rattle.packet_store.specs.PacketDecoding.{decoded_packets}
use Rattle.pcc_lines.specs.Agents.{agent_line}
use Rattle.pcc_lines.specs.Fixed.{packets_too_long_line}
use Rattle.pcc_stages.specs.Stage.{Stage, reads, gives, ◌>>=◌}
use Rattle.pcc_stages.specs.declared.agent_stop.AgentStop.TheVariants.{BadPackets}
use Rattle.pcc_stages.specs.declared.files.TheConstants.{MAX_FILE}
use Rattle.pcc_stages.specs.declared.refused_line.RefusedLine.TheVariants.{OfAgent}
use Rattle.pcc_stages.specs.declared.stops.Stop.TheVariants.{Refused}
use Rattle.pcc_stages.specs.Stages.Common.{refused}
use Rattle.pcc_stages.specs.Stages.Packets.{packets_found, packets_in, packets_of}
use Rattle.pcc_stages.specs.Answers.{GivesPure}
use Rattle.pcc_stages.proofs.StageLemmas.{lifted, stops_first, gives_then}
use Rattle.pcc_commands.specs.Stages.Hosting.{for_agent, first_packet, packet_of}
use Rattle.pcc_commands.proofs.commands.host.agent_packet.Goals as goal

-- the bytes of the agent's packet file
abbrev bytes_stage : ℕ → List ℕ → Stage (List ℕ)
bytes_stage a name = reads name MAX_FILE (refused (agent_line a packets_too_long_line)) gives

pub returns-in_err-bytes-clause-exact : goal.returns-in_err-bytes-clause-exact
unfolding packet_of packets_of
returns-in_err-bytes-clause-exact g c =
    stops_first (λ b. for_agent c.args.agent (packets_in b >>= first_packet c.args.agent c.args.policy.now)) (λ (v : Vec ℕ Global). v.items) (λ (v : Vec ℕ Global). v.items)
    (bytes_stage c.args.agent (string_bytes c.args.name)) _ _ _ _ c.in_err-bytes.field-0.0 c.from_residual.result c.in_err-bytes.ensures c.from_residual.ensures.1

pub returns-in-Ok-clause-exact : goal.returns-in-Ok-clause-exact
unfolding packet_of packets_of
returns-in-Ok-clause-exact g c =
    let a = c.args.agent in
    let bytes = c.in_ok-bytes.bytes in
    let stage : Result (List (List ℕ)) PacketFault → Stage (List ℕ) = λ r. for_agent a (packets_found r >>= first_packet a c.args.policy.now) in
    gives_then (λ b. for_agent a (packets_in b >>= first_packet a c.args.policy.now)) (λ (v : Vec ℕ Global). v.items) (λ (v : Vec ℕ Global). v.items)
    (bytes_stage a (string_bytes c.args.name)) _ _ _ _ _ _ bytes c.first_packet.result c.in_ok-bytes.ensures
    (lifted (λ (v : Vec ℕ Global). v.items) (stage (decoded_packets bytes.items)) _ _ c.first_packet.result
    (subst (λ (r : Result (List (List ℕ)) PacketFault). GivesPure (λ (v : Vec ℕ Global). v.items) (stage r) c.first_packet.result) c.in-Ok.ensures c.first_packet.ensures.exact))

pub returns-in-Err-clause-exact : goal.returns-in-Err-clause-exact
unfolding packet_of packets_of
returns-in-Err-clause-exact g c =
    let a = c.args.agent in
    let bytes = c.in_ok-bytes.bytes in
    let stage : Result (List (List ℕ)) PacketFault → Stage (List ℕ) = λ r. for_agent a (packets_found r >>= first_packet a c.args.policy.now) in
    gives_then (λ b. for_agent a (packets_in b >>= first_packet a c.args.policy.now)) (λ (v : Vec ℕ Global). v.items) (λ (v : Vec ℕ Global). v.items)
    (bytes_stage a (string_bytes c.args.name)) _ _ _ _ _ _ bytes
    (Err (Refused (OfAgent a (BadPackets c.in-Err.fault)))) c.in_ok-bytes.ensures
    (lifted (λ (v : Vec ℕ Global). v.items) (stage (decoded_packets bytes.items)) _ _
    (Err (Refused (OfAgent a (BadPackets c.in-Err.fault)))) (ap stage (sym c.in-Err.ensures)))
