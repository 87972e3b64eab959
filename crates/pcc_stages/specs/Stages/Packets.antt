-- Stages that read a packet file.
use Rattle.std.specs.Prelude.{ℕ, List, Result, Ok, Err}
use Rattle.packet_store.specs.declared.fault.PacketFault.{PacketFault}
use Rattle.packet_store.specs.PacketDecoding.{decoded_packets}
use Rattle.pcc_lines.specs.Fixed.{packets_too_long_line}
use Rattle.pcc_lines.specs.PacketFaults.{packet_fault_line}
use Rattle.pcc_stages.specs.Stage.{Stage, stops, gives, reads, ◌>>=◌}
use Rattle.pcc_stages.specs.Stages.Common.{refused}
use Rattle.pcc_stages.specs.declared.files.TheConstants.{MAX_FILE}

-- what was read as packets
abbrev pub packets_found : Result (List (List ℕ)) PacketFault → Stage (List (List ℕ))
packets_found (Ok packets) = gives packets
packets_found (Err fault) = stops (refused (packet_fault_line fault))

-- the packets that the bytes are
abbrev pub packets_in : List ℕ → Stage (List (List ℕ))
packets_in bytes = packets_found (decoded_packets bytes)

-- the bytes of the packet file of the name
abbrev pub packet_bytes_of : List ℕ → Stage (List ℕ)
packet_bytes_of name = reads name MAX_FILE (refused packets_too_long_line) gives

-- the packets in the file of the name
unfoldable pub packets_of : List ℕ → Stage (List (List ℕ))
packets_of name = do
  bytes ← packet_bytes_of name
  packets_in bytes
