-- Faults of packet files.
use Rattle.std.specs.Prelude.{ℕ, List, ◌++◌, codes, decimal}
use Rattle.packet_store.specs.declared.fault.PacketFault.{PacketFault}
use Rattle.packet_store.specs.Names.{packet_fault_name}
use Rattle.packet_store.specs.Packets.{offset_of}

-- what is wrong with a packet file, and the offset of the packet
unfoldable pub packet_fault_line : PacketFault → List ℕ
packet_fault_line fault = codes "packets " ++ packet_fault_name fault ++ codes " " ++ decimal (offset_of fault) ++ codes "\n"
