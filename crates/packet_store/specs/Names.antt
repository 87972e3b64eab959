-- The names of the kinds of faults, as lines show them.
use Rattle.std.specs.Prelude.{ℕ, List, codes}
use Rattle.packet_store.specs.declared.fault.PacketFault.{PacketFault}
use Rattle.packet_store.specs.declared.fault.PacketFault.TheVariants.{Cut, TooLong}

-- what is wrong with a packet file, in one name
abbrev pub packet_fault_name : PacketFault → List ℕ
packet_fault_name (Cut offset) = codes "CutPacket"
packet_fault_name (TooLong offset) = codes "PacketTooLong"
