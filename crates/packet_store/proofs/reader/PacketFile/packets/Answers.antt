use Rattle.std.proofs.Common.{◌≤◌, ℕ, List, length, subst, sym, arith}
use Rattle.packet_store.specs.Packets.{AreShort}
use Rattle.packet_store.specs.PacketDecoding.{whole_packets}
use Rattle.packet_store.proofs.Readings.{HasPackets-whole, length-whole_packets}
use Rattle.packet_store.proofs.reader.PacketFile.packets.Goals as goal

pub returns-clause-few : goal.returns-clause-few
returns-clause-few c =
    let few : length (whole_packets c.self.inside.bytes.items) ≤ length c.self.inside.bytes.items = length-whole_packets c.self.inside.bytes.items c.self.invariant in
    rw c.as_slice.ensures.value (omega (arith, few, c.as_slice.ensures.value, c.as_slice.type_inv.1))

pub returns-clause-short : goal.returns-clause-short
returns-clause-short c = subst (λ (b : List ℕ). AreShort (whole_packets b)) (sym c.as_slice.ensures.value) (HasPackets-whole c.self.inside.bytes.items c.self.invariant).short
