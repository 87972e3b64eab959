use Rattle.std.proofs.Common.{ℕ, List, subst, sym, ap, ◌∙◌}
use Rattle.packet_store.specs.Packets.{IsWhole}
use Rattle.packet_store.specs.PacketDecoding.{decoded_packets}
use Rattle.packet_store.proofs.Readings.{HasPackets-whole, decoded_packets-fault}
use Rattle.packet_store.proofs.reader.PacketFile.new.Goals as goal

pub returns-in-Ok : goal.returns-in-Ok
returns-in-Ok c = (HasPackets-whole c.args.bytes.items (subst (λ (b : List ℕ). IsWhole b) c.deref.ensures.value c.in-Ok.ensures.whole)).read

pub returns-in-Err : goal.returns-in-Err
returns-in-Err c = sym (decoded_packets-fault c.deref.result.now c.in-Err.fault c.in-Err.ensures.fault) ∙ ap decoded_packets c.deref.ensures.value
