use Rattle.std.proofs.Common.{sym}
use Rattle.packet_store.proofs.Readings.{HasPackets-whole, decoded_packets-fault}
use Rattle.packet_store.proofs.reader.packets.Goals as goal

pub returns-in-Ok-clause-decodes : goal.returns-in-Ok-clause-decodes
returns-in-Ok-clause-decodes c = let h = HasPackets-whole c.args.bytes.now c.in-Ok.ensures.whole in (h.short, h.encoded)

pub returns-in-Ok-clause-exact : goal.returns-in-Ok-clause-exact
returns-in-Ok-clause-exact c = (HasPackets-whole c.args.bytes.now c.in-Ok.ensures.whole).read

pub returns-in-Err-clause-exact : goal.returns-in-Err-clause-exact
returns-in-Err-clause-exact c = sym (decoded_packets-fault c.args.bytes.now c.in-Err.fault c.in-Err.ensures.fault)
