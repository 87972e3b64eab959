use Rattle.packet_store.proofs.Frames.{ReadSoFar-more}
use Rattle.packet_store.proofs.reader.find_fault.Goals as goal

pub loop-rest-preserved : goal.loop-rest-preserved
loop-rest-preserved c = ReadSoFar-more c.args.bytes.now c.loop-rest.rest.now c.in_ok-packet.packet.now c.in_ok-packet.after.now c.loop-rest.offset c.loop-rest.invariant c.in_ok-packet.ensures.0 c.in_ok-packet.ensures.1
