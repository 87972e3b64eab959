use Rattle.std.proofs.Common.{length}
use Rattle.packet_store.proofs.Frames.{ReadSoFar}
use Rattle.packet_store.proofs.reader.find_fault.Given as goal

abbrev pub invariant-loop-rest : goal.invariant-loop-rest
invariant-loop-rest l = ReadSoFar l.bytes l.rest l.offset

abbrev pub decreases-loop-rest : goal.decreases-loop-rest
decreases-loop-rest l = length l.rest
