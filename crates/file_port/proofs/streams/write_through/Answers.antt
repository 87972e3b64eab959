use Rattle.std.proofs.Common.{length, arith}
use Rattle.std.proofs.lemmas.List.{take_all}
use Rattle.file_port.proofs.StreamLemmas.{Appends-keep}
use Rattle.file_port.proofs.streams.write_through.Goals as goal

-- the writer has all of the bytes, and the flush failed
pub returns-in_default-clause-taken : goal.returns-in_default-clause-taken
returns-in_default-clause-taken g c =
    let bytes = c.args.bytes.now in
    (length bytes, rw (take_all (length bytes) bytes (omega arith)) (Appends-keep _ _ _ bytes c.in-Done.ensures.taken c.flush.ensures.bytes))
