-- A writer as a sink: what is told of it, and its writer.
use Rattle.std.specs.Prelude.{ℕ, List, take, Option, None}
use Rattle.std.specs.Io.KnownBytes.{Appends}
use Rattle.file_port.specs.Events.{put_bytes}
use Rattle.file_port.specs.Sink.{SinkState}
use Rattle.file_port.specs.declared.port.Put.{Put}
use Rattle.file_port.specs.declared.port.Put.TheVariants as put
use Rattle.file_port.specs.declared.std_sink.StdSink.{StdSink}

-- nothing is told of the bytes, but which were put
abbrev pub state_of_std_sink : {W : Type 0} → StdSink W → SinkState
state_of_std_sink sink = record { contents = None; faults = sink.faults; asked = put_bytes sink.log.events }

-- the writer that takes the pieces
abbrev pub writer_of : {W : Type 0} → StdSink W → W
writer_of sink = sink.out

-- a writer was given all of the bytes, or after a fault a prefix of them
abbrev pub TakesUp : Option (List ℕ) → Option (List ℕ) → List ℕ → Put → Type 0
TakesUp old new bytes put.Done = Appends old new bytes
TakesUp old new bytes put.Failed = (kept : ℕ) × Appends old new (take kept bytes)
