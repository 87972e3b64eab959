-- What a put does to bytes and faults, before it is written into the log.
use Rattle.std.specs.Prelude.{◌≡◌, ℕ, ◌<◌, ◌≤◌, List, length, take}
use Rattle.file_port.specs.Counts.{Rose}
use Rattle.file_port.specs.Sink.{SinkState, extended_contents}
use Rattle.file_port.specs.declared.port.Put.{Put}
use Rattle.file_port.specs.declared.port.Put.TheVariants as put

-- A prefix of a piece that is not empty is taken, and a fault counted.
pub record TakesPart (piece : List ℕ) (old new : SinkState) : Type 0 where
  pub kept : ℕ
  pub contents : new.contents ≡ extended_contents (take kept piece) old.contents
  pub rose : Rose old.faults new.faults
  pub some : 0 < length piece
  pub part : kept ≤ length piece

-- a piece is taken, or a part of it
abbrev pub Takes : List ℕ → SinkState → SinkState → Put → Type 0
Takes piece old new put.Done = new ≡ record old { contents = extended_contents piece old.contents }
Takes piece old new put.Failed = TakesPart piece old new
