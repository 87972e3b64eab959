-- What is asked of files and of output, and what they answer. Only proofs read it.
use Rattle.std.specs.Prelude.{ℕ, ◌<◌, List, [], ◌∷◌, ◌++◌, length, Option, Some, None, nat_lt, if◌then◌else◌}
use Rattle.file_port.specs.declared.port.Got.{Got}
use Rattle.file_port.specs.declared.port.Got.TheVariants as got
use Rattle.file_port.specs.declared.port.Put.{Put}

-- what a read gives: all bytes of the file, or none
pub data Given : Type 0 where
  whole : List ℕ → Given
  missing : Given
  too_long : Given
  failed : Given
  no_memory : Given

-- what an answer gives
abbrev pub given_of : Got → Given
given_of (got.Bytes b) = whole b.items
given_of got.Missing = missing
given_of got.TooLong = too_long
given_of got.Failed = failed
given_of got.Memory = no_memory

-- what a read of at most max bytes gives, where this is what the file has, and nothing fails
abbrev pub given_by : ℕ → Option (List ℕ) → Given
given_by max None = missing
given_by max (Some b) = if nat_lt max (length b) then too_long else whole b

-- what was asked, and what was answered
pub data Event : Type 0 where
  -- a read of the file of a name, of at most so many bytes
  was_read : List ℕ → ℕ → Given → Event
  -- a write of bytes to the file of a name
  was_written : List ℕ → List ℕ → Put → Event
  -- a put of a piece of output
  was_put : List ℕ → Put → Event

-- the pieces that were put, one behind the other, failed ones too
abbrev pub put_bytes : List Event → List ℕ
put_bytes [] = []
put_bytes (was_put piece answer ∷ more) = piece ++ put_bytes more
put_bytes (was_read name max given ∷ more) = put_bytes more
put_bytes (was_written name bytes answer ∷ more) = put_bytes more
