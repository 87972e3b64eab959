-- What a reader's bytes say of a read to the end, where they are known.
use Rattle.std.specs.Prelude.{◌≡◌, ℕ, ◌<◌, ◌≤◌, List, length, ⊤}
use Rattle.file_port.specs.declared.port.Got.{Got}
use Rattle.file_port.specs.declared.port.Got.TheVariants as got

-- what a read to the end may answer that takes at most max bytes, where these are the reader's
abbrev pub MayRead : ℕ → List ℕ → Got → Type 0
MayRead max bytes (got.Bytes given) = (given.items ≡ bytes) × (length bytes ≤ max)
MayRead max bytes got.TooLong = max < length bytes
MayRead max bytes got.Missing = ⊥
MayRead max bytes got.Failed = ⊤
MayRead max bytes got.Memory = ⊤
