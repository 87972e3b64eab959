-- What a caller may know of output, and what a put does.
use Rattle.std.specs.Prelude.{◌≡◌, ℕ, ◌<◌, ◌≤◌, List, ◌++◌, length, take, Option, option_map}
use Rattle.file_port.specs.Counts.{Rose}
use Rattle.file_port.specs.declared.port.Put.{Put}
use Rattle.file_port.specs.declared.port.Put.TheVariants as put

-- what a caller may know of output
pub record SinkState : Type 0 where
  -- the bytes so far, where they are known
  pub contents : Option (List ℕ)
  pub faults : ℕ
  -- the pieces of all puts so far, one behind the other, that of a failed put too
  pub asked : List ℕ

-- the known bytes, and then a piece
abbrev pub extended_contents : List ℕ → Option (List ℕ) → Option (List ℕ)
extended_contents piece contents = option_map (λ bytes. bytes ++ piece) contents

-- the state with the whole piece added
abbrev pub with_piece : List ℕ → SinkState → SinkState
with_piece piece state = record state { contents = extended_contents piece state.contents; asked = state.asked ++ piece }

-- A failed put adds a prefix of a piece that is not empty. At least as much of the piece was put.
pub record PutFails (piece : List ℕ) (old new : SinkState) : Type 0 where
  pub kept : ℕ
  pub contents : new.contents ≡ extended_contents (take kept piece) old.contents
  pub tried : ℕ
  pub asked : new.asked ≡ old.asked ++ take tried piece
  pub fewer : kept ≤ tried
  pub rose : Rose old.faults new.faults
  pub some : 0 < length piece

-- what a put of a piece does
abbrev pub Puts : List ℕ → SinkState → SinkState → Put → Type 0
Puts piece old new put.Done = new ≡ with_piece piece old
Puts piece old new put.Failed = PutFails piece old new
