-- What a caller may know of files, and what a read and a write do.
use Rattle.std.specs.Prelude.{◌≡◌, ℕ, ◌≤◌, List, length, take, ◌⊎◌, Option, option_map, IfSome, ⊤}
use Rattle.std.specs.Ordering.{nat_cmp}
use Rattle.std.specs.Cmp.Lexicographic.{slice_cmp}
use Rattle.std.specs.FinMap as map
use Rattle.file_port.specs.Counts.{Rose}
use Rattle.file_port.specs.declared.port.Put.{Put}
use Rattle.file_port.specs.declared.port.Put.TheVariants as put
use Rattle.file_port.specs.Events.{Given, whole, missing, too_long, failed, no_memory, given_by}

-- from names to bytes
abbrev pub FileMap : Type 0
FileMap = map.FinMap (slice_cmp nat_cmp) (List ℕ)

-- what a caller may know of files
pub record FilesState : Type 0 where
  -- the files, where they are known
  pub contents : Option FileMap
  pub read_faults : ℕ
  pub write_faults : ℕ

-- what is told of a file has P
abbrev pub TellsOf : FilesState → List ℕ → (Option (List ℕ) → Type 0) → Type 0
TellsOf state name P = IfSome state.contents (λ files. P (map.get files name))

-- A failed read leaves the files and the other count.
pub record ReadFails (old new : FilesState) : Type 0 where
  pub contents : new.contents ≡ old.contents
  pub write_faults : new.write_faults ≡ old.write_faults
  pub rose : Rose old.read_faults new.read_faults

-- what a read of at most max bytes may give that doesn't fail, where this is what the file has
abbrev pub MayGive : ℕ → Option (List ℕ) → Given → Type 0
MayGive max known failed = ⊥
MayGive max known no_memory = ⊤
MayGive max known (whole b) = whole b ≡ given_by max known
MayGive max known missing = missing ≡ given_by max known
MayGive max known too_long = too_long ≡ given_by max known

-- it gives at most so many bytes
abbrev pub GivesAtMost : ℕ → Given → Type 0
GivesAtMost max (whole b) = length b ≤ max
GivesAtMost max _ = ⊤

-- A read that doesn't fail leaves everything as it was, and gives what is right where the file is known.
pub record ReadAnswers (name : List ℕ) (max : ℕ) (old new : FilesState) (given : Given) : Type 0 where
  pub same : new ≡ old
  pub within : GivesAtMost max given
  pub right : TellsOf old name (λ known. MayGive max known given)

-- what a read of a name, of at most max bytes, does
abbrev pub Reads : List ℕ → ℕ → FilesState → FilesState → Given → Type 0
Reads name max old new failed = ReadFails old new
Reads name max old new given = ReadAnswers name max old new given

-- the state with one file's bytes set
abbrev pub with_file : List ℕ → List ℕ → FilesState → FilesState
with_file name bytes state = record state { contents = option_map (λ files. map.insert files name bytes) state.contents }

-- A failed write leaves the file, or sets it to a prefix of the bytes. Other files and the other count stay.
pub record WriteFails (name bytes : List ℕ) (old new : FilesState) : Type 0 where
  pub contents : (new.contents ≡ old.contents) ⊎ ((kept : ℕ) × (new.contents ≡ (with_file name (take kept bytes) old).contents))
  pub read_faults : new.read_faults ≡ old.read_faults
  pub rose : Rose old.write_faults new.write_faults

-- what a write of bytes to a name does
abbrev pub Writes : List ℕ → List ℕ → FilesState → FilesState → Put → Type 0
Writes name bytes old new put.Done = new ≡ with_file name bytes old
Writes name bytes old new put.Failed = WriteFails name bytes old new
