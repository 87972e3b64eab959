-- How a run of a program may end.
use Rattle.std.specs.Prelude.{◌≡◌, ℕ, ◌<◌, ◌≤◌, List, IfSome, Some, None, Contains}
use Rattle.file_port.specs.Files.{FilesState, ReadFails, WriteFails}
use Rattle.file_port.specs.Sink.{SinkState, PutFails, with_piece}
use Rattle.pcc_stages.specs.Exits.{Change, Exit, changed}
use Rattle.pcc_stages.specs.Requests.{Request, Suits, command, read_fault_exit, write_fault_exit}

-- The files were read, and the change made, and this is the answer.
pub record IsAnswered (request : Request) (old new : FilesState) (exit : Exit) : Type 0 where
  pub change : Change
  pub made : new ≡ changed change old
  pub exact : IfSome old.contents (λ files.
      request.answer files ≡ record { exit = exit; change = change })
  pub in_range : exit.status ≤ 3
  -- a refused command writes nothing
  pub no_change : 0 < exit.status → change ≡ None
  -- also where the files are not known
  pub suits : Suits request.texts request.standing exit

-- A read that the answer asks for failed, and this is its line.
pub record IsReadFault (request : Request) (old new : FilesState) (exit : Exit) : Type 0 where
  pub name : List ℕ
  pub asked : IfSome old.contents (λ files. Contains (request.reads files) name)
  -- also where the files are not known
  pub named : IfSome request.names (λ names. Contains names name)
  pub command : request.standing ≡ command
  pub fails : ReadFails old new
  pub line : exit ≡ read_fault_exit request.texts name

-- The write that the answer asks for failed, and this is its line.
pub record IsWriteFault (request : Request) (old new : FilesState) (exit : Exit) : Type 0 where
  pub name : List ℕ
  pub bytes : List ℕ
  pub asked : IfSome old.contents (λ files.
      (request.answer files).change ≡ Some (name, bytes))
  pub command : request.standing ≡ command
  pub fails : WriteFails name bytes old new
  pub line : exit ≡ write_fault_exit request.texts name

-- what is decided once the files were read and written
pub data IsDecision (request : Request) (old new : FilesState) (exit : Exit) : Type 0 where
  answered : IsAnswered request old new exit → IsDecision request old new exit
  not_read : IsReadFault request old new exit → IsDecision request old new exit
  not_written : IsWriteFault request old new exit → IsDecision request old new exit

-- From files f and output s to files g and output t: all of what was decided is printed, or a put fails and a part of
-- it is, or memory ran out before anything was done.
pub data Ends (request : Request) (f g : FilesState) (s t : SinkState) (status : ℕ) : Type 0 where
  printed : (exit : Exit) → IsDecision request f g exit → t ≡ with_piece exit.text s → status ≡ exit.status
      → Ends request f g s t status
  put_failed : (exit : Exit) → IsDecision request f g exit → PutFails exit.text s t → status ≡ 4
      → Ends request f g s t status
  out_of_memory : g ≡ f → t ≡ s → status ≡ 5 → Ends request f g s t status
