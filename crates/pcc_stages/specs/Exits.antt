-- What a run comes to where nothing fails: its status, what it prints, and what it writes.
use Rattle.std.specs.Prelude.{ℕ, List, Option, Some, None}
use Rattle.file_port.specs.Files.{FilesState, with_file}

-- how a run ends: its status, and the text that it prints
pub record Exit : Type 0 where
  pub status : ℕ
  pub text : List ℕ

-- the one file that is written, if one is: its name and its bytes
abbrev pub Change : Type 0
Change = Option (List ℕ × List ℕ)

-- how a run ends, and what it writes before it prints
pub record Answer : Type 0 where
  pub exit : Exit
  pub change : Change

-- the files with the change
abbrev pub changed : Change → FilesState → FilesState
changed None state = state
changed (Some file) state = with_file file.0 file.1 state
