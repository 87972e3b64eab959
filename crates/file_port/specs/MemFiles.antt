-- Files in memory: what their contracts see, and what a read and a write make of it.
use Rattle.std.specs.Prelude.{◌≡◌, ℕ, ◌-◌, Bool, ◌&&◌, nat_lt, nat_le, if◌then◌else◌, List, [], ◌∷◌, ◌++◌, length, Some, map, reverse, refl, string_bytes}
use Rattle.std.specs.declared.string.String.{String}
use Rattle.std.specs.declared.vec.Vec.{Vec}
use Rattle.std.specs.declared.alloc.Global.{Global}
use Rattle.std.specs.FinMap as finmap
use Rattle.std.specs.Coded.{Coded, code_by, coded×, coded_ℕ, coded_list}
use Rattle.file_port.specs.declared.spare.TheConstants.{MAX_NAME, MAX_BYTES}
use Rattle.file_port.specs.Counts.{count_after}
use Rattle.file_port.specs.Calls.{is_failing, first_half}
use Rattle.file_port.specs.Files.{FileMap, FilesState}
use Rattle.file_port.specs.declared.port.Put.{Put}
use Rattle.file_port.specs.declared.port.Put.TheVariants as put
use Rattle.file_port.specs.Events.{Given, whole, missing, too_long, failed, no_memory, given_by, Event, was_read, was_written}
use Rattle.file_port.specs.Stored.{events_code}

-- what contracts see of files in memory
pub record MemFilesView : Type 0 where
  pub files : FileMap
  pub read_faults : ℕ
  pub write_faults : ℕ
  -- for how many writes there is room
  pub room : ℕ
  -- how many reads and writes were called, and the numbers of those that fail
  pub calls : ℕ
  pub failing : List ℕ
  -- the calls, with their answers
  pub log : List Event

-- as nested pairs
abbrev pub mem_files_code : Coded MemFilesView
mem_files_code =
    code_by (FileMap × (ℕ × (ℕ × (ℕ × (ℕ × (List ℕ × List Event))))))
    (coded× (finmap.code (coded_list coded_ℕ) (coded_list coded_ℕ))
    (coded× coded_ℕ (coded× coded_ℕ (coded× coded_ℕ (coded× coded_ℕ (coded× (coded_list coded_ℕ) events_code))))))
    (λ v. (v.files, (v.read_faults, (v.write_faults, (v.room, (v.calls, (v.failing, v.log)))))))
    (λ p. record {
      files = p.0;
      read_faults = p.1.0;
      write_faults = p.1.1.0;
      room = p.1.1.1.0;
      calls = p.1.1.1.1.0;
      failing = p.1.1.1.1.1.0;
      log = p.1.1.1.1.1.1;
    }) (λ _. refl)

-- what is told of files in memory
abbrev pub state_of_mem_files : MemFilesView → FilesState
state_of_mem_files v = record { contents = Some v.files; read_faults = v.read_faults; write_faults = v.write_faults }

-- the map that a list of files makes, by the first of a name
abbrev pub file_map : List (String Global × Vec ℕ Global) → FileMap
file_map files = finmap.from_entries (map (λ e. (string_bytes e.0, e.1.items)) files)

-- the map that a log of writes makes, by the last of a name
abbrev pub log_map : List (String Global × Vec ℕ Global) → FileMap
log_map files = file_map (reverse files)

-- whether the next call is one that is to fail
abbrev pub files_fail_next : MemFilesView → Bool
files_fail_next v = is_failing v.failing v.calls

-- with one more event in the log
abbrev pub with_event : Event → MemFilesView → MemFilesView
with_event event v = record v { log = v.log ++ event ∷ [] }

-- after one more call
abbrev pub files_after_call : MemFilesView → MemFilesView
files_after_call v = record v { calls = count_after v.calls }

-- ---- a read

-- what the next call gives, if it is a read of a name and of at most max bytes, and there is memory
abbrev pub next_given : MemFilesView → List ℕ → ℕ → Given
next_given v name max = if files_fail_next v then failed else given_by max (finmap.get v.files name)

-- A read gives that, or there was no memory for the bytes.
abbrev pub IsGiven : Given → Given → Type 0
IsGiven wanted no_memory = (b : List ℕ) × (wanted ≡ whole b)
IsGiven wanted (whole b) = wanted ≡ whole b
IsGiven wanted missing = wanted ≡ missing
IsGiven wanted too_long = wanted ≡ too_long
IsGiven wanted failed = wanted ≡ failed

-- what a read leaves but for the log
abbrev pub counted_read : MemFilesView → MemFilesView
counted_read v = if files_fail_next v then record (files_after_call v) { read_faults = count_after v.read_faults } else files_after_call v

-- what a read leaves that gives this
abbrev pub after_read : MemFilesView → List ℕ → ℕ → Given → MemFilesView
after_read v name max given = with_event (was_read name max given) (counted_read v)

-- ---- a write

-- whether there is room for a write of these bytes to a name
abbrev pub has_room : MemFilesView → List ℕ → List ℕ → Bool
has_room v name bytes = nat_le (length name) MAX_NAME && nat_le (length bytes) MAX_BYTES && nat_lt 0 v.room

-- with these bytes as the file, in room for one write
abbrev pub with_stored : List ℕ → List ℕ → MemFilesView → MemFilesView
with_stored name bytes v = record v { files = finmap.insert v.files name bytes; room = v.room - 1 }

-- with one more failed write
abbrev pub after_failed_write : MemFilesView → MemFilesView
after_failed_write v = record v { write_faults = count_after v.write_faults }

-- What a write leaves but for the log, and what it answers. One past the room leaves the files, and one that is to fail the
-- first half.
abbrev pub stored_write : MemFilesView → List ℕ → List ℕ → MemFilesView × Put
stored_write v name bytes =
    if has_room v name bytes
    then (if files_fail_next v
    then (after_failed_write (with_stored name (first_half bytes) (files_after_call v)), put.Failed)
    else (with_stored name bytes (files_after_call v), put.Done))
    else (after_failed_write (files_after_call v), put.Failed)

-- what a write leaves, and what it answers
abbrev pub after_write : MemFilesView → List ℕ → List ℕ → MemFilesView × Put
after_write v name bytes =
    let stored = stored_write v name bytes in
    (with_event (was_written name bytes stored.1) stored.0, stored.1)
