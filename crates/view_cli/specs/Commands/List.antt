-- `list FILE [SOURCE]`
use Rattle.std.specs.Prelude.{ℕ, List, Option, Some, None, Result, Ok, Err}
use Rattle.proof_container.specs.Contents.{Contents}
use Rattle.proof_container.specs.Decoding.{Fault, decoded_container}
use Rattle.view_container.specs.Beside.{BesideView, nothing_beside}
use Rattle.view_container.specs.Listing.{listing_text}
use Rattle.view_source_faults.specs.SourceCode.{LinesAndCode, WrongLine, source_code}
use Rattle.pcc_lines.specs.Sources.{source_fault_line}
use Rattle.pcc_stages.specs.Exits.{Exit}
use Rattle.pcc_stages.specs.Runs.{done_exit}
use Rattle.pcc_stages.specs.Stage.{Stage, stops, gives, ◌>>=◌}
use Rattle.pcc_stages.specs.Stages.Common.{refused}
use Rattle.pcc_stages.specs.Stages.Containers.{container_bytes_of}
use Rattle.view_cli.specs.Commands.Faults.{text_of}
use Rattle.view_looks.specs.Looks.{look_of, no_container_text}

-- what is said of bytes that aren't a container
abbrev pub unlisted_exit : List ℕ → Fault → Exit
unlisted_exit bytes fault = refused (no_container_text fault.0 fault.1 (look_of bytes))

-- a source beside a container, by its code
abbrev pub beside_found : Result LinesAndCode WrongLine → Stage BesideView
beside_found (Ok source) = gives (record { lines = source.0; code = Some source.1 })
beside_found (Err wrong) = stops (refused (source_fault_line wrong.0 wrong.1))

-- the source that the text spells, beside a container of this version and with this bound
unfoldable pub beside_in : ℕ → Option ℕ → List ℕ → Stage BesideView
beside_in version bound text = beside_found (source_code version bound text)

-- the source in the file of the name, if there is one
unfoldable pub source_beside : ℕ → Option ℕ → Option (List ℕ) → Stage BesideView
source_beside version bound None = gives nothing_beside
source_beside version bound (Some name) = text_of name >>= beside_in version bound

-- the source and what is wrong with it, and the listing of a container
abbrev pub listing_beside : Option (List ℕ) → Contents → Stage Exit
listing_beside source c = do
  beside ← source_beside c.version c.bound source
  gives (done_exit (listing_text c beside))

-- the same of what bytes were read as, or what they look like
abbrev pub listing_in : Option (List ℕ) → List ℕ → Result Contents Fault → Stage Exit
listing_in source bytes (Ok c) = listing_beside source c
listing_in source bytes (Err fault) = gives (unlisted_exit bytes fault)

-- the container, the source and what is wrong with it, and the listing
unfoldable pub list_command : List ℕ → Option (List ℕ) → Stage Exit
list_command file source = do
  bytes ← container_bytes_of file
  listing_in source bytes (decoded_container bytes)
