-- What a caller learns of a run from its status and the counts of faults.
use Rattle.std.specs.Prelude.{◌≡◌, ◌≢◌, ℕ, ◌<◌, ◌≤◌, ◌⊎◌, List, ◌++◌, Some, IfSome}
use Rattle.file_port.specs.Counts.{Rose, IsQuiet}
use Rattle.file_port.specs.Files.{FilesState}
use Rattle.file_port.specs.Sink.{SinkState, PutFails, extended_contents, with_piece}
use Rattle.pcc_stages.specs.Exits.{Exit, changed}
use Rattle.pcc_stages.specs.Requests as standing
use Rattle.pcc_stages.specs.Requests.{Request, usage_exit, unknown_policy_exit}
use Rattle.pcc_stages.specs.Ends.{IsDecision, IsReadFault, IsWriteFault}

-- no read and no write failed
pub record FilesAreQuiet (old new : FilesState) : Type 0 where
  pub reads : IsQuiet old.read_faults new.read_faults
  pub writes : IsQuiet old.write_faults new.write_faults

-- the run has this status, and its text was put
abbrev pub HasExit : Exit → SinkState → SinkState → ℕ → Type 0
HasExit exit old new status = (status ≡ exit.status) × (new ≡ with_piece exit.text old)

-- the same, but for a failed put or want of memory
abbrev pub HasExitOrFails : Exit → SinkState → SinkState → ℕ → Type 0
HasExitOrFails exit old new status = HasExit exit old new status ⊎ ((status ≡ 4) ⊎ (status ≡ 5))

-- A run on a request went from files f and output s to files g and output t, and ended with the status.
pub record Accounts (request : Request) (f g : FilesState) (s t : SinkState) (status : ℕ) : Type 0 where
  -- Where nothing failed and memory did not run out, status, text and files are the answer.
  pub answered : FilesAreQuiet f g → IsQuiet s.faults t.faults → status ≢ 5
      → IfSome f.contents (λ files. let a = request.answer files in
      HasExit a.exit s t status × (g ≡ changed a.change f))
  -- Where the answer is that a command is done, and nothing failed, the status is 0 or 5. At 0 text and files are the answer.
  pub complete : FilesAreQuiet f g → IsQuiet s.faults t.faults
      → IfSome f.contents (λ files. let a = request.answer files in
      a.exit.status ≡ 0 → (status ≡ 5)
      ⊎ ((status ≡ 0) × (t ≡ with_piece a.exit.text s) × (g ≡ changed a.change f)))
  -- Where a put failed, the status is 4, and a part of what was decided is printed.
  pub put_failed : s.faults < t.faults
      → (status ≡ 4) × (exit : Exit) × IsDecision request f g exit × PutFails exit.text s t
  -- Where a read failed and no put did, the status is 3, and the line of the fault is printed.
  pub read_failed : f.read_faults < g.read_faults → IsQuiet s.faults t.faults
      → (status ≡ 3) × (exit : Exit) × IsReadFault request f g exit × (t ≡ with_piece exit.text s)
  -- Where a write failed and no put did, the status is 4, and the line of the fault is printed.
  pub write_failed : f.write_faults < g.write_faults → IsQuiet s.faults t.faults
      → (status ≡ 4) × (exit : Exit) × IsWriteFault request f g exit × (t ≡ with_piece exit.text s)
  -- The statuses 0, 1 and 2 come only where no count rose.
  pub no_count_rose : status < 3
      → (g.read_faults ≡ f.read_faults) × (g.write_faults ≡ f.write_faults) × (t.faults ≡ s.faults)
  -- Status 2 comes only where the arguments are no command. There no other comes, and the usage line is printed.
  pub usage : status ≡ 2 → request.standing ≡ standing.no_command
  pub no_command : request.standing ≡ standing.no_command
      → HasExitOrFails (usage_exit request.texts) s t status
  -- An unknown policy brings status 1 and its line. Nothing else brings that line with status 1.
  pub unknown_policy : request.standing ≡ standing.unknown_policy
      → HasExitOrFails (unknown_policy_exit request.texts) s t status
  pub unknown_policy_only : IfSome s.contents (λ before. status ≡ 1
      → t.contents ≡ Some (before ++ request.texts.unknown_policy)
      → request.standing ≡ standing.unknown_policy)
  -- Status 1 comes only where the answer is a refusal.
  pub refused : status ≡ 1 → IfSome f.contents (λ files. (request.answer files).exit.status ≡ 1)
  -- Status 3 comes only where a read failed, or where nothing failed and the answer is that a file is missing.
  pub missing_or_fault : status ≡ 3
      → Rose f.read_faults g.read_faults
      ⊎ ((g ≡ f) × (t.faults ≡ s.faults)
      × IfSome f.contents (λ files. (request.answer files).exit.status ≡ 3))
  -- Status 4 comes only where a write or a put failed.
  pub write_or_put_failed : status ≡ 4 → Rose f.write_faults g.write_faults ⊎ Rose s.faults t.faults
  -- A refused command leaves the files.
  pub unchanged : 0 < status → status < 4 → g.contents ≡ f.contents
  -- What was put stays put.
  pub extends : (text : List ℕ) × (t.contents ≡ extended_contents text s.contents)
  -- Status 5 leaves all as it was.
  pub out_of_memory : status ≡ 5 → (g ≡ f) × (t ≡ s)
  pub in_range : status ≤ 5
