-- What a run did, whatever the files hold: its reads and its write, in their order, are what the command asks for, and what it
-- prints, and its status, go by what the reads gave.
use Rattle.std.specs.Prelude.{◌≡◌, ◌⊎◌, ℕ, ◌<◌, ◌≤◌, List, [], ◌∷◌, ◌++◌, slice_index, Contains, IfSome, Option, Some, None, Result, Ok, Err}
use Rattle.file_port.specs.Files.{FilesState, Reads, Writes}
use Rattle.file_port.specs.Events.{Given, whole, missing, too_long, failed, no_memory, Event, was_read, was_written, was_put}
use Rattle.file_port.specs.Sink.{SinkState, Puts}
use Rattle.file_port.specs.declared.port.Put.{Put}
use Rattle.file_port.specs.declared.port.Put.TheVariants as put
use Rattle.pcc_stages.specs.Exits.{Exit, Change, Answer}
use Rattle.pcc_stages.specs.Requests.{Request, Standing, Suits, Texts, command, write_fault_exit, no_memory_exit}
use Rattle.pcc_stages.specs.Stage.{Stage, stops, gives, reads, Follows, result_over, names_over}

-- what a command that isn't refused prints, and what it writes before
pub record Effect : Type 0 where
  pub text : List ℕ
  pub change : Change

-- what the arguments ask for
pub record Task : Type 0 where
  -- what they are by themselves
  pub standing : Standing
  -- the names of the files that are read, whatever they hold; none where they come from what a file holds
  pub names : Option (List (List ℕ))
  pub stage : Stage Effect

-- ---- what the events do

-- bytes, as far as there are
abbrev pub AreOctets : Given → Type 0
AreOctets (whole b) = (i : ℕ) → slice_index b i < 256
AreOctets missing = Unit {0}
AreOctets too_long = Unit {0}
AreOctets failed = Unit {0}
AreOctets no_memory = Unit {0}

-- The events took files from one state to the other, and each read gave bytes.
abbrev pub Happens : List Event → FilesState → FilesState → Type 0
Happens [] old new = new ≡ old
Happens (was_read name max given ∷ events) old new = (mid : FilesState) × Reads name max old mid given × AreOctets given × Happens events mid new
Happens (was_written name bytes answer ∷ events) old new = (mid : FilesState) × Writes name bytes old mid answer × Happens events mid new
Happens (was_put piece answer ∷ events) old new = ⊥

-- They are reads of which none failed.
abbrev pub NoneFailed : List Event → Type 0
NoneFailed [] = Unit {0}
NoneFailed (was_read name max (whole b) ∷ events) = NoneFailed events
NoneFailed (was_read name max missing ∷ events) = NoneFailed events
NoneFailed (was_read name max too_long ∷ events) = NoneFailed events
NoneFailed (was_read name max failed ∷ events) = ⊥
NoneFailed (was_read name max no_memory ∷ events) = NoneFailed events
NoneFailed (was_written name bytes answer ∷ events) = ⊥
NoneFailed (was_put piece answer ∷ events) = ⊥

-- ---- how a run ends

-- it is done, and prints this
abbrev pub done_exit : List ℕ → Exit
done_exit text = record { status = 0; text = text }

-- the exit behind a write to the name
abbrev pub written_exit : Texts → List ℕ → List ℕ → Put → Exit
written_exit texts name text put.Done = done_exit text
written_exit texts name text put.Failed = write_fault_exit texts name

-- The events are all that the stage asks for, and this is the exit by what they gave.
pub data Comes (texts : Texts) (stage : Stage Effect) (events : List Event) (exit : Exit) : Type 0 where
  stopped : Follows texts events stage (stops exit) → Comes texts stage events exit
  printed : (text : List ℕ) → Follows texts events stage (gives (record { text = text; change = None })) → exit ≡ done_exit text
      → Comes texts stage events exit
  wrote : (asked : List Event) (text name bytes : List ℕ) (answer : Put) → events ≡ asked ++ was_written name bytes answer ∷ []
      → Follows texts asked stage (gives (record { text = text; change = Some (name, bytes) })) → exit ≡ written_exit texts name text answer
      → Comes texts stage events exit

-- a failed put has the last word on the status
abbrev pub status_after : ℕ → Put → ℕ
status_after status put.Done = status
status_after status put.Failed = 4

-- the text was put, or a part of it, and this is the status
pub record Prints (exit : Exit) (old new : SinkState) (status : ℕ) : Type 0 where
  pub put : Put
  pub puts : Puts exit.text old new put
  pub after : status ≡ status_after exit.status put

-- By these events and puts a run ends with the status: all was asked for and an exit printed, or memory ran out on the way.
pub data EndsRun (texts : Texts) (stage : Stage Effect) (events : List Event) (s t : SinkState) (status : ℕ) : Type 0 where
  decided : (exit : Exit) → Comes texts stage events exit → Prints exit s t status → EndsRun texts stage events s t status
  out_of_memory : (later : Stage Effect) → Follows texts events stage later → NoneFailed events → t ≡ s → status ≡ 5
      → EndsRun texts stage events s t status

-- A run took files from a log e and a state f to a log e' and a state g, and output from s to t, and ended with the status.
pub record Runs (texts : Texts) (stage : Stage Effect) (e e' : List Event) (f g : FilesState) (s t : SinkState) (status : ℕ) : Type 0 where
  pub events : List Event
  pub logged : e' ≡ e ++ events
  pub happened : Happens events f g
  pub ends : EndsRun texts stage events s t status

-- ---- the same over files that are known

-- a command that isn't refused ends with status 0, and a refused one writes nothing
abbrev pub answer_of : Result Effect Exit → Answer
answer_of (Ok effect) = record { exit = done_exit effect.text; change = effect.change }
answer_of (Err exit) = record { exit = exit; change = None }

-- the request that a task is
abbrev pub request_of_task : Texts → Task → Request
request_of_task texts task = record {
  standing = task.standing;
  answer = λ files. answer_of (result_over texts files task.stage);
  reads = λ files. names_over files task.stage;
  names = task.names;
  texts = texts;
}

-- an exit of a stage that stops: a refusal, which goes with what the arguments are
pub record IsStop (texts : Texts) (standing : Standing) (exit : Exit) : Type 0 where
  pub suits : Suits texts standing exit
  pub some : 0 < exit.status
  pub in_range : exit.status ≤ 2

-- Where the stage stops, that is a refusal, or there was no memory; it reads the named files alone, and reads and gives only where the arguments are a command.
abbrev pub IsSuited : {A : Type 0} → Texts → Standing → Option (List (List ℕ)) → Stage A → Type 0
IsSuited texts standing names (stops exit) = IsStop texts standing exit ⊎ (exit ≡ no_memory_exit)
IsSuited texts standing names (gives x) = standing ≡ command
IsSuited texts standing names (reads name max more on) =
    (standing ≡ command) × IfSome names (λ all. Contains all name) × IsStop texts standing more × ((b : List ℕ) → IsSuited texts standing names (on b))
