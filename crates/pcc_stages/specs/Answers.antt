-- What the code of a stage answers, by what it asked and what the stage comes to.
use Rattle.std.specs.Prelude.{◌≡◌, ℕ, ◌*◌, ◌/◌, ◌<◌, ◌≤◌, List, ◌++◌, length, Option, Some, None, Result, Ok, Err}
use Rattle.file_port.specs.Events.{Event}
use Rattle.file_port.specs.Files.{FilesState}
use Rattle.pcc_stages.specs.Exits.{Exit}
use Rattle.pcc_stages.specs.Stage.{Stage, stops, gives, Follows}
use Rattle.pcc_stages.specs.Runs.{Happens, NoneFailed}
use Rattle.pcc_stages.specs.Texts.{texts}
use Rattle.pcc_stages.specs.declared.stops.Stop.{Stop}
use Rattle.pcc_stages.specs.Stops.{end_of}

-- whole words of code, 1 to 1,024 of them
pub record HasWholeCode (code : List ℕ) : Type 0 where
  pub whole : 4 * (length code / 4) ≡ length code
  pub some : 0 < length code
  pub short : length code ≤ 4096

-- the stage stops so, if there was memory
abbrev pub StopsAs : {A : Type 0} → Stage A → Option Exit → Type 0
StopsAs stage (Some exit) = stage ≡ stops exit
StopsAs stage None = Unit {0}

-- the answer of a stage that reads no file, seen by view, is what it gives, or where it stops, unless memory ran out
abbrev pub GivesPure : {A B : Type 0} → (B → A) → Stage A → Result B Stop → Type 0
GivesPure view stage (Ok x) = stage ≡ gives (view x)
GivesPure view stage (Err why) = StopsAs stage (end_of why)

-- none of the reads failed, where there is no exit
abbrev pub IsClean : List Event → Option Exit → Type 0
IsClean events (Some exit) = Unit {0}
IsClean events None = NoneFailed events

-- none of the reads failed before an answer that isn't a stop
abbrev pub IsCleanFor : {B : Type 0} → List Event → Result B Stop → Type 0
IsCleanFor events (Ok x) = NoneFailed events
IsCleanFor events (Err why) = IsClean events (end_of why)

-- The code of a stage asked for these reads, which are those that the stage asks for, and it answers what the stage then comes to.
pub record Gives {A B : Type 0} (view : B → A) (stage : Stage A) (e e' : List Event) (f g : FilesState) (result : Result B Stop) : Type 0 where
  pub events : List Event
  pub later : Stage A
  pub logged : e' ≡ e ++ events
  pub happened : Happens events f g
  pub follows : Follows texts events stage later
  pub is : GivesPure view later result
  pub clean : IsCleanFor events result
