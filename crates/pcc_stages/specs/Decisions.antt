-- How a command ends, once the files were read and written.
use Rattle.std.specs.Prelude.{◌≡◌, List, ◌++◌, Option, Some, None, unwrap_or, Result, Ok, Err}
use Rattle.file_port.specs.Events.{Event}
use Rattle.file_port.specs.Files.{FilesState}
use Rattle.pcc_stages.specs.Exits.{Exit}
use Rattle.pcc_stages.specs.Requests.{no_memory_exit}
use Rattle.pcc_stages.specs.Stage.{Stage, Follows}
use Rattle.pcc_stages.specs.Runs.{Effect, Happens, NoneFailed, Comes}
use Rattle.pcc_stages.specs.Texts.{texts}
use Rattle.pcc_stages.specs.declared.stops.Stop.{Stop}
use Rattle.pcc_stages.specs.Stops.{end_of}

-- the exit of what was decided, if there was memory; a report ends so
abbrev pub end_of_decision : {R : Type 0} → (R → Exit) → Result R Stop → Option Exit
end_of_decision ended (Ok report) = Some (ended report)
end_of_decision ended (Err why) = end_of why

-- the exit of what was decided, if the puts are done
abbrev pub exit_of : {R : Type 0} → (R → Exit) → Result R Stop → Exit
exit_of ended decision = unwrap_or (end_of_decision ended decision) no_memory_exit

-- the events are all that the stage asks for, and this is the exit; or memory ran out on the way
abbrev pub EndsWith : Stage Effect → List Event → Option Exit → Type 0
EndsWith stage events (Some exit) = Comes texts stage events exit
EndsWith stage events None = (later : Stage Effect) × Follows texts events stage later × NoneFailed events

-- The decision, a report that ends so or a stop, is what the stage comes to by what was asked and answered.
pub record Decides {R : Type 0} (ended : R → Exit) (stage : Stage Effect) (e e' : List Event) (f g : FilesState) (decision : Result R Stop) : Type 0 where
  pub events : List Event
  pub logged : e' ≡ e ++ events
  pub happened : Happens events f g
  pub ends : EndsWith stage events (end_of_decision ended decision)
