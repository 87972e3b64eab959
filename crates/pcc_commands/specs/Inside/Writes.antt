-- What the write of a command answers.
use Rattle.std.specs.Prelude.{◌≡◌, ℕ, List, [], ◌∷◌, ◌++◌, length, Result, Ok, Err}
use Rattle.file_port.specs.Events.{Event, was_written}
use Rattle.file_port.specs.Files.{FilesState, Writes}
use Rattle.file_port.specs.declared.port.Put.{Put}
use Rattle.file_port.specs.declared.port.Put.TheVariants as put
use Rattle.pcc_stages.specs.declared.stops.Stop.{Stop}
use Rattle.pcc_stages.specs.declared.stops.Stop.TheVariants as stop
use Rattle.pcc_commands.specs.declared.report.Report.{Report}
use Rattle.pcc_commands.specs.declared.report.Report.TheVariants as report

-- the bytes were written, and are counted; or the write failed
abbrev pub TellsWrite : List ℕ → List ℕ → Put → Result Report Stop → Type 0
TellsWrite name bytes put.Done (Ok (report.Written count)) = count ≡ length bytes
TellsWrite name bytes put.Failed (Err (stop.WriteFault other)) = other.now ≡ name
TellsWrite name bytes answer other = ⊥

-- the bytes were written to the file of the name, or the write failed, and nothing else was asked
pub record Wrote (name bytes : List ℕ) (e e' : List Event) (f g : FilesState) (result : Result Report Stop) : Type 0 where
  pub answer : Put
  pub logged : e' ≡ e ++ was_written name bytes answer ∷ []
  pub writes : Writes name bytes f g answer
  pub tells : TellsWrite name bytes answer result
