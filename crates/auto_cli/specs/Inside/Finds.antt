-- What the code decides behind its reads, with the outcome of the search.
use Rattle.std.specs.Prelude.{◌≡◌, ℕ, List, [], ◌∷◌, ◌++◌, length, Option, IsSome, IfSome, Some, None, Result, Ok, Err}
use Rattle.file_port.specs.Events.{Event, was_written}
use Rattle.file_port.specs.Files.{FilesState, Writes}
use Rattle.file_port.specs.declared.port.Put.{Put}
use Rattle.file_port.specs.declared.port.Put.TheVariants as put
use Rattle.policy_set.specs.Views.{PolicyView}
use Rattle.pcc_stages.specs.Requests.{usage_exit}
use Rattle.pcc_stages.specs.Stage.{Stage, stops, gives, ◌>>=◌, Follows}
use Rattle.pcc_stages.specs.Texts.{texts}
use Rattle.pcc_stages.specs.Decisions.{end_of_decision, Decides}
use Rattle.pcc_stages.specs.declared.stops.Stop.{Stop}
use Rattle.pcc_stages.specs.declared.stops.Stop.TheVariants as stop
use Rattle.auto_search.specs.Outcomes.{OutcomeView, IsOutcome}
use Rattle.auto_cli.specs.Arguments.{AutoArgs}
use Rattle.auto_cli.specs.Drafts.{DraftView, draft_of}
use Rattle.auto_cli.specs.Reports.{auto_exit}
use Rattle.auto_cli.specs.Tasks.{left_goals, settled_draft}
use Rattle.auto_cli.specs.Texts.{auto_texts}
use Rattle.auto_cli.specs.declared.report.Report.{Report}
use Rattle.auto_cli.specs.declared.report.Report.TheVariants as report

-- The decision is what the stage of a draft comes to, and what then comes of some outcome of a search.
-- Where the reads lead to a draft, and there was memory, the outcome is one of that draft.
pub record FindsDraft (drafts : Stage DraftView) (output : List ℕ) (e e' : List Event) (f g : FilesState)
    (d : Result Report Stop) : Type 0 where
  pub outcome : OutcomeView
  pub decides : Decides auto_exit (drafts >>= settled_draft output outcome) e e' f g d
  pub fits : (asked rest : List Event) (draft : DraftView) → IsSome (end_of_decision auto_exit d)
      → e' ≡ e ++ (asked ++ rest) → Follows texts asked drafts (gives draft)
      → IsOutcome draft.policy draft.bytes outcome

-- the same of the arguments
abbrev pub FindsBy : AutoArgs → List Event → List Event → FilesState → FilesState
    → Result Report Stop → Type 0
FindsBy args e e' f g d = FindsDraft (draft_of args) args.output e e' f g d

-- the same where the arguments are a command, and else the usage line
abbrev pub FindsIfTold : Option AutoArgs → List Event → List Event → FilesState → FilesState
    → Result Report Stop → Type 0
FindsIfTold (Some args) e e' f g d = FindsBy args e e' f g d
FindsIfTold None e e' f g d = Decides auto_exit (stops (usage_exit auto_texts)) e e' f g d

-- the bytes were written, and are counted with their invariants; or the write failed
abbrev pub TellsFound : List ℕ → List ℕ → ℕ → Put → Result Report Stop → Type 0
TellsFound name bytes invariants put.Done (Ok (report.Found count k)) =
    (count ≡ length bytes) × (k ≡ invariants)
TellsFound name bytes invariants put.Failed (Err (stop.WriteFault other)) = other.now ≡ name
TellsFound name bytes invariants answer other = ⊥

-- the bytes were written to the file of the name, or the write failed, and nothing else was asked
pub record WroteFound (name bytes : List ℕ) (invariants : ℕ) (e e' : List Event) (f g : FilesState)
    (result : Result Report Stop) : Type 0 where
  pub answer : Put
  pub logged : e' ≡ e ++ was_written name bytes answer ∷ []
  pub writes : Writes name bytes f g answer
  pub tells : TellsFound name bytes invariants answer result

-- it ends with the goals that are left, if there was memory
abbrev pub LeavesGoals : PolicyView → List ℕ → Result Report Stop → Type 0
LeavesGoals policy kept d =
    IfSome (end_of_decision auto_exit d) (λ exit. left_goals policy kept ≡ exit)
