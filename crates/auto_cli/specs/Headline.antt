-- What a run of pcc_auto did, whatever the files hold.
use Rattle.std.specs.Prelude.{◌≡◌, ◌≢◌, ℕ, List, [], ◌∷◌, ◌++◌, Option, Some, Ok}
use Rattle.file_port.specs.Events.{Event, was_read, was_written, was_put}
use Rattle.file_port.specs.Files.{FilesState}
use Rattle.file_port.specs.Sink.{SinkState}
use Rattle.file_port.specs.declared.port.Put.{Put}
use Rattle.file_port.specs.declared.port.Put.TheVariants.{Done}
use Rattle.pcc_gate.specs.Accepted.{IsAccepted}
use Rattle.bounds_prover.specs.Proving.{proved_container}
use Rattle.pcc_stages.specs.Exits.{Exit}
use Rattle.pcc_stages.specs.Runs.{Prints, Runs}
use Rattle.pcc_stages.specs.Stage.{stops, gives, Follows}
use Rattle.auto_search.specs.Outcomes.{OutcomeView, IsOf, IsOutcome}
use Rattle.auto_cli.specs.Arguments.{AutoArgs, AutoInvocation, find, auto_command_of}
use Rattle.auto_cli.specs.Drafts.{DraftView, draft_of}
use Rattle.auto_cli.specs.Tasks.{auto_task}
use Rattle.auto_cli.specs.Texts.{auto_texts}

-- these reads, which the arguments ask for, lead to this draft
pub record LeadsToDraft (args : List (List ℕ)) (asked : List Event) (draft : DraftView) : Type 0 where
  pub told : AutoArgs
  pub is : auto_command_of args ≡ Some (find told)
  pub leads : Follows auto_texts asked (draft_of told) (gives draft)

-- A run read, wrote and printed what the arguments ask for, with some outcome of the search, and its
-- status is that one's. Where its reads lead to a draft, and memory didn't run out, the outcome is
-- one of that draft: what is written is accepted, and is the draft but for invariants and proof; and
-- one is written if `prove` has a proof of the draft.
pub record RunsAuto (args : List (List ℕ)) (e e' : List Event) (f g : FilesState)
    (s t : SinkState) (status : ℕ) : Type 0 where
  pub outcome : OutcomeView
  pub runs : Runs auto_texts (auto_task outcome args).stage e e' f g s t status
  pub fits : (asked rest : List Event) (draft : DraftView) → status ≢ 5
      → e' ≡ e ++ (asked ++ rest) → LeadsToDraft args asked draft
      → IsOutcome draft.policy draft.bytes outcome

-- ---- what a run did that searched

-- The reads lead to a draft; OUT was written behind them, with a container that is accepted, and is
-- the draft but for invariants and proof.
pub record WritesFound (args : AutoArgs) (e e' : List Event) : Type 0 where
  pub asked : List Event
  pub draft : DraftView
  pub leads : Follows auto_texts asked (draft_of args) (gives draft)
  pub out : List ℕ
  pub invariants : ℕ
  pub logged : e' ≡ e ++ (asked ++ was_written args.output out Done ∷ [])
  pub accepted : IsAccepted draft.policy out
  pub same : IsOf draft.bytes out invariants

-- what was written, if the status is 0
abbrev pub WritesIfFound : Option AutoInvocation → List Event → List Event → ℕ → Type 0
WritesIfFound (Some (find args)) e e' status = status ≡ 0 → WritesFound args e e'
WritesIfFound other e e' status = Unit {0}

-- these events are a write of the file, which may have failed
pub record IsWriteOf (name : List ℕ) (events : List Event) : Type 0 where
  pub bytes : List ℕ
  pub answer : Put
  pub is : events ≡ was_written name bytes answer ∷ []

-- where the reads lead to a draft that `prove` has a proof of, OUT is written, unless memory ran out
abbrev pub FindsIfProved : Option AutoInvocation → List Event → List Event → ℕ → Type 0
FindsIfProved (Some (find args)) e e' status =
    (asked rest : List Event) (draft : DraftView) (proved : List ℕ) → status ≢ 5
    → e' ≡ e ++ (asked ++ rest) → Follows auto_texts asked (draft_of args) (gives draft)
    → proved_container draft.policy draft.bytes ≡ Ok proved → IsWriteOf args.output rest
FindsIfProved other e e' status = Unit {0}

-- the events are reads
abbrev pub AreReads : List Event → Type 0
AreReads [] = Unit {0}
AreReads (was_read name max given ∷ events) = AreReads events
AreReads (was_written name bytes answer ∷ events) = ⊥
AreReads (was_put piece answer ∷ events) = ⊥

-- what came to the log are reads
abbrev pub OnlyReads : List Event → List Event → Type 0
OnlyReads e e' = (events : List Event) × (e' ≡ e ++ events) × AreReads events

-- Where the reads lead to no draft, what they stop with is printed, nothing is written, and the
-- status is its own, unless memory ran out. Nothing is written either if the status is 1, as where
-- none is found.
pub record RefusesUnwritten (args : AutoArgs) (e e' : List Event) (s t : SinkState) (status : ℕ)
    : Type 0 where
  pub stopped : (asked rest : List Event) (exit : Exit) → status ≢ 5
      → e' ≡ e ++ (asked ++ rest) → Follows auto_texts asked (draft_of args) (stops exit)
      → (rest ≡ []) × Prints exit s t status
  pub spared : status ≡ 1 → OnlyReads e e'

-- how a run refuses that was to find
abbrev pub RefusesIfAsked : Option AutoInvocation → List Event → List Event → SinkState
    → SinkState → ℕ → Type 0
RefusesIfAsked (Some (find args)) e e' s t status = RefusesUnwritten args e e' s t status
RefusesIfAsked other e e' s t status = Unit {0}
