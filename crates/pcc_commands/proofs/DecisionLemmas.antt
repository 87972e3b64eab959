-- How commands end that print a report, and those that write.
use Rattle.std.proofs.Common.{◌≡◌, ℕ, List, [], ◌∷◌, ◌++◌, length, Some, Result, Ok, Err, refl, ap, ◌∙◌, subst, append_assoc}
use Rattle.file_port.specs.Events.{Event, was_written}
use Rattle.file_port.specs.Files.{FilesState}
use Rattle.file_port.specs.declared.Put.{Put}
use Rattle.file_port.specs.declared.Put.TheVariants as put
use Rattle.pcc_lines.specs.Sources.{written_line}
use Rattle.pcc_stages.specs.Stage.{Stage, gives, ◌>>=◌, Follows}
use Rattle.pcc_stages.specs.Runs.{Effect, Happens, wrote, done_exit, written_exit}
use Rattle.pcc_stages.specs.Texts.{texts}
use Rattle.pcc_stages.specs.Answers.{Gives}
use Rattle.pcc_stages.specs.Decisions.{end_of_decision, EndsWith, Decides}
use Rattle.pcc_stages.specs.declared.stops.Stop.{Stop}
use Rattle.pcc_stages.specs.declared.stops.Stop.TheVariants as stop
use Rattle.pcc_stages.proofs.StageLemmas.{happens-join, follows-bind}
use Rattle.pcc_stages.proofs.DecisionLemmas.{decides_text}
use Rattle.pcc_commands.specs.Stages.Writing.{writing}
use Rattle.pcc_commands.specs.Reports.{report_text, effect_of, report_exit}
use Rattle.pcc_commands.specs.Inside.Writes.{TellsWrite, Wrote}
use Rattle.pcc_commands.specs.declared.report.Report.{Report}
use Rattle.pcc_commands.specs.declared.report.Report.TheVariants as report

-- where a stage that gives an effect without a write ends
pub decides_report : (stage : Stage Effect) (e e' : List Event) (f g : FilesState)
    (d : Result Report Stop) → Gives effect_of stage e e' f g d
    → Decides report_exit stage e e' f g d
decides_report stage e e' f g d h = decides_text stage e e' f g report_text d h

-- ---- the write

-- what a command does that writes
abbrev pub written_effect : List ℕ → List ℕ → Effect
written_effect name bytes = record { text = written_line (length bytes); change = Some (name, bytes) }

wrote_ends : (stage : Stage Effect) (asked : List Event) (name bytes : List ℕ) (answer : Put) (d : Result Report Stop) → Follows texts asked stage (gives (written_effect name bytes)) → TellsWrite name bytes answer d
    → EndsWith stage (asked ++ was_written name bytes answer ∷ []) (end_of_decision report_exit d)
wrote_ends stage asked name bytes put.Done (Ok (report.Written count)) follows is =
    wrote asked (written_line (length bytes)) name bytes put.Done refl follows (ap (λ n. done_exit (written_line n)) is)
wrote_ends stage asked name bytes put.Failed (Err (stop.WriteFault other)) follows is =
    wrote asked (written_line (length bytes)) name bytes put.Failed refl follows (ap (λ n. written_exit texts n (written_line (length bytes)) put.Failed) is)
wrote_ends stage asked name bytes answer d follows is = absurd is

-- where a stage gives an effect with a write, and the bytes are written
pub decides_written : (stage : Stage Effect) (name bytes : List ℕ) (e m e' : List Event) (f n g : FilesState) (asked : List Event) → m ≡ e ++ asked → Happens asked f n
    → Follows texts asked stage (gives (written_effect name bytes)) → (d : Result Report Stop) → Wrote name bytes m e' n g d → Decides report_exit stage e e' f g d
decides_written stage name bytes e m e' f n g asked logged happened follows d w = record {
  events = asked ++ was_written name bytes w.answer ∷ [];
  logged = w.logged ∙ ap (λ l. l ++ was_written name bytes w.answer ∷ []) logged ∙ append_assoc e asked (was_written name bytes w.answer ∷ []);
  happened = happens-join asked (was_written name bytes w.answer ∷ []) f n g happened (g, w.writes, refl);
  ends = wrote_ends stage asked name bytes w.answer d follows w.tells;
}

-- one that writes what a stage makes
pub decides_copy : {C : Type 0} (view : C → List ℕ) (make : Stage (List ℕ)) (output : List ℕ) (e m e' : List Event) (f n g : FilesState) (x : C) (d : Result Report Stop)
    → Gives view make e m f n (Ok x) → Wrote output (view x) m e' n g d → Decides report_exit (make >>= λ bytes. writing output bytes) e e' f g d
decides_copy view make output e m e' f n g x d h w =
    decides_written (make >>= λ bytes. writing output bytes) output (view x) e m e' f n g h.events h.logged h.happened
    (subst (λ l. Follows texts h.events (make >>= λ bytes. writing output bytes) l) (ap (λ y. y >>= λ bytes. writing output bytes) h.is) (follows-bind (λ bytes. writing output bytes) h.events make h.later h.follows)) d w
