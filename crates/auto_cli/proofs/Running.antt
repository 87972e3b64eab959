-- The run that prints a decision, with the outcome of the search.
use Rattle.std.proofs.Common.{◌≡◌, ◌≢◌, ℕ, Bool, true, false, if◌then◌else◌, List, [], ◌∷◌, Option, Some, None, option_map, IsSome}
use Rattle.std.proofs.Common.{unwrap_or, Result, Ok, Err, codes, refl, sym, ap, ◌∙◌, subst, arith}
use Rattle.std.proofs.lemmas.Bool.{false≢true}
use Rattle.std.proofs.lemmas.List.{append-nil}
use Rattle.file_port.specs.Events.{Event}
use Rattle.file_port.specs.Files.{FilesState}
use Rattle.file_port.specs.Sink.{SinkState, Puts}
use Rattle.file_port.specs.declared.port.Put.{Put}
use Rattle.file_port.specs.declared.port.Put.TheVariants as put
use Rattle.pcc_words.specs.Invocations.{command_of}
use Rattle.pcc_stages.specs.Exits.{Exit}
use Rattle.pcc_stages.specs.Requests.{no_memory_exit}
use Rattle.pcc_stages.specs.Stage.{gives, Follows}
use Rattle.pcc_stages.specs.Runs.{Runs, Prints, printed, done_exit, status_after}
use Rattle.pcc_stages.specs.Stages.Common.{printing}
use Rattle.pcc_stages.specs.Decisions.{end_of_decision, exit_of, Decides}
use Rattle.pcc_stages.specs.declared.stops.Stop.{Stop}
use Rattle.pcc_stages.specs.declared.stops.Stop.TheVariants as stop
use Rattle.pcc_stages.proofs.DecisionLemmas.{runs_of_decision, runs-usage}
use Rattle.auto_search.specs.Outcomes.{OutcomeView, unfound}
use Rattle.auto_cli.specs.Arguments.{AutoArgs, AutoInvocation, find, help, version, found_by_asm, is_only, wants_help, auto_command_of}
use Rattle.auto_cli.specs.Drafts.{draft_of}
use Rattle.auto_cli.specs.Headline.{RunsAuto}
use Rattle.auto_cli.specs.Reports.{auto_exit}
use Rattle.auto_cli.specs.Tasks.{find_command, auto_stage, auto_task}
use Rattle.auto_cli.specs.Texts.{auto_usage_line, auto_help_text, auto_version_text, auto_texts}
use Rattle.auto_cli.specs.Inside.Finds.{FindsIfTold}
use Rattle.auto_cli.specs.declared.report.Report.{Report}
use Rattle.auto_cli.specs.declared.report.Report.TheVariants as report
use Rattle.auto_cli.proofs.Reading.{follows_back}
use Rattle.auto_cli.proofs.Decided.{decides_nothing}

-- ---- the status

-- nothing is put where memory ran out, so the status is 5
nothing_put : (s t : SinkState) (r : Put) (status : ℕ) → Puts [] s t r → status ≡ status_after 5 r
    → status ≡ 5
nothing_put s t put.Done status puts is = is
nothing_put s t put.Failed status puts is = let some = puts.some in absurd (omega arith)

some_end : (end : Option Exit) (s t : SinkState) (status : ℕ)
    → Prints (unwrap_or end no_memory_exit) s t status → status ≢ 5 → IsSome end
some_end (Some exit) s t status p ne = refl
some_end None s t status p ne = absurd (ne (nothing_put s t p.put status p.puts p.after))

-- ---- runs

module _ (args : List (List ℕ)) (e e' : List Event) (f g : FilesState) (s t : SinkState)
    (status : ℕ) where
  -- the run of a stage that the arguments ask for
  run_of : (asked : Option AutoInvocation) (outcome : OutcomeView) (d : Result Report Stop)
      → auto_command_of args ≡ asked → Decides auto_exit (auto_stage asked outcome) e e' f g d
      → Prints (exit_of auto_exit d) s t status
      → Runs auto_texts (auto_task outcome args).stage e e' f g s t status
  unfolding auto_usage_line
  run_of asked outcome d is decides prints =
      subst (λ o. Runs auto_texts (auto_stage o outcome) e e' f g s t status) (sym is)
      (runs-usage auto_usage_line (auto_stage asked outcome) e e' f g s t status
      (runs_of_decision (auto_stage asked outcome) s t status auto_exit e e' f g d decides prints))

  -- one that doesn't search
  pub runs_alone : (asked : Option AutoInvocation) (d : Result Report Stop)
      → auto_command_of args ≡ asked → ((told : AutoArgs) → asked ≡ Some (find told) → ⊥)
      → Decides auto_exit (auto_stage asked (unfound [])) e e' f g d
      → Prints (exit_of auto_exit d) s t status → RunsAuto args e e' f g s t status
  runs_alone asked d is never decides prints = record {
    outcome = unfound [];
    runs = run_of asked (unfound []) d is decides prints;
    fits = λ read rest draft ne logged r. absurd (never r.told (sym is ∙ r.is));
  }

  -- one that searches, or prints the usage line
  pub runs_told : (told : Option AutoArgs) (d : Result Report Stop)
      → auto_command_of args ≡ option_map find told → FindsIfTold told e e' f g d
      → Prints (exit_of auto_exit d) s t status → RunsAuto args e e' f g s t status
  unfolding find_command
  runs_told None d is decides prints =
      runs_alone None d is (λ told e. absurd cc) decides prints
  runs_told (Some a) d is h prints = record {
    outcome = h.outcome;
    runs = run_of (Some (find a)) h.outcome d is h.decides prints;
    fits = λ read rest draft ne logged r.
        let same : r.told ≡ a = let both : Some (find r.told) ≡ Some (find a) = sym r.is ∙ is in cc in
        h.fits read rest draft
        (some_end (end_of_decision auto_exit d) s t status prints ne) logged
        (follows_back auto_usage_line read (draft_of a) (gives draft)
        (subst (λ (x : AutoArgs). Follows auto_texts read (draft_of x) (gives draft)) same r.leads));
  }

-- ---- runs that read nothing

-- a text is printed
pub decides_printing : (text : List ℕ) (r : Report) (e : List Event) (f : FilesState)
    → auto_exit r ≡ done_exit text → Decides auto_exit (printing text) e e f f (Ok r)
decides_printing text r e f is = record {
  events = [];
  logged = sym (append-nil e);
  happened = refl;
  ends = printed text refl is;
}

module _ (args : List (List ℕ)) where
  help_is : wants_help args ≡ true → auto_command_of args ≡ Some help
  help_is h =
      ap (λ (b : Bool). if b then Some help else if is_only (codes "--version") args then Some version else
      option_map find (found_by_asm (command_of (codes "asm" ∷ args)))) h

  version_is : wants_help args ≡ false → is_only (codes "--version") args ≡ true
      → auto_command_of args ≡ Some version
  version_is h v =
      ap (λ (b : Bool). if b then Some help else if is_only (codes "--version") args then Some version else
      option_map find (found_by_asm (command_of (codes "asm" ∷ args)))) h
      ∙ ap (λ (b : Bool). if b then Some version else
      option_map find (found_by_asm (command_of (codes "asm" ∷ args)))) v

  -- the arguments are as pcc takes them
  pub told_is : wants_help args ≡ false → is_only (codes "--version") args ≡ false
      → auto_command_of args ≡ option_map find (found_by_asm (command_of (codes "asm" ∷ args)))
  told_is h v =
      ap (λ (b : Bool). if b then Some help else if is_only (codes "--version") args then Some version else
      option_map find (found_by_asm (command_of (codes "asm" ∷ args)))) h
      ∙ ap (λ (b : Bool). if b then Some version else
      option_map find (found_by_asm (command_of (codes "asm" ∷ args)))) v

module _ (args : List (List ℕ)) (e : List Event) (f : FilesState) (s t : SinkState) (status : ℕ) where
  pub runs_help : wants_help args ≡ true → Prints (exit_of auto_exit (Ok report.Help)) s t status
      → RunsAuto args e e f f s t status
  runs_help h prints =
      runs_alone args e e f f s t status (Some help) (Ok report.Help) (help_is args h)
      (λ told is. absurd cc) (decides_printing auto_help_text report.Help e f refl) prints

  pub runs_version : wants_help args ≡ false → is_only (codes "--version") args ≡ true
      → Prints (exit_of auto_exit (Ok report.Version)) s t status → RunsAuto args e e f f s t status
  runs_version h v prints =
      runs_alone args e e f f s t status (Some version) (Ok report.Version) (version_is args h v)
      (λ told is. absurd cc) (decides_printing auto_version_text report.Version e f refl) prints

  -- memory ran out before anything was read
  pub runs_nothing : Prints (exit_of auto_exit (Err stop.Memory)) s t status
      → RunsAuto args e e f f s t status
  runs_nothing prints = record {
    outcome = unfound [];
    runs =
        run_of args e e f f s t status (auto_command_of args) (unfound []) (Err stop.Memory) refl
        (decides_nothing (auto_stage (auto_command_of args) (unfound [])) e f) prints;
    fits = λ read rest draft ne logged r.
        absurd (false≢true (some_end None s t status prints ne));
  }
