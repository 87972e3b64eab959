-- The run that prints a decision.
use Rattle.std.proofs.Common.{◌≡◌, ℕ, Bool, true, false, if◌then◌else◌, List, [], Option, Some, None, option_map, Result, Ok, codes, refl, sym, ap, ◌∙◌, subst}
use Rattle.std.proofs.lemmas.List.{append-nil}
use Rattle.file_port.specs.Events.{Event}
use Rattle.file_port.specs.Files.{FilesState}
use Rattle.file_port.specs.Sink.{SinkState}
use Rattle.pcc_gate.specs.Laws.{AcceptedFirst}
use Rattle.pcc_stages.specs.Runs.{Runs, Prints, printed, done_exit}
use Rattle.pcc_stages.specs.Stages.Common.{printing}
use Rattle.pcc_stages.specs.Decisions.{exit_of, Decides}
use Rattle.pcc_stages.specs.declared.stops.Stop.{Stop}
use Rattle.pcc_stages.proofs.DecisionLemmas.{runs_of_decision, runs-usage}
use Rattle.native_cli.specs.Headline.{RunsNative}
use Rattle.native_cli.specs.Invocations.{NativeGiven, NativeInvocation, translation, help, version, parsed_args_of}
use Rattle.native_cli.specs.Invocations.{is_sole, asks_native_help, native_command_of}
use Rattle.native_cli.specs.Reports.{native_exit}
use Rattle.native_cli.specs.Tasks.{Translator, native_stage, native_task}
use Rattle.native_cli.specs.Texts.{native_usage_line, native_help_text, native_version_text, native_texts}
use Rattle.native_cli.specs.Inside.Making.{MakesIfTold}
use Rattle.native_cli.specs.declared.report.Report.{Report}
use Rattle.native_cli.specs.declared.report.Report.TheVariants as report
use Rattle.native_cli.proofs.Translators.{any-texts, any-translates}

module _ (args : List (List ℕ)) (e e' : List Event) (f g : FilesState) (s t : SinkState) (status : ℕ) where
  run-with : (asked : Option NativeInvocation) (texts : Translator) (d : Result Report Stop) → native_command_of args ≡ asked
      → Decides native_exit (native_stage texts asked) e e' f g d → Prints (exit_of native_exit d) s t status
      → Runs native_texts (native_task texts args).stage e e' f g s t status
  run-with asked texts d is decides prints =
      subst (λ o. Runs native_texts (native_stage texts o) e e' f g s t status) (sym is)
      (runs-usage native_usage_line (native_stage texts asked) e e' f g s t status
      (runs_of_decision (native_stage texts asked) s t status native_exit e e' f g d decides prints))

  -- one that translates nothing
  run-alone : AcceptedFirst → (asked : Option NativeInvocation) (d : Result Report Stop) → native_command_of args ≡ asked
      → ((texts : Translator) → Decides native_exit (native_stage texts asked) e e' f g d) → Prints (exit_of native_exit d) s t status
      → RunsNative args e e' f g s t status
  run-alone first asked d is decides prints = record {
    texts = any-texts first;
    translator = any-translates first;
    runs = run-with asked (any-texts first) d is (decides (any-texts first)) prints;
  }

  -- one that translates, or prints the usage line
  pub run-told : AcceptedFirst → (told : Option NativeGiven) (d : Result Report Stop) → native_command_of args ≡ option_map translation told
      → MakesIfTold told e e' f g d → Prints (exit_of native_exit d) s t status → RunsNative args e e' f g s t status
  run-told first None d is h prints = run-alone first None d is (λ texts. h) prints
  run-told first (Some given) d is h prints = record {
    texts = h.texts;
    translator = h.translator;
    runs = run-with (Some (translation given)) h.texts d is h.decides prints;
  }

-- a text is printed
decides-printing : (text : List ℕ) (r : Report) (e : List Event) (f : FilesState) → native_exit r ≡ done_exit text
    → Decides native_exit (printing text) e e f f (Ok r)
decides-printing text r e f is = record { events = []; logged = sym (append-nil e); happened = refl; ends = printed text refl is }

module _ (args : List (List ℕ)) where
  -- the command, by whether help and the version are asked for
  command-by : (b c : Bool) → asks_native_help args ≡ b → is_sole (codes "--version") args ≡ c
      → native_command_of args ≡ (if b then Some help else if c then Some version else option_map translation (parsed_args_of args))
  command-by b c h v =
      ap (λ (x : Bool). if x then Some help else if is_sole (codes "--version") args then Some version else option_map translation (parsed_args_of args)) h
      ∙ ap (λ (x : Bool). if b then Some help else if x then Some version else option_map translation (parsed_args_of args)) v

  help-is : asks_native_help args ≡ true → native_command_of args ≡ Some help
  help-is h = command-by true (is_sole (codes "--version") args) h refl

  pub told-is : asks_native_help args ≡ false → is_sole (codes "--version") args ≡ false
      → native_command_of args ≡ option_map translation (parsed_args_of args)
  told-is h v = command-by false false h v

  module _ (first : AcceptedFirst) (e : List Event) (f : FilesState) (s t : SinkState) (status : ℕ) where
    pub run-help : asks_native_help args ≡ true → Prints (exit_of native_exit (Ok report.Help)) s t status → RunsNative args e e f f s t status
    run-help h prints =
        run-alone args e e f f s t status first (Some help) (Ok report.Help) (help-is h)
        (λ texts. decides-printing native_help_text report.Help e f refl) prints

    pub run-version : asks_native_help args ≡ false → is_sole (codes "--version") args ≡ true
        → Prints (exit_of native_exit (Ok report.Version)) s t status → RunsNative args e e f f s t status
    run-version h v prints =
        run-alone args e e f f s t status first (Some version) (Ok report.Version) (command-by false true h v)
        (λ texts. decides-printing native_version_text report.Version e f refl) prints
