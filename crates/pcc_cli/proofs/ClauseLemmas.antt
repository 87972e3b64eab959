-- From a run of a command to its clause: what it may do that comes to an exit, and want of memory on the way to one.
use Rattle.std.proofs.Common.{◌≡◌, ℕ, List, [], ◌∷◌, ◌++◌, Option, Some, None, IfSome, refl, sym, subst}
use Rattle.std.proofs.lemmas.List.{append-nil}
use Rattle.file_port.specs.Events.{Given, whole, missing, too_long, failed, no_memory, Event, was_read, was_written, was_put}
use Rattle.file_port.specs.Files.{FileMap, FilesState, with_file}
use Rattle.file_port.specs.Sink.{SinkState}
use Rattle.file_port.specs.declared.port.Put.TheVariants as put
use Rattle.policy_set.specs.Views.{PolicyView}
use Rattle.policy_set.specs.Names.{policy_of}
use Rattle.pcc_lines.specs.Fixed.{bpf_too_long_line, container_too_long_line}
use Rattle.pcc_stages.specs.declared.files.TheConstants.{MAX_FILE}
use Rattle.pcc_commands.specs.declared.stages.TheConstants.{MAX_PROGRAM_FILE}
use Rattle.pcc_words.specs.Invocations.{named, from_file, Invocation, asm, prove, check, run, ref, demo, upgrade, host, bpf, command_of}
use Rattle.pcc_stages.specs.Exits.{Exit, Change}
use Rattle.pcc_stages.specs.Requests.{no_memory_exit, usage_exit}
use Rattle.pcc_stages.specs.Runs.{Effect, Happens, done_exit, written_exit, Comes, stopped, printed, wrote, EndsRun, decided, out_of_memory as ran_out, Runs}
use Rattle.pcc_stages.specs.Stage.{Stage, stops, gives, reads, Follows}
use Rattle.pcc_stages.specs.Texts.{texts}
use Rattle.pcc_stages.proofs.StageLemmas.{follows-join, happens-join}
use Rattle.pcc_commands.specs.Tasks.{stage_of, task_of, task_of_command}
use Rattle.pcc_cli.specs.Headline.{IsNoProgram, ToldOf, IsVerdict, IsFirstVerdict, Checks, ChecksFrom, without_policy, with_policy, RunsCode}
use Rattle.pcc_cli.specs.Headline.{not_accepted, accepted, Makes, not_made, made, Demonstrates, Proves, ProvesExactly, IsUnproved, IsUnprovedExactly}
use Rattle.pcc_cli.specs.Headline.{CompilesTo, CompilesExactly}
use Rattle.pcc_cli.specs.Clauses.{AreOfBytes, Came, came, out_of_memory, EndsAtOnce, Under, DoesNothing, DoesCheck, DoesCheckFrom, DoesRun}
use Rattle.pcc_cli.specs.Clauses.{DoesProve, DoesDemo, DoesCompile}
use Rattle.pcc_cli.specs.Means.{MayDo, KeepsClauses}
use Rattle.pcc_cli.proofs.EndLemmas.{Ended, ended_of, ended_at_once}
use Rattle.pcc_cli.proofs.HeadlineLemmas.{CommandLaws, does}
use Rattle.pcc_cli.proofs.ProveLemmas.{unproved_some}
use Rattle.pcc_cli.proofs.DemoLemmas.{filter_policy, DemoExactly, demonstrates_some}

-- ---- events behind others

of_bytes : (events : List Event) (f g : FilesState) → Happens events f g → AreOfBytes events
of_bytes [] f g h = tt
of_bytes (was_read name max given ∷ events) f g h = (h.2, of_bytes events h.0 g h.3)
of_bytes (was_written name bytes answer ∷ events) f g h = of_bytes events h.0 g h.2
of_bytes (was_put piece answer ∷ events) f g h = absurd h

-- ---- the way on from a stage

-- what may be asked behind these events, and the exit that the stage then comes to
record GoesOn (stage : Stage Effect) (events : List Event) (f : FilesState) : Type 0 where
  rest : List Event
  exit : Exit
  end : FilesState
  happens : Happens (events ++ rest) f end
  comes : Comes texts stage (events ++ rest) exit

-- what holds of all files
all_told : (contents : Option FileMap) (P : FileMap → Type 0) → ((files : FileMap) → P files) → IfSome contents P
all_told None P each = tt
all_told (Some files) P each = each files

module _ (stage : Stage Effect) (events : List Event) (f g : FilesState) (happened : Happens events f g) where
  -- nothing more is asked
  no_more : (exit : Exit) → Comes texts stage events exit → GoesOn stage events f
  no_more exit comes = record {
    rest = [];
    exit = exit;
    end = g;
    happens = subst (λ es. Happens es f g) (sym (append-nil events)) happened;
    comes = subst (λ es. Comes texts stage es exit) (sym (append-nil events)) comes;
  }

  gives_on : (text : List ℕ) (change : Change) → Follows texts events stage (gives (record { text = text; change = change })) → GoesOn stage events f
  gives_on text None follows = no_more (done_exit text) (printed text follows refl)
  gives_on text (Some (name, bytes)) follows = record {
    rest = was_written name bytes put.Done ∷ [];
    exit = written_exit texts name text put.Done;
    end = with_file name bytes g;
    happens = happens-join events (was_written name bytes put.Done ∷ []) f g (with_file name bytes g) happened (with_file name bytes g, refl, refl);
    comes = wrote events text name bytes put.Done refl follows refl;
  }

  -- a read for which there is no memory
  go_on : (later : Stage Effect) → Follows texts events stage later → GoesOn stage events f
  go_on (stops exit) follows = no_more exit (stopped follows)
  go_on (gives effect) follows = gives_on effect.text effect.change follows
  go_on (reads name max more on) follows = record {
    rest = was_read name max no_memory ∷ [];
    exit = no_memory_exit;
    end = g;
    happens =
        happens-join events (was_read name max no_memory ∷ []) f g g happened
        (g, record { same = refl; within = tt; right = all_told g.contents _ (λ files. tt) }, tt, refl);
    comes =
        stopped
        (follows-join events (was_read name max no_memory ∷ []) stage (reads name max more on) (stops no_memory_exit) follows
        (stops no_memory_exit, record { more = more; on = on; asks = refl; goes = refl }, refl));
  }

-- ---- a run

pub came_by : (May : List Event → Exit → Type 0) (stage : Stage Effect)
    → ((events : List Event) (exit : Exit) (f g : FilesState) → Happens events f g → Ended stage events exit → May events exit)
    → (e e' : List Event) (f g : FilesState) (s t : SinkState) (status : ℕ) → Runs texts stage e e' f g s t status → Came May e e' s t status
came_by May stage each e e' f g s t status r = by r.ends
  where
    by : EndsRun texts stage r.events s t status → Came May e e' s t status
    by (decided exit comes prints) =
        came r.events exit r.logged (of_bytes r.events f g r.happened) (each r.events exit f g r.happened (ended_of stage r.events exit comes)) prints
    by (ran_out later follows clean same is) =
        let on = go_on stage r.events f g r.happened later follows in
        out_of_memory r.events on.rest on.exit r.logged (of_bytes r.events f g r.happened)
        (each (r.events ++ on.rest) on.exit f on.end on.happens (ended_of stage (r.events ++ on.rest) on.exit on.comes)) clean same is

-- what may do less
weaker : (May Other : List Event → Exit → Type 0) → ((events : List Event) (exit : Exit) → May events exit → Other events exit)
    → (e e' : List Event) (s t : SinkState) (status : ℕ) → Came May e e' s t status → Came Other e e' s t status
weaker May Other each e e' s t status (came events exit logged bytes may prints) = came events exit logged bytes (each events exit may) prints
weaker May Other each e e' s t status (out_of_memory events rest exit logged bytes may clean same is) =
    out_of_memory events rest exit logged bytes (each (events ++ rest) exit may) clean same is

under_weaker : (p : Option PolicyView) (May Other : PolicyView → List Event → Exit → Type 0)
    → ((under : PolicyView) (events : List Event) (exit : Exit) → May under events exit → Other under events exit)
    → (events : List Event) (exit : Exit) → Under p May events exit → Under p Other events exit
under_weaker None May Other each events exit may = may
under_weaker (Some under) May Other each events exit may = each under events exit may

told_weaker : (Tells Other : List ℕ → Exit → Type 0) → ((b : List ℕ) (exit : Exit) → Tells b exit → Other b exit)
    → (name line : List ℕ) (given : Given) (exit : Exit) → ToldOf Tells name line given exit → ToldOf Other name line given exit
told_weaker Tells Other each name line (whole b) exit told = each b exit told
told_weaker Tells Other each name line missing exit told = told
told_weaker Tells Other each name line too_long exit told = told
told_weaker Tells Other each name line failed exit told = told
told_weaker Tells Other each name line no_memory exit told = told

judged_weaker : (under : PolicyView) (name line : List ℕ) (given : Given) (exit : Exit) → ToldOf (IsFirstVerdict under) name line given exit
    → ToldOf (IsVerdict under) name line given exit
judged_weaker under = told_weaker (IsFirstVerdict under) (IsVerdict under) (λ b exit v. v.verdict)

checks_weaker : (file : List ℕ) (under : PolicyView) (events : List Event) (exit : Exit) → Checks IsFirstVerdict under file events exit
    → Checks IsVerdict under file events exit
checks_weaker file under events exit c = record { given = c.given; one_read = c.one_read; judged = judged_weaker under file _ c.given exit c.judged }

checks_from_weaker : (name file : List ℕ) (events : List Event) (exit : Exit) → ChecksFrom IsFirstVerdict name file events exit
    → ChecksFrom IsVerdict name file events exit
checks_from_weaker name file events exit (without_policy given is none) = without_policy given is none
checks_from_weaker name file events exit (with_policy text policy given spells kept is judged) =
    with_policy text policy given spells kept is (judged_weaker policy file container_too_long_line given exit judged)

run_weaker : (file packets : List ℕ) (steps : ℕ) (under : PolicyView) (events : List Event) (exit : Exit)
    → RunsCode IsFirstVerdict under file packets steps events exit
    → RunsCode IsVerdict under file packets steps events exit
run_weaker file packets steps under events exit (not_accepted given is judged some) = not_accepted given is
    (judged_weaker under file container_too_long_line given exit judged) some
run_weaker file packets steps under events exit (accepted bytes a given is by) = accepted bytes a given is by

makes_weaker : (input output : List ℕ) (max : ℕ) (IsMade Other : List ℕ → List ℕ → Type 0) (IsTold Tells : Given → Exit → Type 0)
    → ((b out : List ℕ) → IsMade b out → Other b out) → ((given : Given) (exit : Exit) → IsTold given exit → Tells given exit)
    → (events : List Event) (exit : Exit) → Makes input output max IsMade IsTold events exit → Makes input output max Other Tells events exit
makes_weaker input output max IsMade Other IsTold Tells each told events exit (not_made given is why) = not_made given is (told given exit why)
makes_weaker input output max IsMade Other IsTold Tells each told events exit (made b out answer is what end) = made b out answer is (each b out what) end

-- ---- the clauses

module _ (laws : CommandLaws) (words : List (List ℕ)) (e e' : List Event) (f g : FilesState) (s t : SinkState) (status : ℕ)
    (runs : Runs texts (task_of words).stage e e' f g s t status) where
  did : (command : Invocation) → command_of words ≡ Some command → Came (MayDo command) e e' s t status
  did command is =
      came_by (MayDo command) (stage_of command) (does laws command) e e' f g s t status
      (subst (λ o. Runs texts (task_of_command o).stage e e' f g s t status) is runs)

  did_nothing : DoesNothing words e e' s t status
  did_nothing is =
      came_by (EndsAtOnce (usage_exit texts)) (stops (usage_exit texts))
      (λ events exit m n h ended. ended_at_once (usage_exit texts) events exit ended) e e' f g s t status
      (subst (λ o. Runs texts (task_of_command o).stage e e' f g s t status) is runs)

  did_check : DoesCheck IsVerdict words e e' s t status
  did_check policy file is =
      weaker (Under (policy_of policy) (λ under. Checks IsFirstVerdict under file)) (Under (policy_of policy) (λ under. Checks IsVerdict under file))
      (under_weaker (policy_of policy) (λ under. Checks IsFirstVerdict under file) (λ under. Checks IsVerdict under file) (checks_weaker file))
      e e' s t status (did (check (named policy) file) is)

  did_check_from : DoesCheckFrom IsVerdict words e e' s t status
  did_check_from name file is =
      weaker (ChecksFrom IsFirstVerdict name file) (ChecksFrom IsVerdict name file) (checks_from_weaker name file) e e' s t status
      (did (check (from_file name) file) is)

  did_run : DoesRun IsVerdict words e e' s t status
  did_run policy file packets steps is =
      weaker (Under (policy_of policy) (λ under. RunsCode IsFirstVerdict under file packets steps))
      (Under (policy_of policy) (λ under. RunsCode IsVerdict under file packets steps))
      (under_weaker (policy_of policy) (λ under. RunsCode IsFirstVerdict under file packets steps)
      (λ under. RunsCode IsVerdict under file packets steps) (run_weaker file packets steps))
      e e' s t status (did (run policy file packets steps) is)

  -- what `prove` may do, by what is made and what is told
  abbrev proving : (PolicyView → List ℕ → List ℕ → Type 0) → (PolicyView → List ℕ → Exit → Type 0) → List ℕ → List ℕ → PolicyView → List Event → Exit → Type 0
  proving IsMade IsTold input output under = Makes input output MAX_FILE (IsMade under) (ToldOf (IsTold under) input container_too_long_line)

  did_prove : DoesProve words e e' s t status
  did_prove policy input output is =
      let exactly : PolicyView → List Event → Exit → Type 0 = proving ProvesExactly IsUnprovedExactly input output in
      let roughly : PolicyView → List Event → Exit → Type 0 = proving Proves (λ under. IsUnproved) input output in
      weaker (Under (policy_of policy) exactly) (Under (policy_of policy) roughly)
      (under_weaker (policy_of policy) exactly roughly
      (λ under. makes_weaker input output MAX_FILE (ProvesExactly under) (Proves under)
      (ToldOf (IsUnprovedExactly under) input container_too_long_line) (ToldOf IsUnproved input container_too_long_line)
      (λ b out proves. proves.proves)
      (told_weaker (IsUnprovedExactly under) IsUnproved (unproved_some under) input container_too_long_line)))
      e e' s t status (did (prove policy input output) is)

  did_demo : DoesDemo words e e' s t status
  did_demo n is =
      weaker (DemoExactly n) (Demonstrates (Proves filter_policy) IsUnproved n) (demonstrates_some n) e e' s t status (did (demo n) is)

  did_compile : DoesCompile words e e' s t status
  did_compile input output is =
      let told : Given → Exit → Type 0 = ToldOf IsNoProgram input bpf_too_long_line in
      weaker (Makes input output MAX_PROGRAM_FILE CompilesExactly told) (Makes input output MAX_PROGRAM_FILE CompilesTo told)
      (makes_weaker input output MAX_PROGRAM_FILE CompilesExactly CompilesTo told told (λ b out c. c.compiles) (λ given exit is_told. is_told))
      e e' s t status (did (bpf input output) is)

  pub keeps : KeepsClauses words e e' s t status
  keeps = record {
    checks = did_check;
    checks_from = did_check_from;
    runs_code = did_run;
    refuses = record {
      checks = λ policy file. did (check (named policy) file);
      checks_from = λ name file. did (check (from_file name) file);
      runs_code = λ policy file packets steps. did (run policy file packets steps);
    };
    refers = λ policy file packets steps. did (ref policy file packets steps);
    assembles = λ policy input output version bound. did (asm policy input output version bound);
    proves = did_prove;
    proves_exactly = λ policy input output. did (prove policy input output);
    demonstrates = did_demo;
    demonstrates_exactly = λ n. did (demo n);
    upgrades = λ input output. did (upgrade input output);
    hosts = λ script. did (host script);
    compiles = did_compile;
    compiles_exactly = λ input output. did (bpf input output);
    no_command = did_nothing;
  }
