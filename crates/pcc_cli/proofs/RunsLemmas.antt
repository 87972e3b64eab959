-- From the clauses of the commands to the stage: what a run asked, wrote and printed is what its words ask for.
use Rattle.std.proofs.Common.{◌≡◌, ℕ, List, [], ◌∷◌, ◌++◌, Option, Some, None, refl, sym, ap, ◌∙◌, subst}
use Rattle.file_port.specs.Events.{Event}
use Rattle.file_port.specs.Files.{FilesState}
use Rattle.file_port.specs.Sink.{SinkState}
use Rattle.asm_text.specs.declared.limits.TheConstants.{MAX_SOURCE}
use Rattle.policy_set.specs.Names.{policy_of}
use Rattle.pcc_words.specs.Invocations.{named, from_file, Invocation, asm, prove, check, run, ref, demo, upgrade, host, bpf, command_of}
use Rattle.pcc_lines.specs.Fixed.{accepted_line, bpf_too_long_line, container_too_long_line, source_too_long_line}
use Rattle.pcc_stages.specs.Exits.{Exit}
use Rattle.pcc_stages.specs.Requests.{usage_exit}
use Rattle.pcc_stages.specs.Runs.{Effect, Happens, Comes, decided, out_of_memory as ran_out, Runs}
use Rattle.pcc_stages.specs.Stage.{Stage, stops, reads, ◌>>=◌}
use Rattle.pcc_stages.specs.Texts.{texts}
use Rattle.pcc_stages.specs.Stages.Common.{refused, printing}
use Rattle.pcc_stages.specs.Stages.Containers.{code_of}
use Rattle.pcc_stages.specs.Stages.Policies.{policy_from}
use Rattle.pcc_stages.specs.declared.files.TheConstants.{MAX_FILE}
use Rattle.pcc_commands.specs.Commands.Assemble.{asm_command}
use Rattle.pcc_commands.specs.Commands.Bpf.{bpf_command}
use Rattle.pcc_commands.specs.Commands.Check.{check_command}
use Rattle.pcc_commands.specs.Commands.Demo.{demo_command}
use Rattle.pcc_commands.specs.Commands.Host.{host_command}
use Rattle.pcc_commands.specs.Commands.Prove.{prove_command}
use Rattle.pcc_commands.specs.Commands.Reference.{ref_command}
use Rattle.pcc_commands.specs.Commands.Running.{run_command}
use Rattle.pcc_commands.specs.Commands.Upgrade.{upgrade_command}
use Rattle.pcc_commands.specs.Stages.Assembling.{assembled_in, assembled_of}
use Rattle.pcc_commands.specs.Stages.Compiling.{compiled_in, compiled_of}
use Rattle.pcc_commands.specs.Stages.Hosting.{script_of}
use Rattle.pcc_commands.specs.Stages.Judging.{accepted_in, accepted_of, accepted_code_of}
use Rattle.pcc_commands.specs.Stages.Proving.{proved_in, proved_of}
use Rattle.pcc_commands.specs.Stages.Upgrading.{upgraded_in, upgraded_of}
use Rattle.pcc_commands.specs.Stages.Writing.{writing}
use Rattle.pcc_commands.specs.Tasks.{stage_of, task_of, task_of_command}
use Rattle.pcc_commands.specs.declared.stages.TheConstants.{MAX_PROGRAM_FILE}
use Rattle.pcc_cli.specs.Headline.{ToldOf, IsFirstVerdict, Checks, RunsCode, Refs, Makes, AssemblesTo, IsNoSource, ProvesExactly, IsUnprovedExactly}
use Rattle.pcc_cli.specs.Headline.{UpgradesTo, IsNoUpgrade, CompilesExactly, IsNoProgram}
use Rattle.pcc_cli.specs.Clauses.{AreOfBytes, Came, came, out_of_memory, EndsAtOnce, LogTells}
use Rattle.pcc_cli.specs.Means.{MayDo, KeepsClauses}
use Rattle.pcc_cli.proofs.HeadlineLemmas.{CommandLaws, run_by, ref_by}
use Rattle.pcc_cli.proofs.MeansLemmas.{Reach, nil_split, reach_nothing, reach, of_command}
use Rattle.pcc_cli.proofs.SourceLemmas.{assembles_back, no_source_back}
use Rattle.pcc_cli.proofs.ProveLemmas.{proves_back, unproved_back}
use Rattle.pcc_cli.proofs.DemoLemmas.{demo_comes}
use Rattle.pcc_cli.proofs.BackLemmas.{BackLaws, at_once, makes_comes, under_comes, check_comes, from_comes, run_comes, ref_comes}
use Rattle.pcc_cli.proofs.BackLemmas.{upgrades_back, no_upgrade_back, compiles_back, no_program_back, host_comes}

-- ---- the log

abbrev behind_first : List Event → List Event
behind_first [] = []
behind_first (x ∷ events) = events

same_behind : (e xs ys : List Event) → e ++ xs ≡ e ++ ys → xs ≡ ys
same_behind [] xs ys h = h
same_behind (x ∷ e) xs ys h = same_behind e xs ys (ap behind_first h)

-- by a run the log tells what became of the files
pub log_tells : (stage : Stage Effect) (e e' : List Event) (f g : FilesState) (s t : SinkState) (status : ℕ) → Runs texts stage e e' f g s t status
    → LogTells e e' f g
log_tells stage e e' f g s t status runs events logged =
    subst (λ es. Happens es f g) (same_behind e runs.events events (sym runs.logged ∙ logged)) runs.happened

-- ---- a command

module _ (laws : CommandLaws) (back : BackLaws) where
  comes : (command : Invocation) (events : List Event) (exit : Exit) (f g : FilesState) → Happens events f g → AreOfBytes events
      → MayDo command events exit → Comes texts (stage_of command) events exit
  unfolding asm_command prove_command check_command run_command ref_command demo_command upgrade_command host_command bpf_command
      script_of policy_from assembled_of proved_of upgraded_of accepted_of accepted_code_of code_of compiled_of accepted_in
  comes (asm policy input output version bound) events exit f g happened held may =
      under_comes (policy_of policy)
      (λ under. Makes input output MAX_SOURCE (AssemblesTo version bound under) (ToldOf (IsNoSource version bound) input source_too_long_line))
      (λ under. reads input MAX_SOURCE (refused source_too_long_line) (λ b. assembled_in version bound under b >>= λ out. writing output out)) events exit
      (λ under m. makes_comes input output MAX_SOURCE source_too_long_line (assembled_in version bound under) (AssemblesTo version bound under)
      (IsNoSource version bound) events exit held
      (λ b out bytes a. assembles_back laws.assembler version bound under b out a)
      (λ b bytes no. no_source_back laws.assembler version bound under b exit no) m) may
  comes (prove policy input output) events exit f g happened held may =
      under_comes (policy_of policy)
      (λ under. Makes input output MAX_FILE (ProvesExactly under) (ToldOf (IsUnprovedExactly under) input container_too_long_line))
      (λ under. reads input MAX_FILE (refused container_too_long_line) (λ b. proved_in under b >>= λ out. writing output out)) events exit
      (λ under m. makes_comes input output MAX_FILE container_too_long_line (proved_in under) (ProvesExactly under) (IsUnprovedExactly under) events exit held
      (λ b out bytes p. proves_back under b out p.exactly)
      (λ b bytes no. unproved_back under b exit bytes no) m) may
  comes (check (named policy) file) events exit f g happened held may =
      under_comes (policy_of policy) (λ under. Checks IsFirstVerdict under file)
      (λ under. reads file MAX_FILE (refused container_too_long_line) (λ b. accepted_in under b >>= λ accepted. printing accepted_line)) events exit
      (λ under c. check_comes laws.gate under file events exit held c) may
  comes (check (from_file name) file) events exit f g happened held may =
      from_comes laws.gate laws.policies back name file events exit held may
  comes (run policy file packets steps) events exit f g happened held may =
      under_comes (policy_of policy) (λ under. RunsCode IsFirstVerdict under file packets steps)
      (λ under. reads file MAX_FILE (refused container_too_long_line) (run_by laws.gate laws.packet_files under file packets steps)) events exit
      (λ under r. run_comes laws.gate laws.packet_files under file packets steps events exit held r) may
  comes (ref policy file packets steps) events exit f g happened held may =
      under_comes (policy_of policy) (λ under. Refs under file packets steps)
      (λ under. reads file MAX_FILE (refused container_too_long_line) (ref_by laws.packet_files under file packets steps)) events exit
      (λ under r. ref_comes laws.gate laws.packet_files under file packets steps events exit held f g happened r) may
  comes (demo n) events exit f g happened held may = demo_comes laws.assembler n events exit may
  comes (upgrade input output) events exit f g happened held may =
      makes_comes input output MAX_FILE container_too_long_line upgraded_in UpgradesTo IsNoUpgrade events exit held
      (λ b out bytes u. upgrades_back laws.upgrades b bytes out u)
      (λ b bytes no. no_upgrade_back laws.upgrades b bytes exit no) may
  comes (host script) events exit f g happened held may = host_comes laws.gate laws.scripts back script events exit held may
  comes (bpf input output) events exit f g happened held may =
      makes_comes input output MAX_PROGRAM_FILE bpf_too_long_line compiled_in CompilesExactly IsNoProgram events exit held
      (λ b out bytes c. compiles_back back b out bytes c)
      (λ b bytes no. no_program_back back b exit no) may

  -- ---- a run

  module _ (words : List (List ℕ)) (e e' : List Event) (f g : FilesState) (s t : SinkState) (status : ℕ)
      (k : KeepsClauses words e e' s t status) (tells : LogTells e e' f g) where
    ran_command : (command : Invocation) → Came (MayDo command) e e' s t status → Runs texts (stage_of command) e e' f g s t status
    ran_command command (came events exit logged held may prints) = record {
      events = events;
      logged = logged;
      happened = tells events logged;
      ends = decided exit (comes command events exit f g (tells events logged) held may) prints;
    }
    ran_command command (out_of_memory events rest exit logged held may clean same is) =
        let r = reach laws.gate laws.policies laws.packet_files laws.scripts command events rest exit held clean may in
        record { events = events; logged = logged; happened = tells events logged; ends = ran_out r.0 r.1 clean same is }

    ran_nothing : Came (EndsAtOnce (usage_exit texts)) e e' s t status → Runs texts (stops (usage_exit texts)) e e' f g s t status
    ran_nothing (came events exit logged held may prints) = record {
      events = events;
      logged = logged;
      happened = tells events logged;
      ends = decided exit (at_once events exit (usage_exit texts) may.0 may.1) prints;
    }
    ran_nothing (out_of_memory events rest exit logged held may clean same is) =
        let stage : Stage Effect = stops (usage_exit texts) in
        let r : Reach events stage = reach_nothing events stage (nil_split events rest may.0) in
        record { events = events; logged = logged; happened = tells events logged; ends = ran_out r.0 r.1 clean same is }

    runs_of : (o : Option Invocation) → command_of words ≡ o → Runs texts (task_of_command o).stage e e' f g s t status
    runs_of None is = ran_nothing (k.no_command is)
    runs_of (Some command) is =
        ran_command command (of_command laws.gate laws.policies laws.packet_files laws.scripts words e e' s t status k command is)

    pub runs : Runs texts (task_of words).stage e e' f g s t status
    runs = runs_of (command_of words) refl
