-- What a run of each command did, whatever the files hold: a definition for each clause of `pcc`.
use Rattle.std.specs.Prelude.{◌≡◌, ℕ, List, [], ◌∷◌, ◌++◌, Option, None, Some, String}
use Rattle.std.specs.Prelude.{map, string_bytes}
use Rattle.std.specs.Borrow.{MutBor}
use denote.Triple.Both.{Both}
use Rattle.file_port.specs.Events.{Event, was_read, was_written, was_put}
use Rattle.file_port.specs.Files.{FilesState}
use Rattle.file_port.specs.Sink.{SinkState}
use Rattle.asm_text.specs.declared.limits.TheConstants.{MAX_SOURCE}
use Rattle.policy_set.specs.declared.kind.PolicyKind.TheVariants.{Filter}
use Rattle.policy_set.specs.Views.{PolicyView, built_in}
use Rattle.policy_set.specs.Names.{policy_of}
use Rattle.pcc_words.specs.Invocations.{named, from_file, Invocation, asm, prove, check, run, ref, demo, upgrade, host, bpf, command_of}
use Rattle.pcc_lines.specs.Fixed.{bpf_too_long_line, container_too_long_line, source_too_long_line, unknown_policy_line}
use Rattle.pcc_stages.specs.Exits.{Exit}
use Rattle.pcc_stages.specs.Requests.{usage_exit}
use Rattle.pcc_stages.specs.Runs.{AreOctets, Happens, NoneFailed, Prints}
use Rattle.pcc_stages.specs.Stages.Common.{refused}
use Rattle.pcc_stages.specs.Texts.{texts}
use Rattle.pcc_stages.specs.declared.files.TheConstants.{MAX_FILE}
use Rattle.pcc_commands.specs.declared.stages.TheConstants.{MAX_PROGRAM_FILE}
use Rattle.pcc_cli.specs.Headline.{Verdict, IsFirstVerdict, ToldOf, Checks, ChecksFrom, RunsCode, Refs, Demonstrates, Makes, AssemblesTo, IsNoSource, IsUnproved, Proves, ProvesExactly, IsUnprovedExactly, UpgradesTo, IsNoUpgrade, CompilesTo, CompilesExactly, IsNoProgram, Hosts}

-- ---- the one shape

-- The events are reads and writes, and what was read are bytes.
abbrev pub AreOfBytes : List Event → Type 0
AreOfBytes [] = Unit {0}
AreOfBytes (was_read name max given ∷ events) = AreOctets given × AreOfBytes events
AreOfBytes (was_written name bytes answer ∷ events) = AreOfBytes events
AreOfBytes (was_put piece answer ∷ events) = ⊥

-- What a run did of a command that may do this, behind a log e and an output s: it asked files for
-- these events, came to an exit and put its text; or it ran out of memory behind the first reads on
-- a way to some exit, of which none failed, and put nothing.
pub data Came (May : List Event → Exit → Type 0) (e e' : List Event) (s t : SinkState) (status : ℕ)
    : Type 0 where
  came : (events : List Event) (exit : Exit) → e' ≡ e ++ events → AreOfBytes events
      → May events exit → Prints exit s t status → Came May e e' s t status
  out_of_memory : (events rest : List Event) (exit : Exit) → e' ≡ e ++ events → AreOfBytes events
      → May (events ++ rest) exit → NoneFailed events → t ≡ s → status ≡ 5
      → Came May e e' s t status

-- it asks for nothing and comes to this exit
abbrev pub EndsAtOnce : Exit → List Event → Exit → Type 0
EndsAtOnce end events exit = (events ≡ []) × (exit ≡ end)

-- what it may do that names a policy: there is none of the name, or it may do this under it
abbrev pub Under : Option PolicyView → (PolicyView → List Event → Exit → Type 0) → List Event → Exit
    → Type 0
Under None May = EndsAtOnce (refused unknown_policy_line)
Under (Some policy) May = May policy

-- A run of `pcc` keeps a clause on its words, on the log of its files and the state of its output,
-- each as it was before the run (`entry`) and is after it (`exit`), and on the status.
abbrev pub RunKeeps : {F S A : Type 0} → (F → List Event) → (S → SinkState) → List (String A)
    → Both (MutBor F) (MutBor F) → Both (MutBor S) (MutBor S) → ℕ
    → (List (List ℕ) → List Event → List Event → SinkState → SinkState → ℕ → Type 0) → Type 0
RunKeeps log state words files out status Clause =
    Clause (map string_bytes words) (log files.entry.now) (log files.exit.now)
    (state out.entry.now) (state out.exit.now) status

-- The log tells what became of the files: what was added to it took them from the one state to the
-- other.
abbrev pub LogTells : List Event → List Event → FilesState → FilesState → Type 0
LogTells e e' f g = (events : List Event) → e' ≡ e ++ events → Happens events f g

-- ---- the clauses

-- a run of these words, from a log e and an output s to e' and t, which ended with the status
module _ (words : List (List ℕ)) (e e' : List Event) (s t : SinkState) (status : ℕ) where
  -- if the words are this command, the run did what it may
  abbrev pub Does : Invocation → (List Event → Exit → Type 0) → Type 0
  Does command May = command_of words ≡ Some command → Came May e e' s t status

  -- the words are no command
  abbrev pub DoesNothing : Type 0
  DoesNothing =
      command_of words ≡ None → Came (EndsAtOnce (usage_exit texts)) e e' s t status

  -- `ref POLICY FILE PACKETS`, and the steps for a packet
  abbrev pub DoesRef : Type 0
  DoesRef =
      (policy file packets : List ℕ) (steps : ℕ) → Does (ref policy file packets steps)
      (Under (policy_of policy) (λ under. Refs under file packets steps))

  -- `asm POLICY IN OUT`, the container's version, and its bound if it has one
  abbrev pub DoesAsm : Type 0
  DoesAsm =
      (policy input output : List ℕ) (version : ℕ) (bound : Option ℕ) →
      Does (asm policy input output version bound)
      (Under (policy_of policy) (λ under. Makes input output MAX_SOURCE (AssemblesTo version bound under)
      (ToldOf (IsNoSource version bound) input source_too_long_line)))

  -- `prove POLICY IN OUT`
  abbrev pub DoesProve : Type 0
  DoesProve =
      (policy input output : List ℕ) → Does (prove policy input output)
      (Under (policy_of policy) (λ under. Makes input output MAX_FILE (Proves under)
      (ToldOf IsUnproved input container_too_long_line)))

  -- the same, exactly: which containers it proves, and how
  abbrev pub DoesProveExactly : Type 0
  DoesProveExactly =
      (policy input output : List ℕ) → Does (prove policy input output)
      (Under (policy_of policy) (λ under. Makes input output MAX_FILE (ProvesExactly under)
      (ToldOf (IsUnprovedExactly under) input container_too_long_line)))

  -- `demo N`
  abbrev pub DoesDemo : Type 0
  DoesDemo = (n : ℕ) → Does (demo n) (Demonstrates (Proves (built_in Filter)) IsUnproved n)

  -- the same, exactly: by which containers `prove` proves, and how
  abbrev pub DoesDemoExactly : Type 0
  DoesDemoExactly =
      (n : ℕ) → Does (demo n)
      (Demonstrates (ProvesExactly (built_in Filter)) (IsUnprovedExactly (built_in Filter)) n)

  -- `upgrade IN OUT`
  abbrev pub DoesUpgrade : Type 0
  DoesUpgrade =
      (input output : List ℕ) → Does (upgrade input output)
      (Makes input output MAX_FILE UpgradesTo (ToldOf IsNoUpgrade input container_too_long_line))

  -- `host SCRIPT`
  abbrev pub DoesHost : Type 0
  DoesHost = (script : List ℕ) → Does (host script) (Hosts script)

  -- `bpf IN OUT`
  abbrev pub DoesCompile : Type 0
  DoesCompile =
      (input output : List ℕ) → Does (bpf input output)
      (Makes input output MAX_PROGRAM_FILE CompilesTo (ToldOf IsNoProgram input bpf_too_long_line))

  -- the same, exactly: which container it is
  abbrev pub DoesCompileExactly : Type 0
  DoesCompileExactly =
      (input output : List ℕ) → Does (bpf input output)
      (Makes input output MAX_PROGRAM_FILE CompilesExactly
      (ToldOf IsNoProgram input bpf_too_long_line))

-- such a run, of a command that judges FILE by this verdict
module _ (Judges : Verdict) (words : List (List ℕ)) (e e' : List Event) (s t : SinkState)
    (status : ℕ) where
  -- `check POLICY FILE`
  abbrev pub DoesCheck : Type 0
  DoesCheck =
      (policy file : List ℕ) → Does words e e' s t status (check (named policy) file)
      (Under (policy_of policy) (λ under. Checks Judges under file))

  -- `check @NAME FILE`
  abbrev pub DoesCheckFrom : Type 0
  DoesCheckFrom =
      (name file : List ℕ) → Does words e e' s t status (check (from_file name) file)
      (ChecksFrom Judges name file)

  -- `run POLICY FILE PACKETS`, and the steps for a packet
  abbrev pub DoesRun : Type 0
  DoesRun =
      (policy file packets : List ℕ) (steps : ℕ)
      → Does words e e' s t status (run policy file packets steps)
      (Under (policy_of policy) (λ under. RunsCode Judges under file packets steps))

-- these three, and a refusal is that of the first clause that fails
pub record DoesRefuse (words : List (List ℕ)) (e e' : List Event) (s t : SinkState) (status : ℕ)
    : Type 0 where
  pub checks : DoesCheck IsFirstVerdict words e e' s t status
  pub checks_from : DoesCheckFrom IsFirstVerdict words e e' s t status
  pub runs_code : DoesRun IsFirstVerdict words e e' s t status
