-- What the clauses of each command give together: what a run of any command means, where memory runs
-- out behind reads that its definition asks for.
use Rattle.std.specs.Prelude.{◌≡◌, ℕ, List, ◌++◌, Option, None, Some}
use Rattle.file_port.specs.Events.{Event}
use Rattle.file_port.specs.Sink.{SinkState}
use Rattle.asm_text.specs.declared.limits.TheConstants.{MAX_SOURCE}
use Rattle.policy_set.specs.declared.kind.PolicyKind.TheVariants.{Filter}
use Rattle.policy_set.specs.Views.{built_in}
use Rattle.policy_set.specs.Names.{policy_of}
use Rattle.pcc_words.specs.Invocations.{named, from_file, Invocation, asm, prove, check, run, ref, demo, upgrade, host, bpf}
use Rattle.pcc_lines.specs.Fixed.{bpf_too_long_line, container_too_long_line, source_too_long_line}
use Rattle.pcc_stages.specs.Exits.{Exit}
use Rattle.pcc_stages.specs.Runs.{Effect, NoneFailed, Prints}
use Rattle.pcc_stages.specs.Stage.{Stage, Follows}
use Rattle.pcc_stages.specs.Texts.{texts}
use Rattle.pcc_stages.specs.declared.files.TheConstants.{MAX_FILE}
use Rattle.pcc_commands.specs.Tasks.{stage_of}
use Rattle.pcc_commands.specs.declared.stages.TheConstants.{MAX_PROGRAM_FILE}
use Rattle.pcc_cli.specs.Headline.{IsVerdict, IsFirstVerdict, ToldOf, Checks, ChecksFrom, RunsCode, Refs, Demonstrates, Makes, AssemblesTo, IsNoSource, ProvesExactly, IsUnprovedExactly, UpgradesTo, IsNoUpgrade, CompilesExactly, IsNoProgram, Hosts}
use Rattle.pcc_cli.specs.Clauses.{Under, DoesNothing, DoesCheck, DoesCheckFrom, DoesRun, DoesRefuse, DoesRef, DoesAsm}
use Rattle.pcc_cli.specs.Clauses.{DoesProve, DoesProveExactly, DoesDemo, DoesDemoExactly, DoesUpgrade, DoesHost, DoesCompile, DoesCompileExactly}

-- what a command may do that comes to an exit
abbrev pub MayDo : Invocation → List Event → Exit → Type 0
MayDo (asm policy input output version bound) =
    Under (policy_of policy) (λ under. Makes input output MAX_SOURCE (AssemblesTo version bound under)
    (ToldOf (IsNoSource version bound) input source_too_long_line))
MayDo (prove policy input output) =
    Under (policy_of policy) (λ under. Makes input output MAX_FILE (ProvesExactly under)
    (ToldOf (IsUnprovedExactly under) input container_too_long_line))
MayDo (check (named policy) file) =
    Under (policy_of policy) (λ under. Checks IsFirstVerdict under file)
MayDo (check (from_file name) file) = ChecksFrom IsFirstVerdict name file
MayDo (run policy file packets steps) =
    Under (policy_of policy) (λ under. RunsCode IsFirstVerdict under file packets steps)
MayDo (ref policy file packets steps) =
    Under (policy_of policy) (λ under. Refs under file packets steps)
MayDo (demo n) =
    Demonstrates (ProvesExactly (built_in Filter)) (IsUnprovedExactly (built_in Filter)) n
MayDo (upgrade input output) =
    Makes input output MAX_FILE UpgradesTo (ToldOf IsNoUpgrade input container_too_long_line)
MayDo (host script) = Hosts script
MayDo (bpf input output) =
    Makes input output MAX_PROGRAM_FILE CompilesExactly
    (ToldOf IsNoProgram input bpf_too_long_line)

-- A run of a command asked files for these events, behind a log e, and put what the exit says on the
-- output s; or memory ran out after some of the reads that the command asks for, of which none
-- failed, and nothing was put.
pub data Means (invocation : Invocation) (e e' : List Event) (s t : SinkState) (status : ℕ)
    : Type 0 where
  came_to : (events : List Event) (exit : Exit) → e' ≡ e ++ events → MayDo invocation events exit
      → Prints exit s t status → Means invocation e e' s t status
  ran_out : (events : List Event) (later : Stage Effect) → e' ≡ e ++ events
      → Follows texts events (stage_of invocation) later → NoneFailed events → t ≡ s → status ≡ 5
      → Means invocation e e' s t status

-- what a run meant, if the arguments are a command
abbrev pub MeansIfCommand : Option Invocation → List Event → List Event → SinkState → SinkState → ℕ
    → Type 0
MeansIfCommand None e e' s t status = e' ≡ e
MeansIfCommand (Some invocation) e e' s t status = Means invocation e e' s t status

-- a run keeps each of the clauses of the commands
pub record KeepsClauses (words : List (List ℕ)) (e e' : List Event) (s t : SinkState) (status : ℕ)
    : Type 0 where
  pub checks : DoesCheck IsVerdict words e e' s t status
  pub checks_from : DoesCheckFrom IsVerdict words e e' s t status
  pub runs_code : DoesRun IsVerdict words e e' s t status
  pub refuses : DoesRefuse words e e' s t status
  pub refers : DoesRef words e e' s t status
  pub assembles : DoesAsm words e e' s t status
  pub proves : DoesProve words e e' s t status
  pub proves_exactly : DoesProveExactly words e e' s t status
  pub demonstrates : DoesDemo words e e' s t status
  pub demonstrates_exactly : DoesDemoExactly words e e' s t status
  pub upgrades : DoesUpgrade words e e' s t status
  pub hosts : DoesHost words e e' s t status
  pub compiles : DoesCompile words e e' s t status
  pub compiles_exactly : DoesCompileExactly words e e' s t status
  pub no_command : DoesNothing words e e' s t status
