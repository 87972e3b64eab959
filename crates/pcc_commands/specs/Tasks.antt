-- What the arguments of pcc ask for.
use Rattle.std.specs.Prelude.{ℕ, List, [], ◌∷◌, Option, Some, None}
use Rattle.policy_set.specs.Names.{policy_of}
use Rattle.pcc_words.specs.Invocations.{named, from_file, Invocation, asm, prove, check, run, ref, demo, upgrade, host, bpf, command_of}
use Rattle.pcc_stages.specs.Requests.{Request, Standing, no_command, command, usage_exit}
use Rattle.pcc_stages.specs.Stage.{Stage, stops}
use Rattle.pcc_stages.specs.Runs.{Effect, Task, request_of_task}
use Rattle.pcc_stages.specs.Texts.{texts}
use Rattle.pcc_stages.specs.Told.{standing_of_policy}
use Rattle.pcc_commands.specs.Commands.Assemble.{asm_command}
use Rattle.pcc_commands.specs.Commands.Check.{check_command}
use Rattle.pcc_commands.specs.Commands.Prove.{prove_command}
use Rattle.pcc_commands.specs.Commands.Reference.{ref_command}
use Rattle.pcc_commands.specs.Commands.Demo.{demo_policy, demo_command}
use Rattle.pcc_commands.specs.Commands.Running.{run_command}
use Rattle.pcc_commands.specs.Commands.Upgrade.{upgrade_command}
use Rattle.pcc_commands.specs.Commands.Bpf.{bpf_command}
use Rattle.pcc_commands.specs.Commands.Host.{host_command}

-- ---- each command

-- what a command does
abbrev pub stage_of : Invocation → Stage Effect
stage_of (asm policy input output version bound) = asm_command version bound policy input output
stage_of (prove policy input output) = prove_command policy input output
stage_of (check word file) = check_command word file
stage_of (run policy file packets steps) = run_command policy file packets steps
stage_of (ref policy file packets steps) = ref_command policy file packets steps
stage_of (demo n) = demo_command n
stage_of (upgrade input output) = upgrade_command input output
stage_of (host script) = host_command script
stage_of (bpf input output) = bpf_command input output

-- the files that a command reads, whatever they hold; none where they come from what a file holds
abbrev pub names_of : Invocation → Option (List (List ℕ))
names_of (asm policy input output version bound) = Some (input ∷ [])
names_of (prove policy input output) = Some (input ∷ [])
names_of (check (named policy) file) = Some (file ∷ [])
names_of (check (from_file name) file) = Some (name ∷ file ∷ [])
names_of (run policy file packets steps) = Some (file ∷ packets ∷ [])
names_of (ref policy file packets steps) = Some (file ∷ packets ∷ [])
names_of (demo n) = Some []
names_of (upgrade input output) = Some (input ∷ [])
names_of (host script) = None
names_of (bpf input output) = Some (input ∷ [])

-- the name of the policy that a command names, or is always under; none where a file tells it, or
-- there is none
abbrev pub policy_name_of : Invocation → Option (List ℕ)
policy_name_of (asm policy input output version bound) = Some policy
policy_name_of (prove policy input output) = Some policy
policy_name_of (check (named policy) file) = Some policy
policy_name_of (check (from_file name) file) = None
policy_name_of (run policy file packets steps) = Some policy
policy_name_of (ref policy file packets steps) = Some policy
policy_name_of (demo n) = Some demo_policy
policy_name_of (upgrade input output) = None
policy_name_of (host script) = None
policy_name_of (bpf input output) = None

-- what a command is that names this policy, if it names one
abbrev pub standing_under : Option (List ℕ) → Standing
standing_under None = command
standing_under (Some name) = standing_of_policy (policy_of name)

-- what a command is
abbrev pub standing_of : Invocation → Standing
standing_of invocation = standing_under (policy_name_of invocation)

-- ---- all commands

-- what a command asks for, or arguments that are none
abbrev pub task_of_command : Option Invocation → Task
task_of_command None = record { standing = no_command; names = Some []; stage = stops (usage_exit texts) }
task_of_command (Some invocation) = record { standing = standing_of invocation; names = names_of invocation; stage = stage_of invocation }

-- what the arguments ask for
abbrev pub task_of : List (List ℕ) → Task
task_of args = task_of_command (command_of args)

-- the request that they are, over files that are known
abbrev pub request_of : List (List ℕ) → Request
request_of args = request_of_task texts (task_of args)
