-- What the arguments of pcc_view ask for.
use Rattle.std.specs.Prelude.{ℕ, List, [], ◌∷◌, ◌++◌, Option, Some, None}
use Rattle.pcc_stages.specs.Exits.{Exit}
use Rattle.pcc_stages.specs.Requests.{Request, Standing, no_command, command, usage_exit}
use Rattle.pcc_stages.specs.Runs.{Task, request_of_task, done_exit}
use Rattle.pcc_stages.specs.Stage.{Stage, gives, ◌>>=◌}
use Rattle.pcc_stages.specs.Stages.Common.{ending}
use Rattle.pcc_stages.specs.Told.{word_files, standing_of_word}
use Rattle.view_cli.specs.Invocations.{ViewInvocation, list, goals, packet, formula, policy_formulas, source, help, version, view_command_of}
use Rattle.view_cli.specs.Texts.{help_text, version_text, view_texts}
use Rattle.view_cli.specs.Commands.List.{list_command}
use Rattle.view_cli.specs.Commands.Goals.{goals_command}
use Rattle.view_cli.specs.Commands.Packet.{packet_command}
use Rattle.view_cli.specs.Commands.Faults.{formula_command, policy_command, source_command}

-- ---- each command

-- what a command comes to
abbrev pub exit_of_command : ViewInvocation → Stage Exit
exit_of_command (list file from) = list_command file from
exit_of_command (goals policy file from only_missing all) =
    goals_command policy file from only_missing all
exit_of_command (packet policy file packets k steps) = packet_command policy file packets k steps
exit_of_command (formula file profile left) = formula_command file profile left
exit_of_command (policy_formulas file) = policy_command file
exit_of_command (source file v bound) = source_command file v bound
exit_of_command help = gives (done_exit help_text)
exit_of_command version = gives (done_exit version_text)

-- the files that a command reads, whatever they hold
abbrev pub view_files : ViewInvocation → List (List ℕ)
view_files (list file None) = file ∷ []
view_files (list file (Some from)) = file ∷ from ∷ []
view_files (goals policy file None only_missing all) = word_files policy ++ file ∷ []
view_files (goals policy file (Some from) only_missing all) = word_files policy ++ file ∷ from ∷ []
view_files (packet policy file packets k steps) = word_files policy ++ file ∷ packets ∷ []
view_files (formula file profile left) = file ∷ []
view_files (policy_formulas file) = file ∷ []
view_files (source file v bound) = file ∷ []
view_files help = []
view_files version = []

-- what a command is
abbrev pub view_standing : ViewInvocation → Standing
view_standing (goals policy file from only_missing all) = standing_of_word policy
view_standing (packet policy file packets k steps) = standing_of_word policy
view_standing other = command

-- ---- all commands

-- what a command comes to, or that the arguments are no command
abbrev pub exit_if_command : Option ViewInvocation → Stage Exit
exit_if_command None = gives (usage_exit view_texts)
exit_if_command (Some invocation) = exit_of_command invocation

-- what a command is, or that the arguments are none
abbrev pub standing_if_command : Option ViewInvocation → Standing
standing_if_command None = no_command
standing_if_command (Some invocation) = view_standing invocation

-- the files that a command reads; none where the arguments are no command
abbrev pub files_if_command : Option ViewInvocation → List (List ℕ)
files_if_command None = []
files_if_command (Some invocation) = view_files invocation

-- what a command asks for, if the arguments are one: a stage that comes to an exit, and to end with
-- it
abbrev pub view_task : Option ViewInvocation → Task
view_task found = record {
  standing = standing_if_command found;
  names = Some (files_if_command found);
  stage = exit_if_command found >>= ending;
}

-- what the arguments ask for
abbrev pub view_task_of : List (List ℕ) → Task
view_task_of args = view_task (view_command_of args)

-- the request that they are, over files that are known
abbrev pub view_request_of : List (List ℕ) → Request
view_request_of args = request_of_task view_texts (view_task_of args)
