-- Commands without where their values lie in memory.
use Rattle.std.specs.Prelude.{◌≤◌, option_map}
use Rattle.pcc_words.specs.Commands.{word_view, IsVersionOf}
use Rattle.pcc_words.specs.declared.limits.TheConstants.{MAX_STEPS}
use Rattle.view_cli.specs.Invocations.{ViewInvocation, list, goals, packet, formula, policy_formulas, source, help, version}
use Rattle.view_cli.specs.declared.arguments.GoalsArgs.{GoalsArgs}
use Rattle.view_cli.specs.declared.arguments.PacketArgs.{PacketArgs}
use Rattle.view_cli.specs.declared.arguments.FormulaArgs.{FormulaArgs}
use Rattle.view_cli.specs.declared.arguments.SourceArgs.{SourceArgs}
use Rattle.view_cli.specs.declared.arguments.Command.{Command}
use Rattle.view_cli.specs.declared.arguments.Command.TheVariants as command
use Rattle.view_cli.specs.declared.limits.TheConstants.{MAX_PACKET_NUMBER}

-- `goals` with its values
abbrev pub goals_from_args : GoalsArgs → ViewInvocation
goals_from_args args =
    goals (word_view args.policy) args.file.now (option_map (λ s. s.now) args.source) args.only_missing
    args.all

-- `packet` with its values
abbrev pub packet_from_args : PacketArgs → ViewInvocation
packet_from_args args = packet (word_view args.policy) args.file.now args.packets.now args.number args.steps

-- `formula` with its values
abbrev pub formula_from_args : FormulaArgs → ViewInvocation
formula_from_args args = formula args.file.now args.profile args.left

-- `source` with its values
abbrev pub source_from_args : SourceArgs → ViewInvocation
source_from_args args = source args.file.now args.version args.bound

-- the command with its values
abbrev pub view_invocation_of : Command → ViewInvocation
view_invocation_of (command.List args) = list args.file.now (option_map (λ s. s.now) args.source)
view_invocation_of (command.Goals args) = goals_from_args args
view_invocation_of (command.Packet args) = packet_from_args args
view_invocation_of (command.Formula args) = formula_from_args args
view_invocation_of (command.PolicyText file) = policy_formulas file.now
view_invocation_of (command.Source args) = source_from_args args
view_invocation_of command.Help = help
view_invocation_of command.Version = version

-- The numbers of a command are in their ranges.
abbrev pub IsInViewRange : Command → Type 0
IsInViewRange (command.Packet args) = (args.number ≤ MAX_PACKET_NUMBER) × (1 ≤ args.steps) × (args.steps ≤ MAX_STEPS)
IsInViewRange (command.Source args) = IsVersionOf args.bound args.version
IsInViewRange other = Unit {0}
