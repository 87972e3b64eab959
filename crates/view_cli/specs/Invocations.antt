-- What arguments are a command of pcc_view, and with which values, by the definitions of `clap` for simple commands.
use Rattle.std.specs.Prelude.{ℕ, ◌&&◌, ◌||◌, Bool, true, false, List, [], ◌∷◌, nat_le, Option, Some, None, codes, option_and_then, if◌then◌else◌}
use Rattle.std.specs.Str.{bytes_eq}
use Rattle.clap.specs.Words.{App, Kinds, Row, Rule, Text, fault_of, first_of, new_app, new_rule, subcommand_of, with_rule, with_subcommand}
use Rattle.clap.specs.Simple.{on_top}
use Rattle.clap.specs.declared.builder.action.ArgAction.TheVariants.{SetTrue}
use Rattle.clap.specs.declared.builder.value_parser.ValueParser.TheVariants as parser
use Rattle.word_ops.specs.declared.Profile.{Profile}
use Rattle.word_ops.specs.declared.Profile.TheVariants.{One, Two}
use Rattle.pcc_words.specs.Invocations.{positional, steps_rule, version_rule, bound_rule, file_app, packets_app, PolicyWord, policy_word, value_of, is_given, optional_number, number_at, is_bound, version_at, is_step_count}
use Rattle.view_cli.specs.declared.limits.TheConstants.{MAX_PACKET_NUMBER}

-- ---- the command line

-- `NAME FILE`
abbrev pub one_file_app : Text → App
one_file_app name = with_rule (new_app name) (positional (codes "FILE"))

-- `NAME FILE [SOURCE]`
abbrev pub list_app : Text → App
list_app name = with_rule (one_file_app name) (new_rule (codes "SOURCE"))

-- `K`, from 0 to 4,194,304
abbrev pub number_rule : Rule
number_rule = record (positional (codes "K")) { parser = Some (parser.Unsigned 0 MAX_PACKET_NUMBER) }

-- `NAME POLICY FILE PACKETS K`
abbrev pub numbered_app : Text → App
numbered_app name = with_rule (packets_app name) number_rule

-- `NAME POLICY FILE PACKETS K [--steps N]`
abbrev pub traced_app : Text → App
traced_app name = with_rule (numbered_app name) steps_rule

-- `NAME FILE [--v2]`
abbrev pub versioned_file_app : Text → App
versioned_file_app name = with_rule (one_file_app name) version_rule

-- `--NAME`, without a value
abbrev pub flag_rule : Text → Rule
flag_rule name = record (new_rule name) { long = Some name; action = Some SetTrue }

-- `NAME FILE [--v2] [--bound]`
abbrev pub left_file_app : Text → App
left_file_app name = with_rule (versioned_file_app name) (flag_rule (codes "bound"))

-- `NAME FILE [--v2] [--bound] [--policy]`
abbrev pub formula_app : Text → App
formula_app name = with_rule (left_file_app name) (flag_rule (codes "policy"))

-- `NAME POLICY FILE [SOURCE]`
abbrev pub beside_app : Text → App
beside_app name = with_rule (file_app name) (new_rule (codes "SOURCE"))

-- `NAME POLICY FILE [SOURCE] [--only-missing]`
abbrev pub missing_app : Text → App
missing_app name = with_rule (beside_app name) (flag_rule (codes "only-missing"))

-- `NAME POLICY FILE [SOURCE] [--only-missing] [--all]`
abbrev pub goals_form_app : Text → App
goals_form_app name = with_rule (missing_app name) (flag_rule (codes "all"))

-- `NAME FILE [--v2] [--bound N]`
abbrev pub source_app : Text → App
source_app name = with_rule (versioned_file_app name) bound_rule

-- the program with no command yet, whose own name is not among the arguments
abbrev pub bare_view_app : App
bare_view_app = on_top (λ top. record top { no_binary_name = true }) (new_app (codes "pcc_view"))

-- the command line with `list`
abbrev pub lists_app : App
lists_app = with_subcommand bare_view_app (list_app (codes "list")).top

-- with `goals`
abbrev pub goals_app : App
goals_app = with_subcommand lists_app (goals_form_app (codes "goals")).top

-- with `packet`
abbrev pub traces_app : App
traces_app = with_subcommand goals_app (traced_app (codes "packet")).top

-- with `formula`
abbrev pub formulas_app : App
formulas_app = with_subcommand traces_app (formula_app (codes "formula")).top

-- the program
abbrev pub view_app : App
view_app = with_subcommand formulas_app (source_app (codes "source")).top

-- ---- the values

-- a command with its values
pub data ViewInvocation : Type 0 where
  -- `list FILE`, and the source's file where it is given
  list : Text → Option Text → ViewInvocation
  -- `goals POLICY FILE [SOURCE] [--only-missing] [--all]`, and whether each of the two flags is given
  goals : PolicyWord → Text → Option Text → Bool → Bool → ViewInvocation
  -- `packet POLICY FILE PACKETS K`, and the steps of its run
  packet : PolicyWord → Text → Text → ℕ → ℕ → ViewInvocation
  -- `formula FILE [--v2] [--bound]`, the profile of its operators, and whether it may name the steps that are left
  formula : Text → Profile → Bool → ViewInvocation
  -- `formula FILE --policy`
  policy_formulas : Text → ViewInvocation
  -- `source FILE [--v2] [--bound N]`, the version of the container that it is for, and its bound if it has one
  source : Text → ℕ → Option ℕ → ViewInvocation
  -- help, as `--help` asks for it
  help : ViewInvocation
  -- `--version`
  version : ViewInvocation

-- `list` of these rows
abbrev pub list_invocation : List Row → ViewInvocation
list_invocation rows = list (value_of (codes "FILE") rows) (first_of (codes "SOURCE") rows)

-- the policy of these rows
abbrev pub policy_word_in : List Row → PolicyWord
policy_word_in rows = policy_word (value_of (codes "POLICY") rows)

-- `goals` of these rows
abbrev pub goals_invocation : List Row → ViewInvocation
goals_invocation rows =
    goals (policy_word_in rows) (value_of (codes "FILE") rows) (first_of (codes "SOURCE") rows)
    (is_given (codes "only-missing") rows) (is_given (codes "all") rows)

-- a packet from 0 to 4,194,304, and steps from 1 to 1,000,000,000
abbrev pub are_trace_numbers : ℕ → ℕ → Bool
are_trace_numbers number steps = nat_le number MAX_PACKET_NUMBER && is_step_count steps

-- `packet` of these rows. The parse takes no other numbers, so the test refuses none of them.
abbrev pub packet_invocation : List Row → Option ViewInvocation
packet_invocation rows =
    let number = number_at (codes "K") rows in
    let steps = number_at (codes "steps") rows in
    if are_trace_numbers number steps
    then Some (packet (policy_word_in rows) (value_of (codes "FILE") rows) (value_of (codes "PACKETS") rows) number steps)
    else None

-- `formula` of a file, by which of its three flags are given: that of a policy goes with no other
abbrev pub formula_invocation : Text → Bool → Bool → Bool → Option ViewInvocation
formula_invocation file wide left true = if wide || left then None else Some (policy_formulas file)
formula_invocation file wide left false = Some (formula file (if wide || left then Two else One) left)

-- the same of these rows
abbrev pub formula_at : List Row → Option ViewInvocation
formula_at rows =
    formula_invocation (value_of (codes "FILE") rows) (is_given (codes "v2") rows)
    (is_given (codes "bound") rows) (is_given (codes "policy") rows)

-- `source` of these rows. The parse takes no other bounds, so the test refuses none of them.
abbrev pub source_invocation : List Row → Option ViewInvocation
source_invocation rows =
    let bound = optional_number (codes "bound") rows in
    if is_bound bound then Some (source (value_of (codes "FILE") rows) (version_at bound rows) bound) else None

-- what was found for the subcommand of this name
abbrev pub view_invocation_at : Text → List Row → Option ViewInvocation
view_invocation_at name rows =
    if bytes_eq name (codes "list") then Some (list_invocation rows) else
    if bytes_eq name (codes "goals") then Some (goals_invocation rows) else
    if bytes_eq name (codes "packet") then packet_invocation rows else
    if bytes_eq name (codes "formula") then formula_at rows else
    if bytes_eq name (codes "source") then source_invocation rows else
    None

-- the same of a name with its rows
abbrev pub view_invocation_of_subcommand : Text × List Row → Option ViewInvocation
view_invocation_of_subcommand found = view_invocation_at found.0 found.1

-- where there is no fault, the subcommand that was met, with its values
abbrev pub view_command_at : Kinds → Option (Text × List Row) → Option ViewInvocation
view_command_at [] found = option_and_then view_invocation_of_subcommand found
view_command_at (kind ∷ kinds) found = None

-- the command that `clap` finds in the arguments: there is one where its parse has no fault and meets a subcommand
unfoldable pub parsed_command_of : List Text → Option ViewInvocation
parsed_command_of args = view_command_at (fault_of view_app args) (subcommand_of view_app args)

-- the word is all that the arguments are
abbrev pub is_alone : Text → List Text → Bool
is_alone word [] = false
is_alone word (first ∷ []) = bytes_eq first word
is_alone word (first ∷ second ∷ rest) = false

-- `--help` or `-h`
abbrev pub is_help_flag : Text → Bool
is_help_flag word = bytes_eq word (codes "--help") || bytes_eq word (codes "-h")

-- the name of a command
abbrev pub is_command_name : Text → Bool
is_command_name word =
    bytes_eq word (codes "list") || bytes_eq word (codes "goals") || bytes_eq word (codes "packet")
    || bytes_eq word (codes "formula") || bytes_eq word (codes "source")

-- a command's name before a flag of help, or behind `help`
abbrev pub is_help_pair : Text → Text → Bool
is_help_pair first second =
    (is_command_name first && is_help_flag second)
    || (bytes_eq first (codes "help") && is_command_name second)

-- The arguments ask for help: they are `--help`, `-h` or `help` alone, or one of these and a command's
-- name.
abbrev pub asks_help : List Text → Bool
asks_help [] = false
asks_help (word ∷ []) = is_help_flag word || bytes_eq word (codes "help")
asks_help (first ∷ second ∷ []) = is_help_pair first second
asks_help (first ∷ second ∷ third ∷ rest) = false

-- The command that the arguments are: they ask for help, are `--version` alone, or are what `clap` finds.
abbrev pub view_command_of : List Text → Option ViewInvocation
view_command_of args =
    if asks_help args then Some help else
    if is_alone (codes "--version") args then Some version else
    parsed_command_of args
