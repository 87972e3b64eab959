-- What arguments are a command of pcc, and with which values, by the definitions of `clap` for simple commands.
use Rattle.std.specs.Prelude.{ℕ, ◌^◌, ◌&&◌, Bool, true, List, [], ◌∷◌, length, nat_le, nat_lt, Option, Some, None, codes, unwrap_or, option_and_then, if◌then◌else◌}
use Rattle.std.specs.Char.{digit_value}
use Rattle.std.specs.List.{list_all}
use Rattle.std.specs.Option.{option_map_or}
use Rattle.std.specs.Str.{bytes_eq}
use Rattle.std.specs.Str.Parse.{digits_value, without_leading_plus}
use Rattle.clap.specs.Words.{App, Kinds, Row, Rule, Text, fault_of, first_of, new_app, new_rule, one_of, subcommand_of, with_rule, with_subcommand}
use Rattle.clap.specs.Lexer.{strip_byte}
use Rattle.clap.specs.Simple.{on_top}
use Rattle.clap.specs.declared.builder.action.ArgAction.TheVariants.{SetTrue}
use Rattle.clap.specs.declared.builder.value_parser.ValueParser.TheVariants as parser
use Rattle.pcc_words.specs.declared.limits.TheConstants.{MAX_BOUND, MAX_DEMO, MAX_STEPS, PLAIN_VERSION, PROFILE_TWO_VERSION, BOUNDED_VERSION}

-- ---- the command line

-- a positional that has to be there
abbrev pub positional : Text → Rule
positional id = record (new_rule id) { required = true }

-- `--steps N`, from 1 to 1,000,000,000, and 1,000,000 where it is not given
abbrev pub steps_rule : Rule
steps_rule = record (new_rule (codes "steps")) {
  long = Some (codes "steps");
  parser = Some (parser.Unsigned 1 MAX_STEPS);
  defaults = codes "1000000" ∷ [];
}

-- `--v2`, without a value
abbrev pub version_rule : Rule
version_rule = record (new_rule (codes "v2")) { long = Some (codes "v2"); action = Some SetTrue }

-- `--bound N`, from 1 to 1,000,000,000
abbrev pub bound_rule : Rule
bound_rule = record (new_rule (codes "bound")) {
  long = Some (codes "bound");
  parser = Some (parser.Unsigned 1 MAX_BOUND);
}

-- `NAME N`, N from 1 to 400
abbrev pub number_app : Text → App
number_app name = with_rule (new_app name) (record (positional (codes "N")) { parser = Some (parser.Unsigned 1 MAX_DEMO) })

-- `NAME POLICY`
abbrev pub policy_app : Text → App
policy_app name = with_rule (new_app name) (positional (codes "POLICY"))

-- `NAME POLICY FILE`
abbrev pub file_app : Text → App
file_app name = with_rule (policy_app name) (positional (codes "FILE"))

-- `NAME POLICY IN`
abbrev pub input_app : Text → App
input_app name = with_rule (policy_app name) (positional (codes "IN"))

-- `NAME POLICY IN OUT`
abbrev pub copy_app : Text → App
copy_app name = with_rule (input_app name) (positional (codes "OUT"))

-- `NAME POLICY IN OUT [--v2]`
abbrev pub versioned_app : Text → App
versioned_app name = with_rule (copy_app name) version_rule

-- `NAME POLICY IN OUT [--v2] [--bound N]`
abbrev pub bounded_app : Text → App
bounded_app name = with_rule (versioned_app name) bound_rule

-- `NAME SCRIPT`
abbrev pub script_app : Text → App
script_app name = with_rule (new_app name) (positional (codes "SCRIPT"))

-- `NAME IN`
abbrev pub path_app : Text → App
path_app name = with_rule (new_app name) (positional (codes "IN"))

-- `NAME IN OUT`
abbrev pub paths_app : Text → App
paths_app name = with_rule (path_app name) (positional (codes "OUT"))

-- `NAME POLICY FILE PACKETS`
abbrev pub packets_app : Text → App
packets_app name = with_rule (file_app name) (positional (codes "PACKETS"))

-- `NAME POLICY FILE PACKETS [--steps N]`
abbrev pub run_app : Text → App
run_app name = with_rule (packets_app name) steps_rule

-- the program with no command yet, whose own name is not among the arguments
abbrev pub bare_app : App
bare_app = on_top (λ top. record top { no_binary_name = true }) (new_app (codes "pcc"))

-- the command line with `asm`
abbrev pub asm_app : App
asm_app = with_subcommand bare_app (bounded_app (codes "asm")).top

-- with `prove`
abbrev pub copies_app : App
copies_app = with_subcommand asm_app (copy_app (codes "prove")).top

-- with all commands that run no code
abbrev pub file_commands_app : App
file_commands_app = with_subcommand copies_app (file_app (codes "check")).top

-- with `run`
abbrev pub runs_app : App
runs_app = with_subcommand file_commands_app (run_app (codes "run")).top

-- the command line with the commands over files
abbrev pub named_files_app : App
named_files_app = with_subcommand runs_app (run_app (codes "ref")).top

-- with `demo`
abbrev pub demos_app : App
demos_app = with_subcommand named_files_app (number_app (codes "demo")).top

-- with `upgrade`
abbrev pub upgrades_app : App
upgrades_app = with_subcommand demos_app (paths_app (codes "upgrade")).top

-- with `host`
abbrev pub hosts_app : App
hosts_app = with_subcommand upgrades_app (script_app (codes "host")).top

-- the program
abbrev pub pcc_app : App
pcc_app = with_subcommand hosts_app (paths_app (codes "bpf")).top

-- ---- the values

-- how a word tells a policy
pub data PolicyWord : Type 0 where
  -- it is the name of a built-in one
  named : Text → PolicyWord
  -- it is `@` and the name of a file that spells one
  from_file : Text → PolicyWord

-- the word as a policy: behind a first byte `@` the name of a file stands, which may be empty
abbrev pub policy_word : Text → PolicyWord
policy_word text = option_map_or from_file (strip_byte 64 text) (named text)

-- a command with its values
pub data Invocation : Type 0 where
  -- `asm POLICY IN OUT [--v2] [--bound N]`, the container's version, and its bound if it has one
  asm : Text → Text → Text → ℕ → Option ℕ → Invocation
  -- `prove POLICY IN OUT`
  prove : Text → Text → Text → Invocation
  -- `check POLICY FILE`
  check : PolicyWord → Text → Invocation
  -- `run POLICY FILE PACKETS`, and the steps for a packet
  run : Text → Text → Text → ℕ → Invocation
  -- `ref POLICY FILE PACKETS`, and the steps for a packet
  ref : Text → Text → Text → ℕ → Invocation
  -- `demo N`
  demo : ℕ → Invocation
  -- `upgrade IN OUT`
  upgrade : Text → Text → Invocation
  -- `host SCRIPT`
  host : Text → Invocation
  -- `bpf IN OUT`
  bpf : Text → Text → Invocation

-- the value of a required argument
abbrev pub value_of : Text → List Row → Text
value_of id rows = unwrap_or (first_of id rows) []

-- whether an argument without a value is there
abbrev pub is_given : Text → List Row → Bool
is_given id rows = bytes_eq (value_of id rows) (codes "true")

-- the text says a u64 in digits, which a plus may precede
abbrev pub is_number : Text → Bool
is_number text =
    let ds = without_leading_plus text in
    nat_lt 0 (length ds) && list_all (λ d. nat_lt (digit_value d) 10) ds && nat_lt (digits_value 10 ds) (2 ^ 64)

-- the number that the text says, if it says one
abbrev pub number_of : Text → Option ℕ
number_of text = if is_number text then Some (digits_value 10 (without_leading_plus text)) else None

-- the number of an optional argument, if it has one
abbrev pub optional_number : Text → List Row → Option ℕ
optional_number id rows = option_and_then number_of (one_of id rows)

-- the same, or 0
abbrev pub number_at : Text → List Row → ℕ
number_at id rows = unwrap_or (optional_number id rows) 0

-- no bound, or one from 1 to 1,000,000,000
abbrev pub is_bound : Option ℕ → Bool
is_bound None = true
is_bound (Some n) = nat_le 1 n && nat_le n MAX_BOUND

-- The version of the container that `asm` makes: the one for a bound where it is given one, else the
-- second profile's where that is asked for, else the first.
abbrev pub version_at : Option ℕ → List Row → ℕ
version_at (Some bound) rows = BOUNDED_VERSION
version_at None rows = if is_given (codes "v2") rows then PROFILE_TWO_VERSION else PLAIN_VERSION

-- from 1 to 1,000,000,000
abbrev pub is_step_count : ℕ → Bool
is_step_count steps = nat_le 1 steps && nat_le steps MAX_STEPS

-- a command that runs packets, of these rows. The parse takes no other numbers of steps, so the test refuses none of them.
abbrev pub run_invocation : (Text → Text → Text → ℕ → Invocation) → List Row → Option Invocation
run_invocation command rows =
    let steps = number_at (codes "steps") rows in
    if is_step_count steps
    then Some (command (value_of (codes "POLICY") rows) (value_of (codes "FILE") rows) (value_of (codes "PACKETS") rows) steps)
    else None

-- from 1 to 400
abbrev pub is_demo_size : ℕ → Bool
is_demo_size n = nat_le 1 n && nat_le n MAX_DEMO

-- `demo` of these rows. The parse takes no other numbers, so the test refuses none of them.
abbrev pub demo_invocation : List Row → Option Invocation
demo_invocation rows = let n = number_at (codes "N") rows in if is_demo_size n then Some (demo n) else None

-- a command that makes a file of another, of these rows
abbrev pub copy_invocation : (Text → Text → Text → Invocation) → List Row → Invocation
copy_invocation command rows = command (value_of (codes "POLICY") rows) (value_of (codes "IN") rows) (value_of (codes "OUT") rows)

-- a command that makes a file of another under no named policy, of these rows
abbrev pub path_invocation : (Text → Text → Invocation) → List Row → Invocation
path_invocation command rows = command (value_of (codes "IN") rows) (value_of (codes "OUT") rows)

-- `asm` of these rows with this bound, if it has one
abbrev pub asm_with : Option ℕ → List Row → Invocation
asm_with bound rows =
    copy_invocation (λ policy input output. asm policy input output (version_at bound rows) bound) rows

-- `asm` of these rows. The parse takes no other bounds, so the test refuses none of them.
abbrev pub asm_invocation : List Row → Option Invocation
asm_invocation rows =
    let bound = optional_number (codes "bound") rows in
    if is_bound bound then Some (asm_with bound rows) else None

-- `check` of these rows
abbrev pub check_invocation : List Row → Invocation
check_invocation rows =
    check (policy_word (value_of (codes "POLICY") rows)) (value_of (codes "FILE") rows)

-- what was found for the subcommand of this name
abbrev pub invocation_at : Text → List Row → Option Invocation
invocation_at name rows =
    if bytes_eq name (codes "asm") then asm_invocation rows else
    if bytes_eq name (codes "prove") then Some (copy_invocation prove rows) else
    if bytes_eq name (codes "check") then Some (check_invocation rows) else
    if bytes_eq name (codes "run") then run_invocation run rows else
    if bytes_eq name (codes "ref") then run_invocation ref rows else
    if bytes_eq name (codes "demo") then demo_invocation rows else
    if bytes_eq name (codes "upgrade") then Some (path_invocation upgrade rows) else
    if bytes_eq name (codes "host") then Some (host (value_of (codes "SCRIPT") rows)) else
    if bytes_eq name (codes "bpf") then Some (path_invocation bpf rows) else
    None

-- the same of a name with its rows
abbrev pub invocation_of_subcommand : Text × List Row → Option Invocation
invocation_of_subcommand found = invocation_at found.0 found.1

-- where there is no fault, the subcommand that was met, with its values
abbrev pub command_at : Kinds → Option (Text × List Row) → Option Invocation
command_at [] found = option_and_then invocation_of_subcommand found
command_at (kind ∷ kinds) found = None

-- The command that the arguments are, by `clap`: they are one where its parse has no fault and meets a subcommand.
unfoldable pub command_of : List Text → Option Invocation
command_of args = command_at (fault_of pcc_app args) (subcommand_of pcc_app args)
