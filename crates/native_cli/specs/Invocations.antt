-- What arguments are a command of pcc_native, and with which values, by the definitions of `clap` for simple commands.
use Rattle.std.specs.Prelude.{ℕ, ◌&&◌, ◌||◌, ◌==◌, Bool, true, false, List, [], ◌∷◌, length, nat_le, Option, Some, None, codes, option_map, if◌then◌else◌}
use Rattle.std.specs.List.{list_all}
use Rattle.std.specs.Str.{bytes_eq}
use Rattle.clap.specs.Words.{App, Kinds, Row, Rule, Text, fault_of, matches_of, new_rule, with_rule}
use Rattle.clap.specs.Simple.{on_top}
use Rattle.pcc_words.specs.Invocations.{PolicyWord, file_app, policy_word, positional, value_of}
use Rattle.native_cli.specs.declared.arguments.TheConstants.{MAX_NAME}

-- ---- the command line

-- `--name NAME`, which is `pcc_code` where it isn't given
abbrev pub name_rule : Rule
name_rule = record (new_rule (codes "name")) { long = Some (codes "name"); defaults = codes "pcc_code" ∷ [] }

-- `POLICY FILE OUT`; the program's own name is not among the arguments
abbrev pub output_app : App
output_app = with_rule (on_top (λ top. record top { no_binary_name = true }) (file_app (codes "pcc_native"))) (positional (codes "OUT"))

-- `POLICY FILE OUT [--name NAME]`
abbrev pub native_app : App
native_app = with_rule output_app name_rule

-- ---- C identifiers

-- A to Z, a to z, or `_`
abbrev pub is_nondigit : ℕ → Bool
is_nondigit c = (nat_le 65 c && nat_le c 90) || (nat_le 97 c && nat_le c 122) || c == 95

-- one of these, or 0 to 9
abbrev pub is_identifier_byte : ℕ → Bool
is_identifier_byte c = is_nondigit c || (nat_le 48 c && nat_le c 57)

-- the first byte is a letter
abbrev pub begins_with_nondigit : Text → Bool
begins_with_nondigit [] = false
begins_with_nondigit (c ∷ rest) = is_nondigit c

-- A C identifier of at most 255 bytes. ISO/IEC 9899, section 6.4.2.1.
abbrev pub is_c_identifier : Text → Bool
is_c_identifier text = begins_with_nondigit text && list_all is_identifier_byte text && nat_le (length text) MAX_NAME

-- ---- the values

-- the arguments of a translation
pub record NativeGiven : Type 0 where
  pub policy : PolicyWord
  pub file : Text
  pub output : Text
  pub name : Text

-- what arguments ask for
pub data NativeInvocation : Type 0 where
  -- `POLICY FILE OUT [--name NAME]`
  translation : NativeGiven → NativeInvocation
  help : NativeInvocation
  version : NativeInvocation

-- a translation with these rows, if the name is one
abbrev pub args_at : List Row → Option NativeGiven
args_at rows =
    if is_c_identifier (value_of (codes "name") rows) then Some (record {
      policy = policy_word (value_of (codes "POLICY") rows);
      file = value_of (codes "FILE") rows;
      output = value_of (codes "OUT") rows;
      name = value_of (codes "name") rows;
    }) else None

-- where there is no fault, the translation
abbrev pub args_if_parsed : Kinds → List Row → Option NativeGiven
args_if_parsed [] rows = args_at rows
args_if_parsed (kind ∷ kinds) rows = None

-- the translation that `clap` finds in the arguments
unfoldable pub parsed_args_of : List Text → Option NativeGiven
parsed_args_of args = args_if_parsed (fault_of native_app args) (matches_of native_app args)

-- the word is all that the arguments are
abbrev pub is_sole : Text → List Text → Bool
is_sole word [] = false
is_sole word (first ∷ []) = bytes_eq first word
is_sole word (first ∷ second ∷ rest) = false

-- the arguments are `--help` or `-h` alone
abbrev pub asks_native_help : List Text → Bool
asks_native_help args = is_sole (codes "--help") args || is_sole (codes "-h") args

-- The command that the arguments are: `--help`, `-h` or `--version` alone, or what `clap` finds.
abbrev pub native_command_of : List Text → Option NativeInvocation
native_command_of args =
    if asks_native_help args then Some help else
    if is_sole (codes "--version") args then Some version else
    option_map translation (parsed_args_of args)
