-- The arguments of pcc_auto: those of `pcc asm`, and two words that stand alone.
use Rattle.std.specs.Prelude.{ℕ, Bool, false, List, [], ◌∷◌, ◌==◌, ◌||◌, not, if◌then◌else◌, max, Option, Some, None, codes}
use Rattle.std.specs.Option.{option_map}
use Rattle.std.specs.Str.{bytes_eq}
use Rattle.pcc_words.specs.Commands.{word_view}
use Rattle.pcc_words.specs.Invocations.{PolicyWord, named, from_file, policy_word, Invocation, asm, command_of}
use Rattle.auto_cli.specs.declared.arguments.AutoArgs.{AutoArgs as AutoGiven}
use Rattle.auto_cli.specs.declared.arguments.TheConstants.{FILE_POLICY_VERSION, UNFLAGGED_VERSION}

-- POLICY IN OUT [--v2] [--bound N]
pub record AutoArgs : Type 0 where
  pub policy : PolicyWord
  pub input : List ℕ
  pub output : List ℕ
  -- of the container that a source is assembled into, and its bound if it has one
  pub version : ℕ
  pub bound : Option ℕ
  -- whether a flag is given
  pub flagged : Bool

-- the arguments without where their values lie in memory
abbrev pub auto_args_view : AutoGiven → AutoArgs
auto_args_view a = record {
  policy = word_view a.policy;
  input = a.input.now;
  output = a.output.now;
  version = a.version;
  bound = a.bound;
  flagged = a.flagged;
}

-- what arguments ask for
pub data AutoInvocation : Type 0 where
  find : AutoArgs → AutoInvocation
  help : AutoInvocation
  version : AutoInvocation

-- a policy from a file implies `--v2`
abbrev pub version_for : PolicyWord → ℕ → ℕ
version_for (named name) v = v
version_for (from_file name) v = max v FILE_POLICY_VERSION

-- the arguments with which `asm` would make a container of this version and bound
abbrev pub auto_args : PolicyWord → List ℕ → List ℕ → ℕ → Option ℕ → AutoArgs
auto_args policy input output v bound = record {
  policy = policy;
  input = input;
  output = output;
  version = version_for policy v;
  bound = bound;
  flagged = not (v == UNFLAGGED_VERSION);
}

-- the arguments, if `asm` has them
abbrev pub found_by_asm : Option Invocation → Option AutoArgs
found_by_asm (Some (asm policy input output v bound)) =
    Some (auto_args (policy_word policy) input output v bound)
found_by_asm other = None

-- the word is all that the arguments are
abbrev pub is_only : List ℕ → List (List ℕ) → Bool
is_only word [] = false
is_only word (first ∷ []) = bytes_eq first word
is_only word (first ∷ second ∷ rest) = false

-- the arguments ask for help
abbrev pub wants_help : List (List ℕ) → Bool
wants_help args =
    is_only (codes "--help") args || (is_only (codes "-h") args || is_only (codes "help") args)

-- what the arguments ask for, if they are a command: `pcc` takes them behind `asm`
abbrev pub auto_command_of : List (List ℕ) → Option AutoInvocation
auto_command_of args =
    if wants_help args then Some help else
    if is_only (codes "--version") args then Some version else
    option_map find (found_by_asm (command_of (codes "asm" ∷ args)))
