-- What the matches of `clap` give is what the definitions say of the words.
use Rattle.std.proofs.Common.{◌≡◌, ◌∙◌, refl, sym, ap, subst, List, [], ◌∷◌, Option, None, option_and_then}
use Rattle.clap.specs.Words.{App, HasMatchesOf, IsAmong, Kinds, Row, Text, fault_of, subcommand_of, subcommand_rows_of}
use Rattle.clap.specs.declared.ArgMatches.{ArgMatches}
use Rattle.clap.specs.declared.error.ErrorKind.{ErrorKind}
use Rattle.view_cli.specs.Invocations.{view_command_at, parsed_command_of, view_invocation_of_subcommand, view_app}

-- a parse that succeeds gives the command that the words are
pub parsed_ok : (app : App) (words : List Text) (m : ArgMatches) → app ≡ view_app
    → fault_of app words ≡ [] → HasMatchesOf app words m
    → option_and_then view_invocation_of_subcommand (subcommand_rows_of m) ≡ parsed_command_of words
unfolding parsed_command_of
parsed_ok app words m is none found =
    let none_here : fault_of view_app words ≡ [] = subst (λ (a : App). fault_of a words ≡ []) is none in
    let found_here : HasMatchesOf view_app words m = subst (λ (a : App). HasMatchesOf a words m) is found in
    ap (option_and_then view_invocation_of_subcommand) (found_here refl).1
    ∙ ap (λ k. view_command_at k (subcommand_of view_app words)) (sym none_here)

no_command : (k : ErrorKind) (kinds : Kinds) (found : Option (Text × List Row)) → IsAmong k kinds
    → None ≡ view_command_at kinds found
no_command k [] found h = absurd h
no_command k (j ∷ kinds) found h = refl

-- where the words have a fault they are no command
pub parsed_err : (app : App) (words : List Text) (k : ErrorKind) → app ≡ view_app
    → IsAmong k (fault_of app words) → None ≡ parsed_command_of words
unfolding parsed_command_of
parsed_err app words k is among =
    no_command k (fault_of view_app words) (subcommand_of view_app words)
    (subst (λ (a : App). IsAmong k (fault_of a words)) is among)
