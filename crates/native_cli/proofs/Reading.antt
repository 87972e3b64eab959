-- What the matches of `clap` give is what the definitions say of the words.
use Rattle.std.proofs.Common.{◌≡◌, refl, ap, subst, sym, ◌∙◌, List, [], ◌∷◌, None}
use Rattle.clap.specs.Words.{App, HasMatchesOf, IsAmong, Kinds, Row, Text, fault_of, found_of, matches_of, rows_of}
use Rattle.clap.specs.declared.ArgMatches.{ArgMatches}
use Rattle.clap.specs.declared.error.ErrorKind.{ErrorKind}
use Rattle.native_cli.specs.Invocations.{args_at, args_if_parsed, parsed_args_of, native_app}

-- a parse that succeeds gives the arguments that the words are
pub args-parsed : (app : App) (words : List Text) (m : ArgMatches) → app ≡ native_app → fault_of app words ≡ [] → HasMatchesOf app words m
    → args_at (rows_of (found_of m)) ≡ parsed_args_of words
unfolding parsed_args_of
args-parsed app words m is none found =
    let none_here : fault_of native_app words ≡ [] = subst (λ (a : App). fault_of a words ≡ []) is none in
    let found_here : HasMatchesOf native_app words m = subst (λ (a : App). HasMatchesOf a words m) is found in
    ap args_at (found_here refl).0 ∙ ap (λ k. args_if_parsed k (matches_of native_app words)) (sym none_here)

no-args : (k : ErrorKind) (kinds : Kinds) (rows : List Row) → IsAmong k kinds → None ≡ args_if_parsed kinds rows
no-args k [] rows h = absurd h
no-args k (j ∷ kinds) rows h = refl

-- where the words have a fault they are none
pub args-not-parsed : (app : App) (words : List Text) (k : ErrorKind) → app ≡ native_app → IsAmong k (fault_of app words) → None ≡ parsed_args_of words
unfolding parsed_args_of
args-not-parsed app words k is among =
    no-args k (fault_of native_app words) (matches_of native_app words) (subst (λ (a : App). IsAmong k (fault_of a words)) is among)
