-- What the matches of `clap` give is what the definitions say of the words.
use Rattle.std.proofs.Common.{◌≡◌, ◌∙◌, ◌<◌, ◌^◌, ℕ, Bool, true, false, refl, sym, ap, subst, List, [], ◌∷◌, length, Option, Some, None, nat_lt, lt-ltb, ltb-true, option_and_then}
use Rattle.std.specs.List.{list_all}
use Rattle.std.specs.Char.{digit_value}
use Rattle.std.specs.Str.Parse.{AllDigits, IsNumeral, digits_value, without_leading_plus}
use Rattle.clap.specs.Words.{App, HasMatchesOf, IsAmong, Kinds, Row, Text, fault_of, found_of, one_of, one_text, rows_of, subcommand_of, subcommand_rows_of}
use Rattle.clap.specs.declared.ArgMatches.{ArgMatches}
use Rattle.clap.specs.declared.error.ErrorKind.{ErrorKind}
use Rattle.clap.proofs.WalkLemmas.{both, one_text-rows}
use Rattle.pcc_words.specs.Invocations.{command_at, command_of, is_number, number_of, invocation_of_subcommand, pcc_app}

digits_pass : (ds : List ℕ) → AllDigits 10 ds → list_all (λ d. nat_lt (digit_value d) 10) ds ≡ true
digits_pass [] h = refl
digits_pass (d ∷ ds) h = rw (lt-ltb (digit_value d) 10 h.0) (digits_pass ds h.1)

digits_from : (ds : List ℕ) → list_all (λ d. nat_lt (digit_value d) 10) ds ≡ true → AllDigits 10 ds
digits_from [] e = tt
digits_from (d ∷ ds) e =
    let parts = both _ _ e in
    (ltb-true _ _ parts.0, digits_from ds parts.1)

-- the digits of a text stand for a u64
abbrev Numeral : Text → Type 0
Numeral text = IsNumeral 10 (without_leading_plus text) × (digits_value 10 (without_leading_plus text) < 2 ^ 64)

number_ok : (text : Text) (n : ℕ) → Numeral text × (n ≡ digits_value 10 (without_leading_plus text))
    → Some n ≡ number_of text
number_ok text n h =
    let ds = without_leading_plus text in
    rw (lt-ltb 0 (length ds) h.0.0.0, digits_pass ds h.0.0.1, lt-ltb (digits_value 10 ds) (2 ^ 64) h.0.1)
    (ap Some h.1)

number_err : (text : Text) → (Numeral text → ⊥) → None ≡ number_of text
number_err text h = go (is_number text) refl
  where
    go : (b : Bool) → is_number text ≡ b → None ≡ number_of text
    go false t = rw t refl
    go true t =
        let outer = both _ _ t in
        let inner = both _ _ outer.0 in
        absurd (h ((ltb-true _ _ inner.0, digits_from (without_leading_plus text) inner.1), ltb-true _ _ outer.1))

pub some_number : (m : ArgMatches) (id : Text) (n : ℕ) → (one_text (found_of m) id ≡ None → Some n ≡ None) → ((t : Text) → one_text (found_of m) id ≡ Some t → Numeral t × (n ≡ digits_value 10 (without_leading_plus t))) → Some n ≡ option_and_then number_of (one_of id (rows_of (found_of m)))
some_number m id n none value = go (one_text (found_of m) id) refl
  where
    go : (o : Option Text) → one_text (found_of m) id ≡ o → Some n ≡ option_and_then number_of (one_of id (rows_of (found_of m)))
    go None e = let bad : Some n ≡ None = none e in cc
    go (Some t) e = number_ok t n (value t e) ∙ ap (λ o. option_and_then number_of o) (sym e ∙ one_text-rows (found_of m) id)

pub no_number : (m : ArgMatches) (id : Text) → ((t : Text) → one_text (found_of m) id ≡ Some t → Numeral t → ⊥) → None ≡ option_and_then number_of (one_of id (rows_of (found_of m)))
no_number m id value = go (one_text (found_of m) id) refl
  where
    go : (o : Option Text) → one_text (found_of m) id ≡ o → None ≡ option_and_then number_of (one_of id (rows_of (found_of m)))
    go None e = ap (λ o. option_and_then number_of o) (sym e ∙ one_text-rows (found_of m) id)
    go (Some t) e = number_err t (value t e) ∙ ap (λ o. option_and_then number_of o) (sym e ∙ one_text-rows (found_of m) id)

-- a parse that succeeds gives the command that the words are
pub parsed_ok : (app : App) (words : List Text) (m : ArgMatches) → app ≡ pcc_app → fault_of app words ≡ [] → HasMatchesOf app words m → option_and_then invocation_of_subcommand (subcommand_rows_of m) ≡ command_of words
unfolding command_of
parsed_ok app words m is none found =
    let none_here : fault_of pcc_app words ≡ [] = subst (λ (a : App). fault_of a words ≡ []) is none in
    let found_here : HasMatchesOf pcc_app words m = subst (λ (a : App). HasMatchesOf a words m) is found in
    ap (option_and_then invocation_of_subcommand) (found_here refl).1 ∙ ap (λ k. command_at k (subcommand_of pcc_app words)) (sym none_here)

no_command : (k : ErrorKind) (kinds : Kinds) (found : Option (Text × List Row)) → IsAmong k kinds → None ≡ command_at kinds found
no_command k [] found h = absurd h
no_command k (j ∷ kinds) found h = refl

-- where the words have a fault they are no command
pub parsed_err : (app : App) (words : List Text) (k : ErrorKind) → app ≡ pcc_app → IsAmong k (fault_of app words) → None ≡ command_of words
unfolding command_of
parsed_err app words k is among = no_command k (fault_of pcc_app words) (subcommand_of pcc_app words) (subst (λ (a : App). IsAmong k (fault_of a words)) is among)
