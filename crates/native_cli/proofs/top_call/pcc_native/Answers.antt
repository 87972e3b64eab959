use Rattle.std.proofs.Common.{◌≡◌, ℕ, true, false, List, map, string_bytes, codes, sym, ap, ◌∙◌, subst}
use Rattle.native_cli.specs.Invocations.{parsed_args_of, is_sole, asks_native_help}
use Rattle.native_cli.specs.Inside.Making.{MakesIfTold}
use Rattle.native_cli.proofs.Running.{run-help, run-version, run-told, told-is}
use Rattle.native_cli.proofs.Written.{PolicyLaws, writes}
use Rattle.native_cli.proofs.top_call.pcc_native.Goals as goal

pub returns-then-asks_native_help : goal.returns-then-asks_native_help
returns-then-asks_native_help g c =
    let asks : asks_native_help (map string_bytes c.args.words.items) ≡ true =
    sym (ap (λ l. asks_native_help (map string_bytes l)) c.as_slice.ensures.value) ∙ sym c.asks_native_help.ensures ∙ c.if-asks_native_help.true in
    let laws : PolicyLaws =
    record { built = c.laws-2.ensures.built_in; spelled = c.laws-2.ensures.spelled; kept = c.laws-2.ensures.kept } in
    let run = run-help (map string_bytes c.args.words.items) c.laws.ensures.accepted _ _ _ _ c.print.result asks c.print.ensures in
    record { runs = run; writes = writes laws c.laws.ensures.accepted (map string_bytes c.args.words.items) _ _ _ _ _ _ c.print.result run }

pub returns-then-is_sole : goal.returns-then-is_sole
returns-then-is_sole g c =
    let asks : asks_native_help (map string_bytes c.args.words.items) ≡ false =
    sym (ap (λ l. asks_native_help (map string_bytes l)) c.as_slice.ensures.value) ∙ sym c.asks_native_help.ensures ∙ c.if-asks_native_help.false in
    let sole : is_sole (codes "--version") (map string_bytes c.args.words.items) ≡ true =
    sym (ap (λ l. is_sole (codes "--version") (map string_bytes l)) c.as_slice-2.ensures.value) ∙ sym c.is_sole.ensures ∙ c.if-is_sole.true in
    let laws : PolicyLaws =
    record { built = c.laws-2.ensures.built_in; spelled = c.laws-2.ensures.spelled; kept = c.laws-2.ensures.kept } in
    let run =
    run-version (map string_bytes c.args.words.items) c.laws.ensures.accepted _ _ _ _ c.print-then-is_sole.result asks sole
    c.print-then-is_sole.ensures in
    record {
      runs = run;
      writes = writes laws c.laws.ensures.accepted (map string_bytes c.args.words.items) _ _ _ _ _ _ c.print-then-is_sole.result run;
    }

pub returns : goal.returns
returns g c =
    let words : List (List ℕ) = map string_bytes c.args.words.items in
    let asks : asks_native_help words ≡ false =
    sym (ap (λ l. asks_native_help (map string_bytes l)) c.as_slice.ensures.value) ∙ sym c.asks_native_help.ensures ∙ c.if-asks_native_help.false in
    let sole : is_sole (codes "--version") words ≡ false =
    sym (ap (λ l. is_sole (codes "--version") (map string_bytes l)) c.as_slice-2.ensures.value) ∙ sym c.is_sole.ensures ∙ c.if-is_sole.false in
    let made : MakesIfTold (parsed_args_of words) (g.F.Files.log c.args.files.now) (g.F.Files.log c.decide-decision.new.files)
    (g.F.Files.state c.args.files.now) (g.F.Files.state c.decide-decision.new.files) c.decide-decision.result =
    subst
    (λ l. MakesIfTold (parsed_args_of (map string_bytes l)) (g.F.Files.log c.args.files.now) (g.F.Files.log c.decide-decision.new.files)
    (g.F.Files.state c.args.files.now) (g.F.Files.state c.decide-decision.new.files) c.decide-decision.result)
    c.as_slice-3.ensures.value c.decide-decision.ensures in
    let laws : PolicyLaws =
    record { built = c.laws-2.ensures.built_in; spelled = c.laws-2.ensures.spelled; kept = c.laws-2.ensures.kept } in
    let run =
    run-told words _ _ _ _ _ _ c.print-2.result c.laws.ensures.accepted (parsed_args_of words) c.decide-decision.result (told-is words asks sole)
    made c.print-2.ensures in
    record { runs = run; writes = writes laws c.laws.ensures.accepted words _ _ _ _ _ _ c.print-2.result run }
