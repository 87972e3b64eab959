use Rattle.std.proofs.Common.{◌≡◌, ℕ, true, false, List, ◌∷◌, map, string_bytes, codes, sym, ap, ◌∙◌, subst}
use Rattle.pcc_words.specs.Invocations.{command_of}
use Rattle.auto_cli.specs.Arguments.{found_by_asm, is_only, wants_help}
use Rattle.auto_cli.specs.Inside.Finds.{FindsIfTold}
use Rattle.auto_cli.proofs.Running.{told_is, runs_help, runs_version, runs_nothing, runs_told}
use Rattle.auto_cli.proofs.top_call.run.Goals as goal

pub returns-then-wants_help : goal.returns-then-wants_help
returns-then-wants_help g c =
    let words : List (List ℕ) = map string_bytes c.args.words.items in
    let asks : wants_help words ≡ true =
    sym (ap (λ l. wants_help (map string_bytes l)) c.as_slice.ensures.value)
    ∙ sym c.wants_help.ensures ∙ c.if-wants_help.true in
    record { runs = runs_help words _ _ _ _ c.print.result asks c.print.ensures }

pub returns-then-is_only : goal.returns-then-is_only
returns-then-is_only g c =
    let words : List (List ℕ) = map string_bytes c.args.words.items in
    let asks : wants_help words ≡ false =
    sym (ap (λ l. wants_help (map string_bytes l)) c.as_slice.ensures.value)
    ∙ sym c.wants_help.ensures ∙ c.if-wants_help.false in
    let only : is_only (codes "--version") words ≡ true =
    sym (ap (λ l. is_only (codes "--version") (map string_bytes l)) c.as_slice-2.ensures.value)
    ∙ sym c.is_only.ensures ∙ c.if-is_only.true in
    record {
      runs =
          runs_version words _ _ _ _ c.print-then-is_only.result asks only
          c.print-then-is_only.ensures;
    }

pub returns-in-Err : goal.returns-in-Err
returns-in-Err g c =
    let words : List (List ℕ) = map string_bytes c.args.words.items in
    record { runs = runs_nothing words _ _ _ _ c.print-in-Err.result c.print-in-Err.ensures }

pub returns : goal.returns
returns g c =
    let words : List (List ℕ) = map string_bytes c.args.words.items in
    let asks : wants_help words ≡ false =
    sym (ap (λ l. wants_help (map string_bytes l)) c.as_slice.ensures.value)
    ∙ sym c.wants_help.ensures ∙ c.if-wants_help.false in
    let only : is_only (codes "--version") words ≡ false =
    sym (ap (λ l. is_only (codes "--version") (map string_bytes l)) c.as_slice-2.ensures.value)
    ∙ sym c.is_only.ensures ∙ c.if-is_only.false in
    let behind : map string_bytes c.as_slice-3.result.now ≡ codes "asm" ∷ words =
    ap (map string_bytes) c.as_slice-3.ensures.value ∙ c.in-Ok.ensures in
    let found : FindsIfTold (found_by_asm (command_of (codes "asm" ∷ words)))
    (g.F.Files.log c.args.files.now) (g.F.Files.log c.decide-decision.new.files)
    (g.F.Files.state c.args.files.now) (g.F.Files.state c.decide-decision.new.files)
    c.decide-decision.result =
    subst
    (λ (l : List (List ℕ)). FindsIfTold (found_by_asm (command_of l))
    (g.F.Files.log c.args.files.now) (g.F.Files.log c.decide-decision.new.files)
    (g.F.Files.state c.args.files.now) (g.F.Files.state c.decide-decision.new.files)
    c.decide-decision.result)
    behind c.decide-decision.ensures in
    record {
      runs =
          runs_told words _ _ _ _ _ _ c.print-2.result
          (found_by_asm (command_of (codes "asm" ∷ words))) c.decide-decision.result
          (told_is words asks only) found c.print-2.ensures;
    }
