use Rattle.std.proofs.Common.{ℕ, List, Vec, Global, subst}
use Rattle.pcc_stages.specs.Stage.{gives}
use Rattle.pcc_stages.specs.Answers.{GivesPure}
use Rattle.pcc_stages.proofs.StageLemmas.{lifted, stops_first, gives_then}
use Rattle.view_cli.specs.Commands.Faults.{text_of, formula_exit, formula_command}
use Rattle.view_cli.specs.Reports.{exit_of_report}
use Rattle.view_cli.proofs.commands.faults.formula_command.Goals as goal

pub returns-in_err-text : goal.returns-in_err-text
unfolding formula_command
returns-in_err-text g c =
    let a = c.args.args in
    stops_first (λ text. gives (formula_exit a.profile a.left text)) (λ (v : Vec ℕ Global). v.items)
    exit_of_report (text_of a.file.now) _ _ _ _ c.in_err-text.field-0.0 c.from_residual.result
    c.in_err-text.ensures.exact c.from_residual.ensures.1

pub returns : goal.returns
unfolding formula_command
returns g c =
    let a = c.args.args in
    let text = c.in_ok-text.text.items in
    gives_then (λ text. gives (formula_exit a.profile a.left text)) (λ (v : Vec ℕ Global). v.items)
    exit_of_report (text_of a.file.now) _ _ _ _ _ _ c.in_ok-text.text c.formula_told.result
    c.in_ok-text.ensures.exact
    (lifted exit_of_report (gives (formula_exit a.profile a.left text)) _ _ c.formula_told.result
    (subst
    (λ (b : List ℕ). GivesPure exit_of_report (gives (formula_exit a.profile a.left b))
    c.formula_told.result) c.deref.ensures.value c.formula_told.ensures))
