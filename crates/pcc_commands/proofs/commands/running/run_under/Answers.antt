use Rattle.std.proofs.Common.{◌≡◌, ℕ, List, Result, subst}
use Rattle.alpha_words.specs.declared.insn.Insn.{Insn}
use Rattle.file_port.specs.Events.{Event}
use Rattle.file_port.specs.Files.{FilesState}
use Rattle.pcc_gate.specs.Views.{AcceptedView}
use Rattle.policy_set.specs.Views.{PolicyView}
use Rattle.pcc_stages.specs.declared.stops.Stop.{Stop}
use Rattle.pcc_stages.specs.Answers.{Gives}
use Rattle.pcc_stages.proofs.StageLemmas.{stops_first, gives_then}
use Rattle.pcc_commands.specs.declared.report.Report.{Report}
use Rattle.pcc_commands.specs.Stages.Judging.{accepted_code_of}
use Rattle.pcc_commands.specs.Inside.Behind.{results_on}
use Rattle.pcc_commands.specs.Reports.{effect_of}
use Rattle.pcc_commands.proofs.commands.running.run_under.Goals as goal

pub returns-in_err-accepted : goal.returns-in_err-accepted
returns-in_err-accepted g c =
    let a = c.args.args in
    stops_first (results_on a.packets.now a.steps c.args.policy.now) (λ (a : AcceptedView). a.code) effect_of (accepted_code_of c.args.policy.now a.file.now) _ _ _ _ c.in_err-accepted.field-0.0 c.from_residual.result c.in_err-accepted.ensures.code
    c.from_residual.ensures.1

-- what was accepted has the policy that it was judged under
at_policy : (packets : List ℕ) (steps : ℕ) (code : List Insn) (p q : PolicyView) (e e' : List Event)
    (f g : FilesState) (r : Result Report Stop) → p ≡ q
    → Gives effect_of (results_on packets steps p code) e e' f g r
    → Gives effect_of (results_on packets steps q code) e e' f g r
at_policy packets steps code p q e e' f g r is h = subst (λ k. Gives effect_of (results_on packets steps k code) e e' f g r) is h

pub returns : goal.returns
returns g c =
    let a = c.args.args in
    let accepted = c.in_ok-accepted.accepted in
    gives_then (results_on a.packets.now a.steps c.args.policy.now) (λ (a : AcceptedView). a.code) effect_of (accepted_code_of c.args.policy.now a.file.now) _ _ _ _ _ _ accepted _ c.in_ok-accepted.ensures.code
    (at_policy a.packets.now a.steps accepted.code accepted.policy c.args.policy.now _ _ _ _ _ c.in_ok-accepted.ensures.policy c.results_of.ensures)
