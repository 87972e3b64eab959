use Rattle.std.proofs.Common.{ℕ, List}
use Rattle.alpha_words.specs.declared.insn.Insn.{Insn}
use Rattle.policy_set.specs.Views.{PolicyView}
use Rattle.pcc_stages.specs.Stage.{Stage, ◌>>=◌}
use Rattle.pcc_stages.specs.Runs.{Effect}
use Rattle.pcc_stages.specs.Stages.Common.{policy_named}
use Rattle.pcc_stages.specs.Stages.Containers.{code_of}
use Rattle.pcc_stages.proofs.StageLemmas.{stops_first, gives_then}
use Rattle.pcc_stages.proofs.DecisionLemmas.{no_policy, under_policy}
use Rattle.pcc_commands.specs.Commands.Reference.{ref_command}
use Rattle.pcc_commands.specs.Reports.{effect_of}
use Rattle.pcc_commands.specs.Inside.Behind.{results_on}
use Rattle.pcc_commands.proofs.DecisionLemmas.{decides_report}
use Rattle.pcc_commands.proofs.commands.reference.ref_command.Goals as goal

module _ (file packets : List ℕ) (steps : ℕ) where
  -- the stages behind the policy
  abbrev behind : PolicyView → Stage Effect
  behind under = code_of under file >>= results_on packets steps under

pub returns-in_err-policy : goal.returns-in_err-policy
unfolding ref_command
returns-in_err-policy g c =
    let a = c.args.args in
    no_policy (policy_named a.policy.now) (behind a.file.now a.packets.now a.steps) _ _ c.in_err-policy.field-0.0 c.from_residual.result c.in_err-policy.ensures c.from_residual.ensures.1

pub returns-in_err-code : goal.returns-in_err-code
unfolding ref_command
returns-in_err-code g c =
    let a = c.args.args in
    let under = c.in_ok-policy.policy in
    under_policy (policy_named a.policy.now) (behind a.file.now a.packets.now a.steps) under _ _ _ _
    _ c.in_ok-policy.ensures
    (decides_report (behind a.file.now a.packets.now a.steps under) _ _ _ _
    c.from_residual-in_err-code.result
    (stops_first (results_on a.packets.now a.steps under) (λ (code : List Insn). code)
    effect_of (code_of under a.file.now)
    _ _ _ _ c.in_err-code.field-0.0 c.from_residual-in_err-code.result c.in_err-code.ensures c.from_residual-in_err-code.ensures.1))

pub returns : goal.returns
unfolding ref_command
returns g c =
    let a = c.args.args in
    let under = c.in_ok-policy.policy in
    under_policy (policy_named a.policy.now) (behind a.file.now a.packets.now a.steps) under _ _ _ _
    _ c.in_ok-policy.ensures
    (decides_report (behind a.file.now a.packets.now a.steps under) _ _ _ _ c.results_of.result
    (gives_then (results_on a.packets.now a.steps under) (λ (code : List Insn). code)
    effect_of (code_of under a.file.now)
    _ _ _ _ _ _ c.in_ok-code.code c.results_of.result c.in_ok-code.ensures c.results_of.ensures))
