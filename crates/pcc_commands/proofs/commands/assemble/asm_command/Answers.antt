use Rattle.std.proofs.Common.{ℕ, List, Vec, Global, subst}
use Rattle.pcc_stages.specs.Stage.{◌>>=◌}
use Rattle.pcc_stages.specs.Stages.Common.{policy_named}
use Rattle.pcc_stages.proofs.StageLemmas.{stops_first}
use Rattle.pcc_stages.proofs.DecisionLemmas.{no_policy, under_policy}
use Rattle.pcc_commands.specs.Stages.Writing.{writing}
use Rattle.pcc_commands.specs.Stages.Assembling.{assembled_of}
use Rattle.pcc_commands.specs.Commands.Assemble.{asm_command}
use Rattle.pcc_commands.specs.Reports.{effect_of}
use Rattle.pcc_commands.specs.Inside.Writes.{Wrote}
use Rattle.pcc_commands.proofs.DecisionLemmas.{decides_report, decides_copy}
use Rattle.pcc_commands.proofs.commands.assemble.asm_command.Goals as goal

pub returns-in_err-policy : goal.returns-in_err-policy
unfolding asm_command
returns-in_err-policy g c =
    let a = c.args.args in
    no_policy (policy_named a.policy.now) (λ under. assembled_of a.version a.bound under a.input.now >>= λ container. writing a.output.now container) _ _ c.in_err-policy.field-0.0 c.from_residual.result c.in_err-policy.ensures
    c.from_residual.ensures.1

pub returns-in_err-container : goal.returns-in_err-container
unfolding asm_command
returns-in_err-container g c =
    let a = c.args.args in
    let under = c.in_ok-policy.policy in
    under_policy (policy_named a.policy.now)
    (λ under. assembled_of a.version a.bound under a.input.now >>= λ container. writing a.output.now container)
    under _ _ _ _ _ c.in_ok-policy.ensures
    (decides_report (assembled_of a.version a.bound under a.input.now >>= λ container. writing a.output.now container)
    _ _ _ _ c.from_residual-in_err-container.result
    (stops_first (λ container. writing a.output.now container) (λ (v : Vec ℕ Global). v.items)
    effect_of (assembled_of a.version a.bound under a.input.now) _ _ _ _ c.in_err-container.field-0.0
    c.from_residual-in_err-container.result
    c.in_err-container.ensures c.from_residual-in_err-container.ensures.1))

pub returns : goal.returns
unfolding asm_command
returns g c =
    let a = c.args.args in
    let under = c.in_ok-policy.policy in
    under_policy (policy_named a.policy.now)
    (λ under. assembled_of a.version a.bound under a.input.now >>= λ container. writing a.output.now container)
    under _ _ _ _ _ c.in_ok-policy.ensures
    (decides_copy (λ (v : Vec ℕ Global). v.items) (assembled_of a.version a.bound under a.input.now) a.output.now _ _
    _ _ _ _ c.in_ok-container.container c.write_to.result c.in_ok-container.ensures
    (subst (λ (bytes : List ℕ). Wrote a.output.now bytes (g.F.Files.log c.assembled_of.new.files) (g.F.Files.log c.write_to.new.files) (g.F.Files.state c.assembled_of.new.files) (g.F.Files.state c.write_to.new.files) c.write_to.result) c.deref.ensures.value c.write_to.ensures))
