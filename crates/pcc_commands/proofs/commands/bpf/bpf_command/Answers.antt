use Rattle.std.proofs.Common.{ℕ, List, Vec, Global, subst}
use Rattle.pcc_stages.specs.Stage.{◌>>=◌}
use Rattle.pcc_stages.proofs.StageLemmas.{stops_first}
use Rattle.pcc_commands.specs.Stages.Writing.{writing}
use Rattle.pcc_commands.specs.Stages.Compiling.{compiled_of}
use Rattle.pcc_commands.specs.Commands.Bpf.{bpf_command}
use Rattle.pcc_commands.specs.Reports.{effect_of}
use Rattle.pcc_commands.specs.Inside.Writes.{Wrote}
use Rattle.pcc_commands.proofs.DecisionLemmas.{decides_report, decides_copy}
use Rattle.pcc_commands.proofs.commands.bpf.bpf_command.Goals as goal

pub returns-in_err-container : goal.returns-in_err-container
unfolding bpf_command
returns-in_err-container g c =
    let a = c.args.args in
    decides_report (compiled_of a.input.now >>= λ container. writing a.output.now container) _ _ _ _ c.from_residual.result
    (stops_first (λ container. writing a.output.now container) (λ (v : Vec ℕ Global). v.items) effect_of (compiled_of a.input.now) _ _ _ _ c.in_err-container.field-0.0 c.from_residual.result
    c.in_err-container.ensures c.from_residual.ensures.1)

pub returns : goal.returns
unfolding bpf_command
returns g c =
    let a = c.args.args in
    decides_copy (λ (v : Vec ℕ Global). v.items) (compiled_of a.input.now) a.output.now _ _ _ _ _ _ c.in_ok-container.container c.write_to.result c.in_ok-container.ensures
    (subst (λ (bytes : List ℕ). Wrote a.output.now bytes (g.F.Files.log c.compiled_of.new.files) (g.F.Files.log c.write_to.new.files) (g.F.Files.state c.compiled_of.new.files) (g.F.Files.state c.write_to.new.files) c.write_to.result) c.deref.ensures.value c.write_to.ensures)
