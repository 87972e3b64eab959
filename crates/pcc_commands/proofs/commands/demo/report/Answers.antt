use Rattle.std.proofs.Common.{ap}
use Rattle.pcc_lines.specs.Demo.{demo_lines}
use Rattle.pcc_stages.specs.Stage.{◌>>=◌}
use Rattle.pcc_stages.specs.Stages.Common.{printing}
use Rattle.pcc_stages.proofs.StageLemmas.{pure_stops}
use Rattle.pcc_commands.specs.Commands.Demo.{demo_told, demo_effect}
use Rattle.pcc_commands.proofs.commands.demo.report.Goals as goal

pub returns-in-Ok : goal.returns-in-Ok
unfolding demo_effect
returns-in-Ok c = ap (λ s. s >>= λ told. printing (demo_lines told)) c.in-Ok.ensures

pub returns-in-Err : goal.returns-in-Err
unfolding demo_effect
returns-in-Err c = pure_stops (λ told. printing (demo_lines told)) (demo_told c.args.policy.now c.args.n) c.in-Err.stop c.in-Err.ensures
