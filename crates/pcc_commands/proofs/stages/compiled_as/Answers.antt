use Rattle.std.proofs.Common.{ap}
use Rattle.pcc_commands.specs.Stages.Proving.{container_proved}
use Rattle.pcc_commands.specs.Stages.Compiling.{compiled_as}
use Rattle.pcc_commands.proofs.stages.compiled_as.Goals as goal

pub returns-in-Ok : goal.returns-in-Ok
unfolding compiled_as
returns-in-Ok c = ap container_proved c.in-Ok.ensures.made
