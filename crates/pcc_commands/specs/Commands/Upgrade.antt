-- `upgrade IN OUT`
use Rattle.std.specs.Prelude.{ℕ, List}
use Rattle.pcc_stages.specs.Stage.{Stage, ◌>>=◌}
use Rattle.pcc_stages.specs.Runs.{Effect}
use Rattle.pcc_commands.specs.Stages.Writing.{writing}
use Rattle.pcc_commands.specs.Stages.Upgrading.{upgraded_of}

-- the container with all that may keep it from being upgraded, and then the write
unfoldable pub upgrade_command : List ℕ → List ℕ → Stage Effect
upgrade_command input output = do
  container ← upgraded_of input
  writing output container
