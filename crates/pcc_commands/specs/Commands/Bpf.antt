-- `bpf IN OUT`
use Rattle.std.specs.Prelude.{ℕ, List}
use Rattle.pcc_stages.specs.Stage.{Stage, ◌>>=◌}
use Rattle.pcc_stages.specs.Runs.{Effect}
use Rattle.pcc_commands.specs.Stages.Writing.{writing}
use Rattle.pcc_commands.specs.Stages.Compiling.{compiled_of}

-- the program with all that may be wrong with it, and then the write
unfoldable pub bpf_command : List ℕ → List ℕ → Stage Effect
bpf_command input output = do
  container ← compiled_of input
  writing output container
