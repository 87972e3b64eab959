-- `prove POLICY IN OUT`
use Rattle.std.specs.Prelude.{ℕ, List}
use Rattle.pcc_stages.specs.Stage.{Stage, ◌>>=◌}
use Rattle.pcc_stages.specs.Runs.{Effect}
use Rattle.pcc_stages.specs.Stages.Common.{policy_named}
use Rattle.pcc_commands.specs.Stages.Writing.{writing}
use Rattle.pcc_commands.specs.Stages.Proving.{proved_of}

-- the policy, the container with all that may be wrong with it, the proof, and then the write
unfoldable pub prove_command : List ℕ → List ℕ → List ℕ → Stage Effect
prove_command policy input output = do
  under ← policy_named policy
  container ← proved_of under input
  writing output container
