-- `asm POLICY IN OUT [--v2] [--bound N]`
use Rattle.std.specs.Prelude.{ℕ, List, Option}
use Rattle.pcc_stages.specs.Stage.{Stage, ◌>>=◌}
use Rattle.pcc_stages.specs.Runs.{Effect}
use Rattle.pcc_stages.specs.Stages.Common.{policy_named}
use Rattle.pcc_commands.specs.Stages.Writing.{writing}
use Rattle.pcc_commands.specs.Stages.Assembling.{assembled_of}

-- the policy, the source with all that may be wrong with it, and then the write, of a container of
-- the version and the bound
unfoldable pub asm_command : ℕ → Option ℕ → List ℕ → List ℕ → List ℕ → Stage Effect
asm_command version bound policy input output = do
  under ← policy_named policy
  container ← assembled_of version bound under input
  writing output container
