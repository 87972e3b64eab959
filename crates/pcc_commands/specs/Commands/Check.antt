-- `check POLICY FILE`, `check @NAME FILE`
use Rattle.std.specs.Prelude.{ℕ, List}
use Rattle.pcc_words.specs.Invocations.{PolicyWord}
use Rattle.pcc_lines.specs.Fixed.{accepted_line}
use Rattle.pcc_stages.specs.Stage.{Stage, ◌>>=◌}
use Rattle.pcc_stages.specs.Runs.{Effect}
use Rattle.pcc_stages.specs.Stages.Common.{printing}
use Rattle.pcc_stages.specs.Stages.Policies.{policy_told}
use Rattle.pcc_commands.specs.Stages.Judging.{accepted_of}

-- the policy, with all that may be wrong with its file where the word tells one, and the container
-- with all that may be wrong with it
unfoldable pub check_command : PolicyWord → List ℕ → Stage Effect
check_command word file = do
  under ← policy_told word
  accepted ← accepted_of under file
  printing accepted_line
