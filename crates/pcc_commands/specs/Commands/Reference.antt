-- `ref POLICY FILE PACKETS [--steps N]`
use Rattle.std.specs.Prelude.{ℕ, List}
use Rattle.packet_store.specs.Results.{packet_result}
use Rattle.pcc_lines.specs.Results.{result_lines}
use Rattle.pcc_stages.specs.Stage.{Stage, ◌>>=◌}
use Rattle.pcc_stages.specs.Runs.{Effect}
use Rattle.pcc_stages.specs.Stages.Common.{policy_named, printing}
use Rattle.pcc_stages.specs.Stages.Containers.{code_of}
use Rattle.pcc_stages.specs.Stages.Packets.{packets_of}

-- the policy, the container and its refusals, the packet file and its faults, the packets in order
unfoldable pub ref_command : List ℕ → List ℕ → List ℕ → ℕ → Stage Effect
ref_command policy file packets steps = do
  under ← policy_named policy
  code ← code_of under file
  all ← packets_of packets
  printing (result_lines under.kind (packet_result under code steps) 0 all)
