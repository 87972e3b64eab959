-- `run POLICY FILE PACKETS [--steps N]`
use Rattle.std.specs.Prelude.{ℕ, List}
use Rattle.packet_store.specs.Results.{packet_result}
use Rattle.pcc_lines.specs.Results.{result_lines}
use Rattle.pcc_stages.specs.Stage.{Stage, ◌>>=◌}
use Rattle.pcc_stages.specs.Runs.{Effect}
use Rattle.pcc_stages.specs.Stages.Common.{policy_named, printing}
use Rattle.pcc_stages.specs.Stages.Packets.{packets_of}
use Rattle.pcc_commands.specs.Stages.Judging.{accepted_code_of}

-- the policy, the container with all that may be wrong with it, the packet file and its faults, and then what the machine that
-- tests every access makes of the packets in order
unfoldable pub run_command : List ℕ → List ℕ → List ℕ → ℕ → Stage Effect
run_command policy file packets steps = do
  under ← policy_named policy
  code ← accepted_code_of under file
  all ← packets_of packets
  printing (result_lines under.kind (packet_result under code steps) 0 all)
