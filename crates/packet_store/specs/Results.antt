-- What the run of code on a packet comes to.
use Rattle.std.specs.Prelude.{ℕ, ◌%◌, ◌^◌, List, Option, Some, None}
use Rattle.alpha_words.specs.declared.insn.Insn.{Insn}
use Rattle.alpha_cfg.specs.Machine.{run_of}
use Rattle.policy_set.specs.Views.{PolicyView}
use Rattle.reference_machine.specs.declared.layout.TheConstants.{ARENA}
use Rattle.reference_machine.specs.Arena.{sum_of}
use Rattle.reference_machine.specs.Starts.{StartView, start_state}
use Rattle.packet_store.specs.declared.results.PacketResult.{PacketResult}
use Rattle.packet_store.specs.declared.results.PacketResult.TheVariants.{Short, Ran}
use Rattle.packet_store.specs.PolicyStarts.{start_of}

-- the run of the code with a budget of steps, from a start, where there is one
unfoldable pub result_from : List Insn → ℕ → Option StartView → PacketResult
result_from code budget None = Short
result_from code budget (Some setup) =
    let end = run_of code budget (start_state ARENA setup) in
    Ran end.0 (sum_of end.1.memory setup.at setup.region % 2 ^ 64)

-- the run from the policy's start on a packet
abbrev pub packet_result : PolicyView → List Insn → ℕ → List ℕ → PacketResult
packet_result policy code budget packet = result_from code budget (start_of policy packet)
