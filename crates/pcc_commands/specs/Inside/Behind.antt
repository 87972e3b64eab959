-- What commands do behind their policy: stages of private functions.
use Rattle.std.specs.Prelude.{ℕ, List}
use Rattle.alpha_words.specs.declared.insn.Insn.{Insn}
use Rattle.policy_set.specs.Views.{PolicyView}
use Rattle.packet_store.specs.Results.{packet_result}
use Rattle.agent_script.specs.Statements.{LoadView}
use Rattle.pcc_lines.specs.Fixed.{accepted_line}
use Rattle.pcc_lines.specs.Results.{result_lines}
use Rattle.pcc_stages.specs.Stage.{Stage, gives, ◌>>=◌}
use Rattle.pcc_stages.specs.Runs.{Effect}
use Rattle.pcc_stages.specs.Stages.Common.{printing}
use Rattle.pcc_stages.specs.Stages.Packets.{packets_of}
use Rattle.pcc_commands.specs.Stages.Judging.{accepted_of, accepted_code_of}
use Rattle.pcc_commands.specs.Stages.Hosting.{Member, packet_of, for_agent}

-- the packet file and its faults, and what comes of code on the packets in order
abbrev pub results_on : List ℕ → ℕ → PolicyView → List Insn → Stage Effect
results_on packets steps under code =
    packets_of packets >>= λ all. printing
    (result_lines under.kind (packet_result under code steps) 0 all)

-- the container with all that may be wrong with it, and then the packets
abbrev pub run_under : List ℕ → List ℕ → ℕ → PolicyView → Stage Effect
run_under file packets steps under = accepted_code_of under file >>= results_on packets steps under

-- the container with all that may be wrong with it
abbrev pub check_under : List ℕ → PolicyView → Stage Effect
check_under file under = accepted_of under file >>= λ accepted. printing accepted_line

-- an agent of code with a packet
abbrev pub member_on_packet : PolicyView → List Insn → List ℕ → Member
member_on_packet policy code packet = record { policy = policy; code = code; packet = packet }

-- what a load goes on with behind its code
abbrev pub load_behind : ℕ → LoadView → PolicyView → List Insn → Stage Member
load_behind a one policy code = for_agent a (packet_of a policy one.packets) >>= λ packet. gives (member_on_packet policy code packet)

-- and behind its policy
abbrev pub load_under : ℕ → LoadView → PolicyView → Stage Member
load_under a one policy = for_agent a (accepted_code_of policy one.file) >>= load_behind a one policy
