-- `packet POLICY FILE PACKETS K [--steps N]`
use Rattle.std.specs.Prelude.{ℕ, List, slice_get, Option, Some, None}
use Rattle.alpha_words.specs.declared.insn.Insn.{Insn}
use Rattle.policy_set.specs.Views.{PolicyView}
use Rattle.policy_set.specs.declared.kind.PolicyKind.{PolicyKind}
use Rattle.view_trace.specs.Traces.{packet_text}
use Rattle.pcc_words.specs.Invocations.{PolicyWord}
use Rattle.pcc_stages.specs.Exits.{Exit}
use Rattle.pcc_stages.specs.Runs.{done_exit}
use Rattle.pcc_stages.specs.Stage.{Stage, gives, ◌>>=◌}
use Rattle.pcc_stages.specs.Stages.Common.{refused}
use Rattle.pcc_stages.specs.Stages.Policies.{policy_told}
use Rattle.pcc_stages.specs.Stages.Containers.{code_of}
use Rattle.pcc_stages.specs.Stages.Packets.{packets_of}
use Rattle.view_cli.specs.Texts.{absent_packet_line, no_start_line}

-- the run on packet k step by step, if there is one
abbrev pub traced_exit : PolicyView → List Insn → ℕ → ℕ → Option (List ℕ) → Exit
traced_exit policy code steps k None = refused (absent_packet_line k)
traced_exit policy code steps k (Some packet) = done_exit (packet_text policy code steps k packet)

-- the exit under a policy of this kind; one from a file has none, and no start
abbrev pub where_started : Option PolicyKind → Exit → Exit
where_started None exit = refused no_start_line
where_started (Some kind) exit = exit

-- the run on packet k, where the policy has a start
abbrev pub packet_exit : PolicyView → List Insn → ℕ → ℕ → Option (List ℕ) → Exit
packet_exit policy code steps k packet =
    where_started policy.kind (traced_exit policy code steps k packet)

-- the policy, the container's code and its refusals, the packet file and its faults, whether the
-- policy has a start, and packet k
unfoldable pub packet_command : PolicyWord → List ℕ → List ℕ → ℕ → ℕ → Stage Exit
packet_command policy file packets k steps = do
  under ← policy_told policy
  code ← code_of under file
  all ← packets_of packets
  gives (packet_exit under code steps k (slice_get all k))
