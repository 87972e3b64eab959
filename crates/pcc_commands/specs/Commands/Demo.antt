-- `demo N`: a source of N loads and a loop is assembled, proved, judged and run on sixteen packets.
use Rattle.std.specs.Prelude.{ℕ, zero, suc, ◌+◌, ◌==◌, if◌then◌else◌, List, length, Option, Some, None, codes}
use Rattle.alpha_words.specs.declared.insn.Insn.{Insn}
use Rattle.alpha_cfg.specs.Machine.{run_of}
use Rattle.alpha_cfg.specs.declared.outcome.Outcome.{Outcome}
use Rattle.alpha_cfg.specs.declared.outcome.Outcome.TheVariants.{Returned}
use Rattle.policy_set.specs.Views.{PolicyView}
use Rattle.reference_machine.specs.declared.layout.TheConstants.{ARENA}
use Rattle.reference_machine.specs.Starts.{StartView, start_state}
use Rattle.packet_store.specs.PolicyStarts.{start_of}
use Rattle.safe_host.specs.Counts.{steps_of}
use Rattle.pcc_demo.specs.Sources.{demo_source}
use Rattle.pcc_demo.specs.Packets.{demo_packet}
use Rattle.pcc_demo.specs.declared.packets.TheConstants.{PACKETS}
use Rattle.pcc_lines.specs.Demo.{demo_lines}
use Rattle.pcc_lines.specs.declared.demo.DemoSummary.{DemoSummary}
use Rattle.pcc_stages.specs.Stages.Common.{policy_named, printing}
use Rattle.pcc_commands.specs.declared.commands.demo.TheConstants.{DEMO_STEPS}
use Rattle.pcc_commands.specs.declared.commands.demo.Counts.{Counts}
use Rattle.pcc_stages.specs.Stage.{Stage, gives, ◌>>=◌}
use Rattle.pcc_stages.specs.Runs.{Effect}
use Rattle.pcc_commands.specs.Stages.Assembling.{assembled_in}
use Rattle.pcc_commands.specs.Stages.Judging.{Shown, shown_in}
use Rattle.pcc_commands.specs.Stages.Proving.{proved_in}

-- ---- the runs

-- 1 where a run returned 1
abbrev pub ones_of : Outcome → ℕ
ones_of (Returned word) = if word == 1 then 1 else 0
ones_of outcome = 0

-- the steps of a run of at most so many from a start, and whether it returned 1
unfoldable pub count_from : List Insn → ℕ → Option StartView → Counts
count_from code budget None = record { steps = 0; ones = 0 }
count_from code budget (Some setup) =
    let state = start_state ARENA setup in
    record { steps = steps_of code budget state; ones = ones_of (run_of code budget state).0 }

-- two counts in one
abbrev pub both_counts : Counts → Counts → Counts
both_counts a b = record { steps = a.steps + b.steps; ones = a.ones + b.ones }

-- the same of the first so many packets
unfoldable pub packet_counts : PolicyView → List Insn → ℕ → ℕ → ℕ → Counts
packet_counts policy code budget n zero = record { steps = 0; ones = 0 }
packet_counts policy code budget n (suc k) = both_counts (packet_counts policy code budget n k) (count_from code budget (start_of policy (demo_packet n k)))

-- what is told of code with so many invariants
abbrev pub summary_of : PolicyView → ℕ → Shown → DemoSummary
summary_of policy n shown =
    let counts = packet_counts policy shown.code DEMO_STEPS n PACKETS in
    record { words = length shown.code; invariants = shown.invariants; packets = PACKETS; steps = counts.steps; ones = counts.ones }

-- ---- the command

-- the container of version 1 with its proof
unfoldable pub demo_container : PolicyView → ℕ → Stage (List ℕ)
demo_container policy n = do
  container ← assembled_in 1 None policy (demo_source n)
  proved_in policy container

-- what is told
unfoldable pub demo_told : PolicyView → ℕ → Stage DemoSummary
demo_told policy n = do
  container ← demo_container policy n
  shown ← shown_in policy container
  gives (summary_of policy n shown)

-- the three lines of it
unfoldable pub demo_effect : PolicyView → ℕ → Stage Effect
demo_effect policy n = do
  told ← demo_told policy n
  printing (demo_lines told)

-- the name of the policy
abbrev pub demo_policy : List ℕ
demo_policy = codes "filter"

-- no file is read
unfoldable pub demo_command : ℕ → Stage Effect
demo_command n = do
  under ← policy_named demo_policy
  demo_effect under n
