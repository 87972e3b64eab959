-- The text of a packet, by its start.
use Rattle.std.proofs.Common.{◌≡◌, ℕ, List, ◌++◌, Option, Some, None, ap}
use Rattle.alpha_words.specs.declared.insn.Insn.{Insn}
use Rattle.policy_set.specs.Views.{PolicyView}
use Rattle.reference_machine.specs.Starts.{StartView, start_state}
use Rattle.packet_store.specs.declared.results.PacketResult.TheVariants.{Short}
use Rattle.packet_store.specs.PolicyStarts.{start_of}
use Rattle.packet_store.specs.Results.{result_from}
use Rattle.pcc_lines.specs.Results.{result_line}
use Rattle.view_trace.specs.Traces.{trace_text, trace_from, packet_text}

-- a short packet
pub short_text : (policy : PolicyView) (code : List Insn) (steps k : ℕ) (packet : List ℕ) → None ≡ start_of policy packet
    → result_line policy.kind k Short ≡ packet_text policy code steps k packet
unfolding trace_from result_from
short_text policy code steps k packet e =
    ap (λ (o : Option StartView). trace_from code steps o ++ result_line policy.kind k (result_from code steps o)) e

-- one that is run
pub run_text : (policy : PolicyView) (code : List Insn) (steps k : ℕ) (packet : List ℕ) (setup : StartView)
    → Some setup ≡ start_of policy packet
    → trace_text code steps (start_state 65536 setup) ++ result_line policy.kind k (result_from code steps (Some setup))
    ≡ packet_text policy code steps k packet
unfolding trace_from
run_text policy code steps k packet setup e =
    ap (λ (o : Option StartView). trace_from code steps o ++ result_line policy.kind k (result_from code steps o)) e
