-- The simulation, from a state before the first word.
use Rattle.std.proofs.Common.{◌≡◌, ℕ, ◌*◌, ◌<◌, List, length, slice_index, refl, sym, ap, ◌∙◌, subst, arith}
use Rattle.word_ops.specs.Memory.{read}
use Rattle.word_ops.specs.Rights.{allowed}
use Rattle.alpha_cfg.specs.Machine.{State}
use Rattle.bpf_words.specs.declared.insn.Bpf.{Bpf}
use Rattle.bpf_words.specs.Programs.{IsProgram}
use Rattle.bpf_code.specs.Blocks.{bpf_code}
use Rattle.bpf_words.specs.Reading.{AreBytes}
use Rattle.bpf_code.specs.Simulation.{address_behind, StartsOn, ReturnsFlag, Simulates}
use Rattle.bpf_code.proofs.Loads.{HasPacket, quad_address}
use Rattle.bpf_code.proofs.Places.{length-blocks_from}
use Rattle.bpf_code.proofs.Simulation.{program-answers}

address-is : (x d : ℕ) → d < 8 → quad_address x d ≡ address_behind x (8 * d)
address-is x d lt = omega (arith, lt)

has-packet : (packet : List ℕ) (s : State) → StartsOn packet s → HasPacket packet s.memory s.rights.reads (slice_index s.regs 16)
has-packet packet s starts = record {
  at = λ d lt. ap (read s.memory) (address-is (slice_index s.regs 16) d lt) ∙ starts.stands d (omega (arith, lt));
  may = λ d lt. ap (allowed s.rights.reads) (address-is (slice_index s.regs 16) d lt) ∙ starts.readable d (omega (arith, lt));
}

-- the state at index 0
abbrev at_front : State → State
at_front s = record { index = 0; regs = s.regs; memory = s.memory; rights = s.rights }

pub simulates : Simulates
simulates program packet budget s is bytes starts enough =
    let same : at_front s ≡ s = ap (λ i. record { index = i; regs = s.regs; memory = s.memory; rights = s.rights }) (sym starts.index) in
    subst (ReturnsFlag program packet budget) same
    (program-answers program is packet bytes s.memory s.rights (slice_index s.regs 16)
    (has-packet packet s starts) budget s.regs starts.count starts.a refl enough)

pub simulates-thousand : (program : List Bpf) (packet : List ℕ) (s : State) → IsProgram program → AreBytes packet → StartsOn packet s
    → ReturnsFlag program packet 1000 s
simulates-thousand program packet s is bytes starts = let few = is.few in simulates program packet 1000 s is bytes starts (omega (arith, few))

pub length-bpf_code : (program : List Bpf) → length (bpf_code program) ≡ 20 * length program
unfolding bpf_code
length-bpf_code program = length-blocks_from 0 program
