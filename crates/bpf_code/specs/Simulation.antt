-- The states from which the code of a program is run, and what the run comes to.
use Rattle.std.specs.Prelude.{◌≡◌, ℕ, ◌+◌, ◌*◌, ◌%◌, ◌^◌, ◌<◌, ◌≤◌, true, List, [], ◌∷◌, length, slice_index}
use Rattle.std.specs.Int.{from_le_bytes, w64}
use Rattle.word_ops.specs.Memory.{read}
use Rattle.word_ops.specs.Rights.{allowed}
use Rattle.alpha_cfg.specs.Machine.{State, run_of}
use Rattle.alpha_cfg.specs.declared.outcome.Outcome.TheVariants.{Returned}
use Rattle.bpf_words.specs.declared.insn.TheConstants.{LOADABLE}
use Rattle.bpf_words.specs.declared.insn.Bpf.{Bpf}
use Rattle.bpf_words.specs.Programs.{IsProgram}
use Rattle.bpf_words.specs.Reading.{AreBytes}
use Rattle.bpf_words.specs.Values.{bpf_value}
use Rattle.bpf_code.specs.declared.blocks.TheConstants.{BLOCK}
use Rattle.bpf_code.specs.Blocks.{nonzero_flag, bpf_code}

-- the word of the eight bytes from offset k on, the lowest byte first
abbrev pub quadword_of : List ℕ → ℕ → ℕ
quadword_of packet k =
    let byte : ℕ → ℕ = λ i. slice_index packet (k + i) in
    from_le_bytes w64 (byte 0 ∷ byte 1 ∷ byte 2 ∷ byte 3 ∷ byte 4 ∷ byte 5 ∷ byte 6 ∷ byte 7 ∷ [])

-- the address of what stands k bytes behind another
abbrev pub address_behind : ℕ → ℕ → ℕ
address_behind base k = (base + k) % 2 ^ 64

-- The state before the first word: A is 0, and the quadwords of the packet's first LOADABLE bytes stand from the address in register 16
-- on, and may be loaded. Nothing is asked of other registers, of other memory, or of what may be stored.
pub record StartsOn (packet : List ℕ) (s : State) : Type 0 where
  pub index : s.index ≡ 0
  pub count : length s.regs ≡ 31
  pub a : slice_index s.regs 1 ≡ 0
  pub stands : (d : ℕ) → 8 * d < LOADABLE → read s.memory (address_behind (slice_index s.regs 16) (8 * d)) ≡ quadword_of packet (8 * d)
  pub readable : (d : ℕ) → 8 * d < LOADABLE → allowed s.rights.reads (address_behind (slice_index s.regs 16) (8 * d)) ≡ true

-- Within so many steps the code of the program returns 0 where the program's value on the packet is 0, else 1.
abbrev pub ReturnsFlag : List Bpf → List ℕ → ℕ → State → Type 0
ReturnsFlag program packet budget s = (run_of (bpf_code program) budget s).0 ≡ Returned (nonzero_flag (bpf_value program packet))

-- From each such state the code of a program returns so within BLOCK steps an instruction.
abbrev pub Simulates : Type 0
Simulates = (program : List Bpf) (packet : List ℕ) (budget : ℕ) (s : State) → IsProgram program → AreBytes packet → StartsOn packet s
    → BLOCK * length program ≤ budget → ReturnsFlag program packet budget s
