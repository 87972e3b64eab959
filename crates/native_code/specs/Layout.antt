-- Where blocks begin, how far jumps lead, and the bytes of native code.
use Rattle.std.specs.Prelude.{◌≡◌, ℕ, zero, suc, ◌+◌, ◌-◌, ◌%◌, ◌^◌, ◌<◌, ◌≤◌, Bool, true, ◌==◌, if◌then◌else◌, List, [], ◌∷◌, ◌++◌, replicate, length}
use Rattle.std.specs.Prelude.{slice_get, ℤ, pos, ◌-ℤ◌}
use Rattle.std.specs.List.{All, flat_map}
use Rattle.alpha_words.specs.declared.insn.Insn.{Insn}
use Rattle.alpha_cfg.specs.Flow.{IsCode}
use Rattle.x86_words.specs.declared.insn.X86Insn.{X86Insn}
use Rattle.x86_words.specs.declared.insn.X86Insn.TheVariants.{Jump, JumpIf, Nop}
use Rattle.x86_words.specs.Encoding.{bytes_of, length_of}
use Rattle.native_steps.specs.Places.{Places, ArePlaces}
use Rattle.native_code.specs.declared.insn.NativeInsn.{NativeInsn}
use Rattle.native_code.specs.declared.insn.NativeInsn.TheVariants.{Plain, Go, GoIf}
use Rattle.native_code.specs.Heads.{is_loop_head}
use Rattle.native_code.specs.Lives.{Lean}
use Rattle.native_code.specs.Blocks.{plain, entry_code, block_at}

-- the bytes that an instruction takes, wherever it leads
abbrev pub native_length : NativeInsn → ℕ
native_length (Plain i) = length_of i
native_length (Go k) = 5
native_length (GoIf cond k) = 6

-- the bytes that all of them take
abbrev pub code_length : List NativeInsn → ℕ
code_length [] = 0
code_length (i ∷ rest) = native_length i + code_length rest

-- The padding from an offset to a multiple of 32: none there, else a jump to the block that is aligned, and as many `nop`s as are missing. They are never
-- reached: so padding that a run falls into costs one step.
abbrev pub padding : ℕ → ℕ → List NativeInsn
padding k at = if at % 32 == 0 then [] else Go k ∷ replicate ((32 - (at + 5) % 32) % 32) (Plain Nop)

-- a jump's displacement: it counts from the next instruction
abbrev pub distance : ℕ → ℕ → ℤ
distance from to = pos to -ℤ pos from

-- Blocks begin at these offsets.
module _ (offset : ℕ → ℕ) where
  -- the instruction that stands at an offset
  abbrev pub placed : ℕ → NativeInsn → X86Insn
  placed at (Plain i) = i
  placed at (Go k) = Jump (distance (at + 5) (offset k))
  placed at (GoIf cond k) = JumpIf cond (distance (at + 6) (offset k))

  -- the instructions from an offset on
  abbrev pub placed_from : ℕ → List NativeInsn → List X86Insn
  placed_from at [] = []
  placed_from at (i ∷ rest) = placed at i ∷ placed_from (at + native_length i) rest

module _ (p : Places) (lean : Lean) (metered : Bool) (code : List Insn) where
  -- what stands in front of the block of an index, with padding if that is a loop head
  abbrev pub aligned_front : ℕ → List NativeInsn → List NativeInsn
  aligned_front k front = front ++ (if is_loop_head code k then padding k (code_length front) else [])

  -- the entry, and the blocks of the indices below k
  abbrev pub front_code : ℕ → List NativeInsn
  front_code zero = aligned_front zero (plain (entry_code p lean))
  front_code (suc k) = aligned_front (suc k) (front_code k ++ block_at p lean metered code k (slice_get code k))

  -- All of it: the block of index `length code` ends the runs that are out of fuel.
  abbrev pub whole_code : List NativeInsn
  whole_code = front_code (suc (length code))

  -- where the block of an index begins
  abbrev pub offset_of : ℕ → ℕ
  offset_of k = code_length (front_code k)

  -- The instructions of native code, with their displacements.
  abbrev pub native_insns : List X86Insn
  native_insns = placed_from offset_of 0 whole_code

  -- The text: the bytes of native code.
  abbrev pub native_text : List ℕ
  native_text = flat_map bytes_of native_insns

-- A jump leads to one of the first n blocks.
abbrev pub LeadsBelow : ℕ → NativeInsn → Type 0
LeadsBelow n (Plain i) = Unit {0}
LeadsBelow n (Go k) = k < n
LeadsBelow n (GoIf cond k) = k < n

-- Native code is short: each block begins, and the last one ends, below 2^30.
abbrev pub SmallOffsets : Type 0
SmallOffsets = (p : Places) (lean : Lean) (metered : Bool) (code : List Insn) → IsCode code → ArePlaces p → (k : ℕ) → k ≤ suc (length code)
    → offset_of p lean metered code k < 2 ^ 30

-- The block of a loop head begins at a multiple of 32.
abbrev pub AlignedHeads : Type 0
AlignedHeads = (p : Places) (lean : Lean) (metered : Bool) (code : List Insn) (k : ℕ) → is_loop_head code k ≡ true → offset_of p lean metered code k % 32 ≡ 0

-- Each jump leads to a block: that of an index of the code, or the one after the last.
abbrev pub InnerTargets : Type 0
InnerTargets = (p : Places) (lean : Lean) (metered : Bool) (code : List Insn) → IsCode code
    → All (LeadsBelow (suc (length code))) (whole_code p lean metered code)
