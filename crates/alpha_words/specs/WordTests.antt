-- The tests of a word, by its fields: what has to hold of them in order, and the flaw of a word of which it doesn't hold.
-- Alpha Architecture Handbook, "Instruction Formats" and the opcode tables; profiles and reserved registers are this project's own.
use Rattle.std.specs.Prelude.{◌≡◌, ◌≢◌, ◌≤◌, ℕ, ◌/◌, ◌%◌, ◌^◌, true, false, List, [], ◌∷◌}
use Rattle.word_ops.specs.declared.Op.{Op}
use Rattle.word_ops.specs.declared.Profile.{Profile}
use Rattle.word_ops.specs.Operators.{op_opcode, op_function, has_op}
use Rattle.word_ops.specs.Tests.{TestFor, test, FirstFails}
use Rattle.alpha_words.specs.declared.conditions.Cond.{Cond}
use Rattle.alpha_words.specs.declared.memory.MemoryOp.{MemoryOp}
use Rattle.alpha_words.specs.declared.memory.MemoryKind.TheVariants.{Load, Store}
use Rattle.alpha_words.specs.declared.fault.BadWord.{BadWord}
use Rattle.alpha_words.specs.declared.fault.BadWord.TheVariants.{Opcode, Function, Reserved, KeptRegister, LoadToZero, BadReturn, BadLink}
use Rattle.alpha_words.specs.Conditions.{cond_opcode_of}
use Rattle.alpha_words.specs.MemoryOps.{memory_opcode, memory_kind, has_memory_op}
use Rattle.alpha_words.specs.Encoding.{is_kept}

-- the opcode: the six highest bits of 32
abbrev pub opcode_field : ℕ → ℕ
opcode_field w = w / 2 ^ 26

-- bits 25:21
abbrev pub ra_field : ℕ → ℕ
ra_field w = w / 2 ^ 21 % 32

-- bits 20:16
abbrev pub rb_field : ℕ → ℕ
rb_field w = w / 2 ^ 16 % 32

-- bits 4:0
abbrev pub rc_field : ℕ → ℕ
rc_field w = w % 32

-- a word of the memory format, with an instruction that the profile has
abbrev pub IsMemoryWord : Profile → ℕ → MemoryOp → Type 0
IsMemoryWord p w op = (has_memory_op p op ≡ true) × (memory_opcode op ≡ opcode_field w)

-- a word of the operate format
abbrev pub IsOperateWord : ℕ → Type 0
IsOperateWord w = (0x10 ≤ opcode_field w) × (opcode_field w ≤ 0x12)

-- the opcode is one that the profile has
pub data HasOpcode (p : Profile) (w : ℕ) : Type 0 where
  memory : (op : MemoryOp) → IsMemoryWord p w op → HasOpcode p w
  operate : IsOperateWord w → HasOpcode p w
  jump : opcode_field w ≡ 0x1A → HasOpcode p w
  link : opcode_field w ≡ 0x30 → HasOpcode p w
  branch : (cond : Cond) → cond_opcode_of cond ≡ opcode_field w → HasOpcode p w

-- an operate word's function, bits 11:5, is one that the profile has with this opcode
abbrev pub HasFunction : Profile → ℕ → Type 0
HasFunction p w = (op : Op) × (has_op p op ≡ true) × (op_opcode op ≡ opcode_field w) × (op_function op ≡ w / 2 ^ 5 % 128)

-- with a register as second operand, which bit 12 tells, bits 15:13 are zero
abbrev pub HasZeros : ℕ → Type 0
HasZeros w = w / 2 ^ 12 % 2 ≡ 0 → w / 2 ^ 13 % 8 ≡ 0

-- the word writes the register
pub data WritesRegister (p : Profile) (w : ℕ) : ℕ → Type 0 where
  first : (op : MemoryOp) → IsMemoryWord p w op → memory_kind op ≢ Store → WritesRegister p w (ra_field w)
  last : IsOperateWord w → WritesRegister p w (rc_field w)

-- registers 31 and 26, and 2 in bits 15:14, which a hint follows
abbrev pub HasReturn : ℕ → Type 0
HasReturn w = (ra_field w ≡ 31) × (rb_field w ≡ 26) × (w / 2 ^ 14 % 4 ≡ 2)

-- the tests of a word, in their order
abbrev pub word_tests : Profile → ℕ → List (TestFor BadWord)
word_tests p w =
    test (HasOpcode p w) Opcode
    ∷ test (IsOperateWord w → HasFunction p w) Function
    ∷ test (IsOperateWord w → HasZeros w) Reserved
    ∷ test ((op : MemoryOp) → IsMemoryWord p w op → memory_kind op ≡ Load → ra_field w ≢ 31) LoadToZero
    ∷ test ((r : ℕ) → WritesRegister p w r → is_kept r ≡ false) KeptRegister
    ∷ test (opcode_field w ≡ 0x1A → HasReturn w) BadReturn
    ∷ test (opcode_field w ≡ 0x30 → ra_field w ≡ 31) BadLink
    ∷ []

-- The word's first flaw: of the tests in their order, this is the first that fails.
abbrev pub IsBadWord : Profile → ℕ → BadWord → Type 0
IsBadWord p w bad = FirstFails (word_tests p w) bad
