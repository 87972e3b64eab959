-- The instructions whose words are written.
use Rattle.std.specs.Prelude.{◌≡◌, ℕ, List, slice_get, Some}
use Rattle.alpha_words.specs.declared.insn.Insn.{Insn}
use Rattle.alpha_words.specs.Encoding.{Encodes}
use Rattle.word_ops.specs.declared.Profile.TheVariants.{One}

-- some word encodes the instruction, which the first profile has
abbrev pub IsOneInsn : Insn → Type 0
IsOneInsn insn = (word : ℕ) × Encodes One word insn

-- the same of each
abbrev pub AreOneInsns : List Insn → Type 0
AreOneInsns code = (i : ℕ) (insn : Insn) → slice_get code i ≡ Some insn → IsOneInsn insn
