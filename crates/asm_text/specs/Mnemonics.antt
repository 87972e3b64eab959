-- Mnemonics. Those of operators stand in the table of word_ops, those of the memory format and of conditional branches in those of
-- alpha_words, the others here.
-- Alpha Architecture Handbook, the opcode tables; `.inv` is this project's own.
use Rattle.std.specs.Prelude.{ℕ, Bool, true, List, ◌∷◌, map, codes, Option, find}
use Rattle.std.specs.Option.{option_map, option_or}
use Rattle.std.specs.Str.{bytes_eq}
use Rattle.word_ops.specs.declared.Profile.{Profile}
use Rattle.word_ops.specs.Operators.{op_mnemonic, op_of_mnemonic, has_op, of_profile}
use Rattle.alpha_words.specs.MemoryOps.{memory_mnemonic, memory_op_named, has_memory_op, memory_op_of}
use Rattle.alpha_words.specs.Conditions.{conditions, cond_mnemonic}
use Rattle.asm_text.specs.declared.mnemonics.Mnemonic.{Mnemonic}
use Rattle.asm_text.specs.declared.mnemonics.Mnemonic.TheVariants as N

-- the lexeme that a mnemonic is
abbrev pub mnemonic_text : Mnemonic → List ℕ
mnemonic_text (N.Memory o) = memory_mnemonic o
mnemonic_text (N.Oper o) = op_mnemonic o
mnemonic_text (N.Branch j) = cond_mnemonic j
mnemonic_text N.Br = codes "br"
mnemonic_text N.Ret = codes "ret"
mnemonic_text N.Nop = codes "nop"

-- those that are neither operators nor of the memory format, by opcode
abbrev pub mnemonics : List Mnemonic
mnemonics = N.Nop ∷ N.Ret ∷ N.Br ∷ map N.Branch conditions

-- whether a profile has the mnemonic's instruction
abbrev pub has_mnemonic : Profile → Mnemonic → Bool
has_mnemonic profile (N.Memory o) = has_memory_op profile o
has_mnemonic profile (N.Oper o) = has_op profile o
has_mnemonic profile m = true

-- the one that the lexeme is of those that stand in no table
unfoldable pub other_mnemonic : List ℕ → Option Mnemonic
other_mnemonic w = find (λ m. bytes_eq w (mnemonic_text m)) mnemonics

-- the profile's mnemonic that the lexeme is: an operator's, else one of the memory format, else another
unfoldable pub mnemonic_of : Profile → List ℕ → Option Mnemonic
mnemonic_of profile w =
    option_or (option_map N.Oper (of_profile profile (op_of_mnemonic w)))
    (option_or (option_map N.Memory (memory_op_of profile (memory_op_named w))) (other_mnemonic w))
