-- The instructions of the memory format, a row each: opcode, mnemonic, what is done with the first register, and since which profile there is one.
-- Alpha Architecture Handbook, "Memory Integer Load/Store Instructions" and the opcode tables.
use Rattle.std.specs.Prelude.{ℕ, Bool, nat_le, ◌==◌, if◌then◌else◌, List, [], ◌∷◌, codes, Option, Some, None, find}
use Rattle.std.specs.Str.{bytes_eq}
use Rattle.word_ops.specs.declared.Profile.{Profile}
use Rattle.word_ops.specs.declared.Profile.TheVariants.{One, Two}
use Rattle.word_ops.specs.Operators.{profile_number}
use Rattle.alpha_words.specs.declared.memory.MemoryOp.{MemoryOp}
use Rattle.alpha_words.specs.declared.memory.MemoryOp.TheVariants.{Lda, Ldah, Ldq, LdqU, Stq}
use Rattle.alpha_words.specs.declared.memory.MemoryKind.{MemoryKind}
use Rattle.alpha_words.specs.declared.memory.MemoryKind.TheVariants.{Address, Load, Store}

-- what names an instruction of the memory format, what it does with its first register, and the first profile that has it
pub record MemoryRow : Type 0 where
  pub opcode : ℕ
  pub mnemonic : List ℕ
  pub kind : MemoryKind
  pub since : Profile

-- a row, its fields in their order
abbrev row : ℕ → List ℕ → MemoryKind → Profile → MemoryRow
row o m k p = record { opcode = o; mnemonic = m; kind = k; since = p }

-- the table
abbrev pub memory_row : MemoryOp → MemoryRow
memory_row Lda = row 0x08 (codes "lda") Address One
memory_row Ldah = row 0x09 (codes "ldah") Address Two
memory_row LdqU = row 0x0B (codes "ldq_u") Load Two
memory_row Ldq = row 0x29 (codes "ldq") Load One
memory_row Stq = row 0x2D (codes "stq") Store One

-- all of them, by their opcodes
abbrev pub memory_ops : List MemoryOp
memory_ops = Lda ∷ Ldah ∷ LdqU ∷ Ldq ∷ Stq ∷ []

-- the opcode of an instruction
abbrev pub memory_opcode : MemoryOp → ℕ
memory_opcode o = (memory_row o).opcode

-- the name of an instruction in sources
abbrev pub memory_mnemonic : MemoryOp → List ℕ
memory_mnemonic o = (memory_row o).mnemonic

-- what an instruction does with its first register
abbrev pub memory_kind : MemoryOp → MemoryKind
memory_kind o = (memory_row o).kind

-- the first profile that has an instruction
abbrev pub memory_since : MemoryOp → Profile
memory_since o = (memory_row o).since

-- whether a profile has the instruction: it is the first that has it, or a later one
abbrev pub has_memory_op : Profile → MemoryOp → Bool
has_memory_op p o = nat_le (profile_number (memory_since o)) (profile_number p)

-- the instruction of an opcode
abbrev pub memory_op_at : ℕ → Option MemoryOp
memory_op_at n = find (λ o. memory_opcode o == n) memory_ops

-- the instruction of a mnemonic
unfoldable pub memory_op_named : List ℕ → Option MemoryOp
memory_op_named w = find (λ o. bytes_eq w (memory_mnemonic o)) memory_ops

-- the instruction, where there is one and the profile has it
abbrev pub memory_op_of : Profile → Option MemoryOp → Option MemoryOp
memory_op_of p None = None
memory_op_of p (Some o) = if has_memory_op p o then Some o else None
