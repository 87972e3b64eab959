-- The conditions of branches, a row each: opcode, mnemonic, what is compared with 0 and how, and whether the branch is taken if
-- that holds or if it doesn't. Opcodes of operate instructions stand in word_ops (specs/Operators).
-- Alpha Architecture Handbook, "Conditional Branch" and the opcode tables.
use Rattle.std.specs.Prelude.{ℕ, Bool, true, false, ◌==◌, List, [], ◌∷◌, codes, Option, find}
use Rattle.word_ops.specs.declared.Rel.{Rel}
use Rattle.word_ops.specs.declared.Rel.TheVariants.{Eq, Slt, Sle}
use Rattle.alpha_words.specs.declared.conditions.Cond.{Cond}
use Rattle.alpha_words.specs.declared.conditions.Cond.TheVariants.{LowClear, Zero, Negative, NotPositive, LowSet, NotZero, NotNegative, Positive}
use Rattle.alpha_words.specs.declared.conditions.Tested.{Tested}
use Rattle.alpha_words.specs.declared.conditions.Tested.TheVariants.{Word, LowBit}
use Rattle.alpha_words.specs.declared.conditions.ToZero.{ToZero}
use Rattle.alpha_words.specs.declared.conditions.ToZero.TheVariants.{Equal, Less, AtMost}

-- what names a branch, what it compares with 0, how, and whether it is taken if that holds
pub record CondRow : Type 0 where
  pub opcode : ℕ
  pub mnemonic : List ℕ
  pub tested : Tested
  pub to_zero : ToZero
  pub taken : Bool

-- a row, its fields in their order
abbrev row : ℕ → List ℕ → Tested → ToZero → Bool → CondRow
row o m t z b = record { opcode = o; mnemonic = m; tested = t; to_zero = z; taken = b }

-- the table
abbrev pub cond_row : Cond → CondRow
cond_row LowClear = row 0x38 (codes "blbc") LowBit Equal true
cond_row Zero = row 0x39 (codes "beq") Word Equal true
cond_row Negative = row 0x3A (codes "blt") Word Less true
cond_row NotPositive = row 0x3B (codes "ble") Word AtMost true
cond_row LowSet = row 0x3C (codes "blbs") LowBit Equal false
cond_row NotZero = row 0x3D (codes "bne") Word Equal false
cond_row NotNegative = row 0x3E (codes "bge") Word Less false
cond_row Positive = row 0x3F (codes "bgt") Word AtMost false

-- all conditions, by their opcodes
abbrev pub conditions : List Cond
conditions = LowClear ∷ Zero ∷ Negative ∷ NotPositive ∷ LowSet ∷ NotZero ∷ NotNegative ∷ Positive ∷ []

-- the opcode of a conditional branch
abbrev pub cond_opcode_of : Cond → ℕ
cond_opcode_of c = (cond_row c).opcode

-- the name of a conditional branch in sources
abbrev pub cond_mnemonic : Cond → List ℕ
cond_mnemonic c = (cond_row c).mnemonic

-- what a branch compares with 0
abbrev pub cond_tested : Cond → Tested
cond_tested c = (cond_row c).tested

-- how a branch compares with 0
abbrev pub cond_to_zero : Cond → ToZero
cond_to_zero c = (cond_row c).to_zero

-- the relation of a comparison with 0, in two's complement
abbrev pub zero_relation : ToZero → Rel
zero_relation Equal = Eq
zero_relation Less = Slt
zero_relation AtMost = Sle

-- the relation by which a branch compares with 0
abbrev pub cond_relation : Cond → Rel
cond_relation c = zero_relation (cond_to_zero c)

-- whether a branch is taken if the comparison holds; else it is taken if it doesn't
abbrev pub cond_taken : Cond → Bool
cond_taken c = (cond_row c).taken

-- the condition of a branch's opcode
abbrev pub cond_at : ℕ → Option Cond
cond_at opcode = find (λ cond. cond_opcode_of cond == opcode) conditions
