-- The operators, a row each, and what names them: numbers in proofs, keywords in formulas, mnemonics in sources, codes in instructions.
-- Opcodes, functions and mnemonics: Alpha Architecture Handbook, "Integer Arithmetic Instructions", "Logical and Shift Instructions" and
-- the opcode tables. Numbers, constants and keywords are this project's own.
use Rattle.std.specs.Prelude.{ℕ, Bool, true, ◌&&◌, ◌==◌, nat_lt, if◌then◌else◌, List, [], ◌∷◌, codes, Option, Some, None, find, ◌≡◌}
use Rattle.std.specs.Str.{bytes_eq}
use Rattle.word_ops.specs.declared.Op.{Op}
use Rattle.word_ops.specs.declared.Op.TheVariants.{Add, Sub, Band, Bis, Sll, Srl, Cmpeq, Cmplt, Cmple, Cmpult, Cmpule, Xor, Bic, S4add, S8add, Sra, Extb, Extw, Extl}
use Rattle.word_ops.specs.declared.Profile.{Profile}
use Rattle.word_ops.specs.declared.Profile.TheVariants.{One, Two}

-- what names an operator: its number in evaluations, its constant in terms, its keyword, its mnemonic, its opcode and its function
pub record OpRow : Type 0 where
  pub number : ℕ
  pub constant : ℕ
  pub keyword : List ℕ
  pub mnemonic : List ℕ
  pub opcode : ℕ
  pub function : ℕ

-- a row, its fields in their order
abbrev row : ℕ → ℕ → List ℕ → List ℕ → ℕ → ℕ → OpRow
row n c k m o f = record { number = n; constant = c; keyword = k; mnemonic = m; opcode = o; function = f }

-- the table
abbrev pub op_row : Op → OpRow
op_row Add = row 0 0 (codes "add") (codes "addq") 0x10 0x20
op_row Sub = row 1 1 (codes "sub") (codes "subq") 0x10 0x29
op_row Band = row 2 2 (codes "band") (codes "and") 0x11 0x00
op_row Bis = row 3 3 (codes "bis") (codes "bis") 0x11 0x20
op_row Sll = row 4 4 (codes "sll") (codes "sll") 0x12 0x39
op_row Srl = row 5 5 (codes "srl") (codes "srl") 0x12 0x34
op_row Cmpeq = row 6 6 (codes "cmpeq") (codes "cmpeq") 0x10 0x2D
op_row Cmplt = row 7 7 (codes "cmplt") (codes "cmplt") 0x10 0x4D
op_row Cmple = row 8 8 (codes "cmple") (codes "cmple") 0x10 0x6D
op_row Cmpult = row 9 9 (codes "cmpult") (codes "cmpult") 0x10 0x1D
op_row Cmpule = row 10 10 (codes "cmpule") (codes "cmpule") 0x10 0x3D
op_row Xor = row 11 88 (codes "xor") (codes "xor") 0x11 0x40
op_row Bic = row 12 89 (codes "bic") (codes "bic") 0x11 0x08
op_row S4add = row 13 90 (codes "s4add") (codes "s4addq") 0x10 0x22
op_row S8add = row 14 91 (codes "s8add") (codes "s8addq") 0x10 0x32
op_row Sra = row 15 92 (codes "sra") (codes "sra") 0x12 0x3C
op_row Extb = row 16 93 (codes "extb") (codes "extbl") 0x12 0x06
op_row Extw = row 17 94 (codes "extw") (codes "extwl") 0x12 0x16
op_row Extl = row 18 95 (codes "extl") (codes "extll") 0x12 0x26

-- all operators, by their numbers
abbrev pub operators : List Op
operators = Add ∷ Sub ∷ Band ∷ Bis ∷ Sll ∷ Srl ∷ Cmpeq ∷ Cmplt ∷ Cmple ∷ Cmpult ∷ Cmpule ∷ Xor ∷ Bic ∷ S4add ∷ S8add ∷ Sra ∷ Extb ∷ Extw ∷ Extl ∷ []

-- the number by which evaluations name an operator
abbrev pub op_number : Op → ℕ
op_number o = (op_row o).number

-- the constant that stands for an operator in terms
abbrev pub op_constant : Op → ℕ
op_constant o = (op_row o).constant

-- the name of an operator in formulas
abbrev pub op_keyword : Op → List ℕ
op_keyword o = (op_row o).keyword

-- the name of an operator in sources
abbrev pub op_mnemonic : Op → List ℕ
op_mnemonic o = (op_row o).mnemonic

-- the opcode of an operator's instruction
abbrev pub op_opcode : Op → ℕ
op_opcode o = (op_row o).opcode

-- the function of an operator's instruction
abbrev pub op_function : Op → ℕ
op_function o = (op_row o).function

-- the operator of a number
abbrev pub op_of : ℕ → Option Op
op_of n = find (λ o. op_number o == n) operators

-- the operator of a constant
abbrev pub op_of_constant : ℕ → Option Op
op_of_constant c = find (λ o. op_constant o == c) operators

-- the operator of a keyword
unfoldable pub op_of_keyword : List ℕ → Option Op
op_of_keyword w = find (λ o. bytes_eq w (op_keyword o)) operators

-- the operator of a mnemonic
unfoldable pub op_of_mnemonic : List ℕ → Option Op
op_of_mnemonic w = find (λ o. bytes_eq w (op_mnemonic o)) operators

-- the operator of an opcode and a function
abbrev pub op_of_code : ℕ → ℕ → Option Op
op_of_code opcode function = find (λ o. op_opcode o == opcode && op_function o == function) operators

-- the place of a profile among profiles, each of which has what those before it have
abbrev pub profile_number : Profile → ℕ
profile_number One = 1
profile_number Two = 2

-- how many operators a profile has: it has the first ones
abbrev pub op_count : Profile → ℕ
op_count One = 11
op_count Two = 19

-- the last profile, which has all operators
abbrev pub Last : Profile
Last = Two

-- whether a profile has the operator
abbrev pub has_op : Profile → Op → Bool
has_op p o = nat_lt (op_number o) (op_count p)

-- the operator, where there is one and the profile has it
abbrev pub of_profile : Profile → Option Op → Option Op
of_profile p None = None
of_profile p (Some o) = if has_op p o then Some o else None

-- an operator of the first profile
abbrev pub IsFirstOp : Op → Type 0
IsFirstOp o = has_op One o ≡ true
