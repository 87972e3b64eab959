-- The numbers by which terms, facts and denials name relations. Each has two: its constant, which stands in terms, and its place
-- in the order of the standard, by which facts and denials name it. Those of operators stand in word_ops (specs/Operators).
use Rattle.std.specs.Prelude.{ℕ, ◌-◌, nat_lt, if◌then◌else◌, Option, None, List, [], ◌∷◌}
use Rattle.term_table.specs.Tree.{at}
use Rattle.word_ops.specs.declared.Rel.{Rel}
use Rattle.word_ops.specs.declared.Rel.TheVariants.{Eq, Ult, Ule, Slt, Sle}
use Rattle.lf_signature.specs.declared.numbers.TheConstants.{EQ, ULT, ULE, SLT, SLE}

-- the relations 0 to 4
abbrev pub relations : List Rel
relations = Eq ∷ Ult ∷ Ule ∷ Slt ∷ Sle ∷ []

-- the relation of a number
abbrev pub rel_of : ℕ → Option Rel
rel_of n = at relations n

-- the number of a relation
abbrev pub rel_number : Rel → ℕ
rel_number Eq = 0
rel_number Ult = 1
rel_number Ule = 2
rel_number Slt = 3
rel_number Sle = 4

-- the constant of a relation
abbrev pub rel_constant : Rel → ℕ
rel_constant Eq = EQ
rel_constant Ult = ULT
rel_constant Ule = ULE
rel_constant Slt = SLT
rel_constant Sle = SLE

-- the relation of a constant: 15 to 19 are relations, in their order
abbrev pub rel_of_constant : ℕ → Option Rel
rel_of_constant c = if nat_lt c EQ then None else at relations (c - EQ)
