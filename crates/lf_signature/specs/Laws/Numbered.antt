-- The constants by number: relations, and what the others are declared at.
use Rattle.std.proofs.Common.{◌≡◌, ℕ, ◌+◌, ◌-◌, ◌≤◌, ◌==◌, Bool, true, false, cond, nat_lt, Some, None, refl, eqb-true, arith}
use Rattle.std.proofs.lemmas.Bool.{ltb-false}
use Rattle.word_ops.specs.declared.Rel.{Rel}
use Rattle.word_ops.specs.declared.Rel.TheVariants.{Eq, Ult, Ule, Slt, Sle}
use Rattle.term_table.specs.Tree.{Pi, Num, at}
use Rattle.lf_signature.specs.Numbers.{relations, rel_of, rel_number, rel_constant, rel_of_constant}
use Rattle.lf_signature.specs.Terms.{exp, form}
use Rattle.lf_signature.specs.declared.editions.WordSignature.{WordSignature}
use Rattle.lf_signature.specs.declared.numbers.TheConstants.{FF, EQ, ULT, ULE, SLT, SLE, IMP}
use Rattle.lf_signature.specs.Constants.{constant_types, declared}
use Rattle.lf_signature.specs.Laws.Within.{declared-made}
use Rattle.lf_signature.specs.Laws.Booleans.{every-at}

-- a relation is found by its number
pub rel_of-rel_number : (r : Rel) → rel_of (rel_number r) ≡ Some r
rel_of-rel_number Eq = refl
rel_of-rel_number Ult = refl
rel_of-rel_number Ule = refl
rel_of-rel_number Slt = refl
rel_of-rel_number Sle = refl

-- a relation is found by its constant
pub rel_of_constant-rel_constant : (r : Rel) → rel_of_constant (rel_constant r) ≡ Some r
rel_of_constant-rel_constant Eq = refl
rel_of_constant-rel_constant Ult = refl
rel_of_constant-rel_constant Ule = refl
rel_of_constant-rel_constant Slt = refl
rel_of_constant-rel_constant Sle = refl

-- what is found by a number has it
pub rel_number_is : (n : ℕ) (r : Rel) → rel_of n ≡ Some r → rel_number r ≡ n
rel_number_is n r e = eqb-true (rel_number r) n (every-at (λ k p. rel_number p == k) relations n r refl e)

-- what is found by a constant has it
pub rel_constant_is : (c : ℕ) (r : Rel) → rel_of_constant c ≡ Some r → rel_constant r ≡ c
rel_constant_is c r e = go (nat_lt c EQ) refl e
  where
    go : (b : Bool) → nat_lt c EQ ≡ b → cond b None (at relations (c - EQ)) ≡ Some r → rel_constant r ≡ c
    go true h q = cc
    go false h q =
        let from : EQ ≤ c = ltb-false c EQ h in
        let found : rel_constant r ≡ EQ + (c - EQ) = eqb-true (rel_constant r) (EQ + (c - EQ)) (every-at (λ k p. rel_constant p == EQ + k) relations (c - EQ) r refl q) in
        omega arith

-- relations are declared at words
pub declared-rel : (s : WordSignature) (r : Rel) → declared s (Num (rel_constant r)) ≡ Some (Pi exp (Pi exp form))
unfolding constant_types
declared-rel s Eq = declared-made s EQ (omega arith)
declared-rel s Ult = declared-made s ULT (omega arith)
declared-rel s Ule = declared-made s ULE (omega arith)
declared-rel s Slt = declared-made s SLT (omega arith)
declared-rel s Sle = declared-made s SLE (omega arith)

-- falsity is declared a formula
pub declared-falsity : (s : WordSignature) → declared s (Num FF) ≡ Some form
unfolding constant_types
declared-falsity s = declared-made s FF (omega arith)

-- implication is declared at formulas
pub declared-imp : (s : WordSignature) → declared s (Num IMP) ≡ Some (Pi form (Pi form form))
unfolding constant_types
declared-imp s = declared-made s IMP (omega arith)
