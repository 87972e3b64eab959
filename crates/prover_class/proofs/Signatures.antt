-- Which operators and rules a signature has.
use Rattle.std.proofs.Common.{◌≡◌, ℕ, ◌<◌, ◌≤◌, nat_lt, nat_le, Bool, true, false, cond, Option, None, refl, sym, ◌∙◌, ap, arith}
use Rattle.std.specs.List.{list_all}
use Rattle.std.proofs.lemmas.Bool.{ltb-true, lt-ltb, leb-true}
use Rattle.word_ops.specs.declared.Op.{Op}
use Rattle.word_ops.specs.Operators.{operators, op_number, has_op}
use Rattle.word_ops.proofs.EachOp.{each_op}
use Rattle.lf_signature.specs.declared.editions.WordSignature.{WordSignature}
use Rattle.lf_signature.specs.declared.editions.WordSignature.TheVariants.{Sigma2}
use Rattle.lf_signature.specs.declared.numbers.TheConstants.{XOR, SUB_LO}
use Rattle.lf_signature.specs.Rules.{Rule}
use Rattle.lf_signature.specs.Constants.{rule_at, Longest, size_of, operators_of, op_count_of, declared}
use Rattle.lf_signature.specs.Known.{HasOp}
use Rattle.lf_signature.specs.Laws.Signatures.{each_signature}
use Rattle.lf_signature.specs.Laws.Within.{declared-op, declared-has, first-rules}
use Rattle.prover_class.proofs.Scope.{has_later, has_operator}

-- ---- operators

-- an operator that a signature has is below its count
pub operator-below : (sig : WordSignature) (o : Op) → has_operator sig o ≡ true
    → op_number o < op_count_of sig
operator-below sig o h =
    ltb-true (op_number o) (op_count_of sig)
    (sym (ap (λ b. cond b (has_op (operators_of sig) o) true) h)
    ∙ each_op (λ p. cond (has_operator sig p) (has_op (operators_of sig) p) true)
    (each_signature (λ s. list_all (λ p. cond (has_operator s p) (has_op (operators_of s) p) true) operators) refl sig) o)

-- and is declared
pub operator-declared : (sig : WordSignature) (o : Op) → has_operator sig o ≡ true
    → HasOp (declared sig) o
operator-declared sig o h = declared-op sig o (operator-below sig o h)

-- the other way round
pub declared-operator : (sig : WordSignature) (o : Op) → HasOp (declared sig) o
    → has_operator sig o ≡ true
declared-operator sig o h =
    sym (ap (λ b. cond b (has_operator sig o) true) (declared-has sig o h))
    ∙ each_op (λ p. cond (has_op (operators_of sig) p) (has_operator sig p) true)
    (each_signature (λ s. list_all (λ p. cond (has_op (operators_of s) p) (has_operator s p) true) operators) refl sig) o

-- ---- rules

-- whether the signature has the constant of this number among the class's rules
abbrev pub has_rule : WordSignature → ℕ → Bool
has_rule sig n =
    cond (nat_lt n XOR) true (cond (nat_lt n SUB_LO) (has_later sig) (nat_lt n (size_of sig)))

-- the rule of a number, where the signature has it
abbrev pub rule_of : WordSignature → ℕ → Option Rule
rule_of sig n = cond (has_rule sig n) (rule_at n) None

-- a signature with the later operators has all their rules
later-rules : (sig : WordSignature) → has_later sig ≡ true → SUB_LO ≤ size_of sig
later-rules sig h =
    leb-true SUB_LO (size_of sig)
    (sym (ap (λ b. cond b (nat_le SUB_LO (size_of sig)) true) h)
    ∙ each_signature (λ s. cond (has_later s) (nat_le SUB_LO (size_of s)) true) refl sig)

-- a rule that the signature has is below its count
pub rule-below : (sig : WordSignature) (n : ℕ) → has_rule sig n ≡ true → n < size_of sig
rule-below sig n h = first (nat_lt n XOR) refl h
  where
    later : (b : Bool) → nat_lt n SUB_LO ≡ b
        → cond b (has_later sig) (nat_lt n (size_of sig)) ≡ true → n < size_of sig
    later true e h = omega (arith, ltb-true n SUB_LO e, later-rules sig h)
    later false e h = ltb-true n (size_of sig) h

    first : (b : Bool) → nat_lt n XOR ≡ b
        → cond b true (cond (nat_lt n SUB_LO) (has_later sig) (nat_lt n (size_of sig))) ≡ true
        → n < size_of sig
    first true e h = omega (arith, ltb-true n XOR e, first-rules sig)
    first false e h = later (nat_lt n SUB_LO) refl h

-- where the signature has the second profile's operators, its rules are the second's, as far as those go
pub later_rule : (sig : WordSignature) → has_later sig ≡ true → (n : ℕ) → nat_lt n SUB_LO ≡ true
    → rule_of sig n ≡ rule_of Sigma2 n
later_rule sig h n q =
    ap (λ b. cond (cond (nat_lt n XOR) true (cond b (has_later sig) (nat_lt n (size_of sig))))
    (rule_at n) None) q
    ∙ ap (λ b. cond (cond (nat_lt n XOR) true b) (rule_at n) None) h
    ∙ sym (ap (λ b. cond (cond (nat_lt n XOR) true (cond b true (nat_lt n SUB_LO))) (rule_at n) None) q)

-- the rule for differences, where the signature has it, is the longest's
pub last_rule : (sig : WordSignature) → SUB_LO < size_of sig → rule_of sig SUB_LO ≡ rule_of Longest SUB_LO
last_rule sig h = ap (λ b. cond b (rule_at SUB_LO) None) (lt-ltb SUB_LO (size_of sig) h)
