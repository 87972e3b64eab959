-- What is chosen from where an expression is a word, an operator or neither.
use Rattle.std.proofs.Common.{◌≡◌, ℕ, true, false, None, [], ◌++◌, refl, ap}
use Rattle.word_ops.specs.declared.Op.{Op}
use Rattle.word_ops.specs.declared.Op.TheVariants.{Add, Sub, Band, Sll, Srl, Cmpeq, Cmplt, Cmple, Cmpult, Cmpule, Bic, Extb, Extw, Extl}
use Rattle.formula_tree.specs.Formulas.{Exp, ELit, EOp}
use Rattle.prover_ids.specs.Operands.{IsLiteral}
use Rattle.prover_class.specs.Hypotheses.{Hyps}
use Rattle.prover_class.specs.Bounds.{WordBound, least_bound, greatest_bound, own_bounds, op_bounds, part_lowers, uppers, lowers, upper_bound, lower_bound}
use Rattle.prover_bounds.specs.declared.bounds.Side.TheVariants.{Upper, Lower}
use Rattle.prover_bounds.specs.Candidates.{limit, ceiling_of, ceiling_bounds}
use Rattle.prover_bounds.specs.declared.choices.Choice.{Choice}
use Rattle.prover_bounds.specs.Choices.{IsChoice}

-- what is no operator has no parts
abbrev pub IsNoOp : Exp → Type 0
IsNoOp x = (o : Op) (a b : Exp) → x ≡ EOp o a b → ⊥

pub upper_alone : (Γ : Hyps) (x : Exp) → IsNoOp x → least_bound (own_bounds x ++ uppers x Γ) (limit Upper x) ≡ upper_bound Γ x
upper_alone Γ (EOp o a b) n = absurd (n o a b refl)
upper_alone Γ x n = refl

-- where no steps are counted no part says anything from below
pub lower_uncounted : (Γ : Hyps) (x : Exp)
    → greatest_bound (own_bounds x ++ lowers x Γ) (limit Lower x) ≡ lower_bound false Γ x
lower_uncounted Γ (EOp o a b) = refl
lower_uncounted Γ x = refl

-- what is no difference from a word
abbrev pub IsNoDifference : Exp → Type 0
IsNoDifference x = (a : Exp) (w : ℕ) → x ≡ EOp Sub a (ELit w) → ⊥

no_lowers : (o : Op) (a b : Exp) (v : WordBound) → IsNoDifference (EOp o a b)
    → [] ≡ part_lowers true o a b v
no_lowers Sub a (ELit w) v n = absurd (n a w refl)
no_lowers o a b v n = refl

pub lower_alone : (Γ : Hyps) (x : Exp) → IsNoDifference x
    → greatest_bound (own_bounds x ++ lowers x Γ) (limit Lower x) ≡ lower_bound true Γ x
lower_alone Γ (EOp o a b) n =
    ap (λ l. greatest_bound (lowers (EOp o a b) Γ) (greatest_bound l (limit Lower (EOp o a b))))
    (no_lowers o a b (lower_bound true Γ a) n)
lower_alone Γ x n = refl

-- a shift by what is no word has none
pub right_none : (a b : Exp) (v w : WordBound) → IsLiteral b None → op_bounds Srl a b v w ≡ []
right_none a (ELit w) v u n = absurd (n w refl)
right_none a b v u n = refl

pub left_none : (a b : Exp) (v w : WordBound) → IsLiteral b None → op_bounds Sll a b v w ≡ []
left_none a (ELit w) v u n = absurd (n w refl)
left_none a b v u n = refl

-- an operator that isn't bounded by what bounds its parts
pub other_bounds : (o : Op) (a b : Exp) (v w : WordBound) → (o ≡ Band → ⊥) → (o ≡ Srl → ⊥)
    → (o ≡ Sll → ⊥) → (o ≡ Add → ⊥) → (o ≡ Bic → ⊥)
    → op_bounds o a b v w ≡ ceiling_bounds (ceiling_of o) a b
other_bounds Band a b v w p q r s c = absurd (p refl)
other_bounds Srl a b v w p q r s c = absurd (q refl)
other_bounds Sll a b v w p q r s c = absurd (r refl)
other_bounds Add a b v w p q r s c = absurd (s refl)
other_bounds Bic a b v w p q r s c = absurd (c refl)
other_bounds o a b v w p q r s c = refl

-- an operator that may be any word
pub no_ceiling : (o : Op) → (o ≡ Cmpeq → ⊥) → (o ≡ Cmplt → ⊥) → (o ≡ Cmple → ⊥)
    → (o ≡ Cmpult → ⊥) → (o ≡ Cmpule → ⊥) → (o ≡ Extb → ⊥) → (o ≡ Extw → ⊥) → (o ≡ Extl → ⊥)
    → ceiling_of o ≡ None
no_ceiling Cmpeq a b c d e f g h = absurd (a refl)
no_ceiling Cmplt a b c d e f g h = absurd (b refl)
no_ceiling Cmple a b c d e f g h = absurd (c refl)
no_ceiling Cmpult a b c d e f g h = absurd (d refl)
no_ceiling Cmpule a b c d e f g h = absurd (e refl)
no_ceiling Extb a b c d e f g h = absurd (f refl)
no_ceiling Extw a b c d e f g h = absurd (g refl)
no_ceiling Extl a b c d e f g h = absurd (h refl)
no_ceiling o a b c d e f g h = refl

-- the choice is the least of what the parts of this operator say
abbrev pub IsPartChoice : Hyps → Exp → Exp → Choice → Op → Type 0
IsPartChoice Γ x y c o = IsChoice Upper Γ (EOp o x y) (least_bound (op_bounds o x y (upper_bound Γ x) (upper_bound Γ y)) (limit Upper (EOp o x y))) c
