-- What each rule makes of an operator at two operands.
use Rattle.std.specs.Prelude.{◌≡◌, ℕ, [], ◌∷◌}
use Rattle.term_table.specs.Table.{TableView, IsKnown, tree_at}
use Rattle.word_ops.specs.declared.Op.{Op}
use Rattle.word_ops.specs.declared.Op.TheVariants.{Add, Sub, Band, Sll, Xor}
use Rattle.word_ops.specs.Words.{word_of}
use Rattle.formula_tree.specs.Formulas.{Exp, ELit, EOp}
use Rattle.lf_terms.specs.Encoding.{exp_encoding}
use Rattle.lf_terms.specs.ProofTerms.{word_rule, calc}
use Rattle.lf_signature.specs.declared.numbers.TheConstants.{ADD_ASSOC, ADD_COMM, BIC_DEF, SUB_NEG, XOR_SELF}
use Rattle.prover_class.specs.Bounds.{max_word}
use Rattle.prover_class.specs.NormalForms.{whole_step, turned, rewrite_at}
use Rattle.prover_forms.specs.declared.rules.Rule.{Rule}
use Rattle.prover_forms.specs.declared.rules.Rule.TheVariants as L

-- a difference, as the sum with what is negative
abbrev pub negated_sum : Exp → Exp → Exp
negated_sum x y = EOp Add x (EOp Sub (ELit 0) y)

-- a sum whose second operand is a sum
abbrev pub regrouped_sum : Exp → Exp → Exp → Exp
regrouped_sum x y z = EOp Add x (EOp Add y z)

-- a sum with its operands exchanged
abbrev pub swapped_sum : Exp → Exp → Exp
swapped_sum x y = EOp Add y x

-- the sum of x, shifted to the left by c, and y
abbrev pub scaled_sum : ℕ → Exp → Exp → Exp
scaled_sum c x y = EOp Add (EOp Sll x (ELit c)) y

-- x with the bits of y cleared, as a bitwise and
abbrev pub cleared_bits : Exp → Exp → Exp
cleared_bits x y = EOp Band x (EOp Xor y (ELit max_word))

-- (add (add left right) y), which is to be (add left (add right y))
pub record IsRegrouped (t : TableView) (outside : ℕ) (o : Op) (x y : Exp) (p q : ℕ) : Type 0 where
  pub left : Exp
  pub right : Exp
  pub left_is : tree_at t p ≡ exp_encoding left
  pub right_is : tree_at t q ≡ exp_encoding right
  pub is : rewrite_at outside o x y ≡ whole_step (EOp o x y) (regrouped_sum left right y) (word_rule ADD_ASSOC (left ∷ right ∷ y ∷ []) [])

-- (add x (add left right)), which is to be (add left (add x right))
pub record IsTurned (t : TableView) (outside : ℕ) (o : Op) (x y : Exp) (p q : ℕ) : Type 0 where
  pub left : Exp
  pub right : Exp
  pub left_is : tree_at t p ≡ exp_encoding left
  pub right_is : tree_at t q ≡ exp_encoding right
  pub whole : EOp o x y ≡ EOp Add x (EOp Add left right)
  pub is : rewrite_at outside o x y ≡ turned x left right

-- the rule rewrites the operator at the expressions
abbrev pub IsRule : TableView → ℕ → Op → Exp → Exp → Rule → Type 0
IsRule t out o x y L.Nothing = rewrite_at out o x y ≡ []
IsRule t out o x y (L.Value v w) = rewrite_at out o x y ≡ whole_step (EOp o x y) (ELit (word_of o v w)) (calc o v w)
IsRule t out o x y L.Negated = rewrite_at out o x y ≡ whole_step (EOp o x y) (negated_sum x y) (word_rule SUB_NEG (x ∷ y ∷ []) [])
IsRule t out o x y (L.First n) = rewrite_at out o x y ≡ whole_step (EOp o x y) x (word_rule n (x ∷ []) [])
IsRule t out o x y (L.Second n) = rewrite_at out o x y ≡ whole_step (EOp o x y) y (word_rule n (y ∷ []) [])
IsRule t out o x y (L.Regrouped p q) = IsRegrouped t out o x y p q
IsRule t out o x y (L.Turned p q) = IsTurned t out o x y p q
IsRule t out o x y (L.Scaled n c) =
    rewrite_at out o x y
    ≡ whole_step (EOp o x y) (scaled_sum c x y) (word_rule n (x ∷ y ∷ []) [])
IsRule t out o x y L.Complemented =
    rewrite_at out o x y
    ≡ whole_step (EOp o x y) (cleared_bits x y) (word_rule BIC_DEF (x ∷ y ∷ []) [])
IsRule t out o x y L.Cancelled =
    rewrite_at out o x y ≡ whole_step (EOp o x y) (ELit 0) (word_rule XOR_SELF (x ∷ []) [])
IsRule t out o x y L.Swapped = rewrite_at out o x y ≡ whole_step (EOp o x y) (swapped_sum x y) (word_rule ADD_COMM (x ∷ y ∷ []) [])

-- the parts that a rule names are the table's
abbrev pub IsKnownRule : TableView → Rule → Type 0
IsKnownRule t (L.Regrouped p q) = IsKnown t p × IsKnown t q
IsKnownRule t (L.Turned p q) = IsKnown t p × IsKnown t q
IsKnownRule t _ = Unit {0}
