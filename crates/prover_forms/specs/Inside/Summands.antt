-- Operands as the choice of a rule needs them, and the choice by what they are.
use Rattle.std.specs.Prelude.{◌≡◌, ℕ, ◌==◌, Bool, Option, Some, None, if◌then◌else◌}
use Rattle.term_table.specs.Table.{TableView, IsKnown, tree_at}
use Rattle.word_ops.specs.declared.Op.{Op}
use Rattle.word_ops.specs.declared.Op.TheVariants.{Add, Sub, Bis, Xor, Bic, S4add, S8add}
use Rattle.formula_tree.specs.Formulas.{Exp, ELit, EOp}
use Rattle.lf_terms.specs.Encoding.{exp_encoding}
use Rattle.lf_signature.specs.declared.numbers.TheConstants.{ADD_ZERO, BIS_ZERO, BIS_ZERO_L, S4_DEF, S8_DEF}
use Rattle.prover_forms.specs.declared.rules.Summand.{Summand}
use Rattle.prover_forms.specs.declared.rules.Summand.TheVariants as S
use Rattle.prover_forms.specs.declared.rules.Rule.{Rule}
use Rattle.prover_forms.specs.declared.rules.Rule.TheVariants as L

-- a sum of two expressions, which the ids stand for
pub record IsSum (t : TableView) (e : Exp) (a b : ℕ) : Type 0 where
  pub left : Exp
  pub right : Exp
  pub is : e ≡ EOp Add left right
  pub left_is : tree_at t a ≡ exp_encoding left
  pub right_is : tree_at t b ≡ exp_encoding right

-- neither a word nor a sum
abbrev pub IsOther : Exp → Type 0
IsOther (ELit w) = ⊥
IsOther (EOp Add a b) = ⊥
IsOther _ = Unit {0}

-- what an operator at two ids is as an operand
abbrev pub applied_summand : Op → ℕ → ℕ → Summand
applied_summand Add a b = S.Sum a b
applied_summand o a b = S.Other

-- what an operand is
abbrev pub IsSummand : TableView → Exp → Summand → Type 0
IsSummand t e (S.Word w) = e ≡ ELit w
IsSummand t e (S.Sum a b) = IsSum t e a b
IsSummand t e S.Other = IsOther e

-- the rule of an operator that others define, and of an exclusive or of an expression with itself; same says that the operands are one
abbrev pub rule_by_op : Op → Bool → Rule
rule_by_op S4add same = L.Scaled S4_DEF 2
rule_by_op S8add same = L.Scaled S8_DEF 3
rule_by_op Bic same = L.Complemented
rule_by_op Xor same = if same then L.Cancelled else L.Nothing
rule_by_op o same = L.Nothing

-- the rule of an operator whose second operand is the word; comes says that the second comes before the first
abbrev pub rule_at_word : Op → Summand → ℕ → Bool → Bool → Rule
rule_at_word o (S.Word v) w comes same = L.Value v w
rule_at_word Sub (S.Sum p q) w comes same = L.Negated
rule_at_word Add (S.Sum p q) w comes same =
    if w == 0 then L.First ADD_ZERO else L.Regrouped p q
rule_at_word Bis (S.Sum p q) w comes same = if w == 0 then L.First BIS_ZERO else L.Nothing
rule_at_word Sub S.Other w comes same = L.Negated
rule_at_word Add S.Other w comes same =
    if w == 0 then L.First ADD_ZERO else if comes then L.Swapped else L.Nothing
rule_at_word Bis S.Other w comes same = if w == 0 then L.First BIS_ZERO else L.Nothing
rule_at_word o a w comes same = rule_by_op o same

-- the same of a sum of no sum and no word: by the parts of the second, where its first comes before the first operand
abbrev pub rule_of_sum : Option (ℕ × ℕ) → Bool → Rule
rule_of_sum (Some p) comes = L.Turned p.0 p.1
rule_of_sum None comes = if comes then L.Swapped else L.Nothing

-- the same where the second is no word
abbrev pub rule_before : Op → Summand → Option (ℕ × ℕ) → Bool → Bool → Rule
rule_before Add (S.Sum p q) turn comes same = L.Regrouped p q
rule_before Add (S.Word v) turn comes same = rule_of_sum turn comes
rule_before Add S.Other turn comes same = rule_of_sum turn comes
rule_before Bis (S.Word v) turn comes same =
    if v == 0 then L.Second BIS_ZERO_L else L.Nothing
rule_before o a turn comes same = rule_by_op o same

-- the parts of an operand are the table's
abbrev pub IsKnownSummand : TableView → Summand → Type 0
IsKnownSummand t (S.Sum a b) = IsKnown t a × IsKnown t b
IsKnownSummand t _ = Unit {0}
