-- Whether an expression is a given operator at two others, or a word.
use Rattle.std.specs.Prelude.{◌≡◌, ℕ, Option, Some, None}
use Rattle.word_ops.specs.declared.Op.{Op}
use Rattle.term_table.specs.Table.{TableView}
use Rattle.formula_tree.specs.Formulas.{Exp, ELit, EOp}
use Rattle.prover_ids.specs.Nodes.{IsApply}
use Rattle.prover_ids.specs.declared.nodes.Sides.{Sides}

-- the operands, which the ids stand for; none where it isn't this operator at two expressions
abbrev pub AreOperands : TableView → Exp → Op → Option Sides → Type 0
AreOperands t e o None = (x y : Exp) → e ≡ EOp o x y → ⊥
AreOperands t e o (Some p) = IsApply t e o p.left p.right

-- the word; none where it isn't one
abbrev pub IsLiteral : Exp → Option ℕ → Type 0
IsLiteral e None = (w : ℕ) → e ≡ ELit w → ⊥
IsLiteral e (Some w) = e ≡ ELit w
