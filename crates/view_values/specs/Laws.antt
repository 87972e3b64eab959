-- What it means that a formula is false by computing.
use Rattle.std.specs.Prelude.{◌≡◌, true, List}
use Rattle.word_ops.specs.Rights.{Rights}
use Rattle.formula_tree.specs.Formulas.{Form}
use Rattle.formula_tree.specs.Truth.{Valuation, Bound, IsTrueIn}
use Rattle.view_values.specs.Values.{is_false}

-- No state makes it true, whatever is readable and writable, and whatever bound variables stand for.
abbrev pub IsNeverTrue : Type 0
IsNeverTrue =
    (R : Rights) (F : Form) (v : Valuation) (ρ : List Bound) → is_false F ≡ true
    → IsTrueIn R F v ρ → ⊥
