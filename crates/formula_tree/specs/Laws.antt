-- What holds of formulas, their truth and substitution.
use Rattle.std.specs.Prelude.{◌≡◌, ◌↔◌, ℕ, List, ◌∷◌, ◌++◌, length}
use Rattle.word_ops.specs.Memory.{Memory}
use Rattle.word_ops.specs.Rights.{Rights}
use Rattle.formula_tree.specs.Formulas.{Form, shift_form}
use Rattle.formula_tree.specs.Substitution.{Substitution, subst_form}
use Rattle.formula_tree.specs.Variables.{Part, subst_var}
use Rattle.formula_tree.specs.Scope.{VarSort, IsOver, IsOverSubstitution, part_sort, IsOverPart}
use Rattle.formula_tree.specs.Truth.{Valuation, Bound, IsTrueIn, substitution_value, part_value, ReadsAlike, AreAlike}

-- A substituted formula is true exactly where the formula is true of what was put.
abbrev pub SubstTruth : Type 0
SubstTruth = (R : Rights) (F : Form) (s : Substitution) (v : Valuation) (ρ : List Bound) → length s.regs ≡ 31 → IsTrueIn R (subst_form F s) v ρ ↔ IsTrueIn R F (substitution_value s v ρ) ρ

-- The same of one variable: the part's value stands among the bound values in its place.
abbrev pub VarTruth : Type 0
VarTruth = (R : Rights) (F : Form) (r : ℕ) (p : Part) (G H : List VarSort) (v : Valuation) (ρ σ : List Bound) → length ρ ≡ length G → IsOver r F (G ++ part_sort p ∷ H) → IsTrueIn R (subst_var F (length G) p) v (ρ ++ σ) ↔ IsTrueIn R F v (ρ ++ part_value p v (ρ ++ σ) ∷ σ)

-- A shifted formula says nothing of the values that were brought in.
abbrev pub ShiftTruth : Type 0
ShiftTruth = (R : Rights) (F : Form) (v : Valuation) (ρ more σ : List Bound) → IsTrueIn R (shift_form (length more) (length ρ) F) v (ρ ++ (more ++ σ)) ↔ IsTrueIn R F v (ρ ++ σ)

-- A formula that names no register says nothing of registers and m.
abbrev pub ClosedTruth : Type 0
ClosedTruth = (R : Rights) (F : Form) (G : List VarSort) (v w : Valuation) (ρ : List Bound) → IsOver 0 F G → IsTrueIn R F v ρ ↔ IsTrueIn R F w ρ

-- Truth looks at memories by `read` alone.
abbrev pub ReadsTruth : Type 0
ReadsTruth = (R : Rights) (F : Form) (v : Valuation) (m : Memory) (ρ σ : List Bound) → ReadsAlike v.memory m → AreAlike ρ σ → IsTrueIn R F v ρ ↔ IsTrueIn R F (record v { memory = m }) σ

-- What isn't false is true.
abbrev pub StableTruth : Type 0
StableTruth = (R : Rights) (F : Form) (v : Valuation) (ρ : List Bound) → ((IsTrueIn R F v ρ → ⊥) → ⊥) → IsTrueIn R F v ρ

-- A substituted formula lies over the context of what was put.
abbrev pub SubstScope : Type 0
SubstScope = (r q : ℕ) (F : Form) (s : Substitution) (G : List VarSort) → IsOver r F G → IsOverSubstitution r q s G → IsOver q (subst_form F s) G

-- A part that is put for a variable takes that variable out of the context.
abbrev pub VarScope : Type 0
VarScope = (r : ℕ) (F : Form) (p : Part) (G H : List VarSort) → IsOver r F (G ++ part_sort p ∷ H) → IsOverPart r p (G ++ H) → IsOver r (subst_var F (length G) p) (G ++ H)
