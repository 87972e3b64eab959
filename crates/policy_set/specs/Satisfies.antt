-- When a state meets a formula.
use Rattle.std.specs.Prelude.{ℕ, List, []}
use Rattle.word_ops.specs.Memory.{Memory}
use Rattle.word_ops.specs.Rights.{Rights}
use Rattle.formula_tree.specs.Formulas.{Form}
use Rattle.formula_tree.specs.Truth.{IsTrueIn}

-- the formula is true under the state's own rights, registers and memory
abbrev pub Satisfies : Rights → List ℕ → Memory → Form → Type 0
Satisfies rights regs memory F = IsTrueIn rights F (record { regs = regs; memory = memory; left = 0 }) []
