-- Formulas by their free variables. Registers, m and the steps that are left may stand in them.
use Rattle.std.specs.Prelude.{ℕ, suc, ◌<◌}
use Rattle.formula_tree.specs.Formulas.{Exp, EReg, ELeft, EVar, ELit, EOp, ESel, MemExp, MMem, MVar, MUpd, Form, FTrue, FFalse, FRel, FRd, FWr, FAnd, FOr, FImp, FAll, FAllm}

-- each variable is below n
abbrev mutual
  pub HasVarsBelowExp : ℕ → Exp → Type 0
  HasVarsBelowExp n (EReg r) = Unit {0}
  HasVarsBelowExp n ELeft = Unit {0}
  HasVarsBelowExp n (EVar k) = k < n
  HasVarsBelowExp n (ELit w) = Unit {0}
  HasVarsBelowExp n (EOp o a b) = HasVarsBelowExp n a × HasVarsBelowExp n b
  HasVarsBelowExp n (ESel m a) = HasVarsBelowMem n m × HasVarsBelowExp n a

  pub HasVarsBelowMem : ℕ → MemExp → Type 0
  HasVarsBelowMem n MMem = Unit {0}
  HasVarsBelowMem n (MVar k) = k < n
  HasVarsBelowMem n (MUpd m a v) = HasVarsBelowMem n m × HasVarsBelowExp n a × HasVarsBelowExp n v

-- the same of a formula
abbrev pub HasVarsBelow : ℕ → Form → Type 0
HasVarsBelow n FTrue = Unit {0}
HasVarsBelow n FFalse = Unit {0}
HasVarsBelow n (FRel p a b) = HasVarsBelowExp n a × HasVarsBelowExp n b
HasVarsBelow n (FRd a) = HasVarsBelowExp n a
HasVarsBelow n (FWr a) = HasVarsBelowExp n a
HasVarsBelow n (FAnd A B) = HasVarsBelow n A × HasVarsBelow n B
HasVarsBelow n (FOr A B) = HasVarsBelow n A × HasVarsBelow n B
HasVarsBelow n (FImp A B) = HasVarsBelow n A × HasVarsBelow n B
HasVarsBelow n (FAll A) = HasVarsBelow (suc n) A
HasVarsBelow n (FAllm A) = HasVarsBelow (suc n) A
