-- Which operators are in an expression, a memory and a formula.
use Rattle.word_ops.specs.declared.Op.{Op}
use Rattle.formula_tree.specs.Formulas.{Exp, EReg, ELeft, EVar, ELit, EOp, ESel, MemExp, MMem, MVar, MUpd, Form, FTrue, FFalse, FRel, FRd, FWr, FAnd, FOr, FImp, FAll, FAllm}

module _ (P : Op → Type 0) where
  abbrev mutual
    -- each operator of the expression is one of these
    pub UsesExp : Exp → Type 0
    UsesExp (EOp o a b) = P o × UsesExp a × UsesExp b
    UsesExp (ESel m a) = UsesMem m × UsesExp a
    UsesExp (EReg r) = Unit {0}
    UsesExp ELeft = Unit {0}
    UsesExp (EVar n) = Unit {0}
    UsesExp (ELit w) = Unit {0}

    -- each operator of the memory is
    pub UsesMem : MemExp → Type 0
    UsesMem (MUpd m a v) = UsesMem m × UsesExp a × UsesExp v
    UsesMem MMem = Unit {0}
    UsesMem (MVar n) = Unit {0}

  -- each operator of the formula is
  abbrev pub Uses : Form → Type 0
  Uses FTrue = Unit {0}
  Uses FFalse = Unit {0}
  Uses (FRel r a b) = UsesExp a × UsesExp b
  Uses (FRd a) = UsesExp a
  Uses (FWr a) = UsesExp a
  Uses (FAnd A B) = Uses A × Uses B
  Uses (FOr A B) = Uses A × Uses B
  Uses (FImp A B) = Uses A × Uses B
  Uses (FAll A) = Uses A
  Uses (FAllm A) = Uses A
