-- What holds of each operator holds of those of a formula.
use Rattle.word_ops.specs.declared.Op.{Op}
use Rattle.formula_tree.specs.Formulas.{Exp, EReg, ELeft, EVar, ELit, EOp, ESel, MemExp, MMem, MVar, MUpd, Form, FTrue, FFalse, FRel, FRd, FWr, FAnd, FOr, FImp, FAll, FAllm}
use Rattle.formula_tree.specs.Operators.{UsesExp, UsesMem, Uses}

module _ (P : Op → Type 0) (each : (o : Op) → P o) where
  mutual
    exp-any : (e : Exp) → UsesExp P e
    exp-any (EReg r) = tt
    exp-any ELeft = tt
    exp-any (EVar n) = tt
    exp-any (ELit w) = tt
    exp-any (EOp o a b) = (each o, exp-any a, exp-any b)
    exp-any (ESel m a) = (mem-any m, exp-any a)

    mem-any : (m : MemExp) → UsesMem P m
    mem-any MMem = tt
    mem-any (MVar n) = tt
    mem-any (MUpd m a v) = (mem-any m, exp-any a, exp-any v)

  pub uses-any : (F : Form) → Uses P F
  uses-any FTrue = tt
  uses-any FFalse = tt
  uses-any (FRel p a b) = (exp-any a, exp-any b)
  uses-any (FRd a) = exp-any a
  uses-any (FWr a) = exp-any a
  uses-any (FAnd A B) = (uses-any A, uses-any B)
  uses-any (FOr A B) = (uses-any A, uses-any B)
  uses-any (FImp A B) = (uses-any A, uses-any B)
  uses-any (FAll A) = uses-any A
  uses-any (FAllm A) = uses-any A
