-- Simultaneous substitution for the registers, the memory m and the steps that are left. No variable is captured.
use Rattle.std.specs.Prelude.{ℕ, List, map, slice_index_or}
use Rattle.formula_tree.specs.Formulas.{Exp, EReg, ELeft, EVar, ELit, EOp, ESel, MemExp, MMem, MVar, MUpd, Form, FTrue, FFalse, FRel, FRd, FWr, FAnd, FOr, FImp, FAll, FAllm, shift_exp, shift_mem}

-- what is put for r0 to r30, in this order, for m, and for the steps that are left
pub record Substitution : Type 0 where
  pub regs : List Exp
  pub memory : MemExp
  pub left : Exp

-- the same once k binders more stand outside
abbrev pub shift_substitution : ℕ → Substitution → Substitution
shift_substitution k s = record { regs = map (shift_exp k 0) s.regs; memory = shift_mem k 0 s.memory; left = shift_exp k 0 s.left }

-- Register 31 is the literal 0: nothing is put for it, whatever is given.
abbrev mutual
  pub subst_exp : Exp → Substitution → Exp
  subst_exp (EReg r) s = slice_index_or s.regs r (ELit 0)
  subst_exp ELeft s = s.left
  subst_exp (EVar n) s = EVar n
  subst_exp (ELit w) s = ELit w
  subst_exp (EOp o a b) s = EOp o (subst_exp a s) (subst_exp b s)
  subst_exp (ESel m a) s = ESel (subst_mem m s) (subst_exp a s)

  pub subst_mem : MemExp → Substitution → MemExp
  subst_mem MMem s = s.memory
  subst_mem (MVar n) s = MVar n
  subst_mem (MUpd m a v) s = MUpd (subst_mem m s) (subst_exp a s) (subst_exp v s)

-- Under a binder what is put is shifted by one.
abbrev pub subst_form : Form → Substitution → Form
subst_form FTrue s = FTrue
subst_form FFalse s = FFalse
subst_form (FRel p a b) s = FRel p (subst_exp a s) (subst_exp b s)
subst_form (FRd a) s = FRd (subst_exp a s)
subst_form (FWr a) s = FWr (subst_exp a s)
subst_form (FAnd A B) s = FAnd (subst_form A s) (subst_form B s)
subst_form (FOr A B) s = FOr (subst_form A s) (subst_form B s)
subst_form (FImp A B) s = FImp (subst_form A s) (subst_form B s)
subst_form (FAll A) s = FAll (subst_form A (shift_substitution 1 s))
subst_form (FAllm A) s = FAllm (subst_form A (shift_substitution 1 s))
