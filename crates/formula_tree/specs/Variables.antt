-- Substitution of an expression or a memory for one variable of a context; the others are named as in the context without it. No variable is captured.
use Rattle.std.specs.Prelude.{ℕ, suc}
use Rattle.term_table.specs.Tree.{Spot, Here, Other, spot}
use Rattle.formula_tree.specs.Formulas.{Exp, EReg, ELeft, EVar, ELit, EOp, ESel, MemExp, MMem, MVar, MUpd, Form, FTrue, FFalse, FRel, FRd, FWr, FAnd, FOr, FImp, FAll, FAllm, shift_exp, shift_mem}

-- what is put for a variable
pub data Part : Type 0 where
  PExp : Exp → Part
  PMem : MemExp → Part

-- the same once k binders more stand outside
abbrev pub shift_part : ℕ → Part → Part
shift_part k (PExp e) = PExp (shift_exp k 0 e)
shift_part k (PMem m) = PMem (shift_mem k 0 m)

-- A word variable; a memory in its place, which no context allows, is read as 0.
abbrev pub exp_at : Part → Spot → Exp
exp_at (PExp e) Here = e
exp_at (PMem m) Here = ELit 0
exp_at p (Other k) = EVar k

-- A memory variable; an expression in its place, which no context allows, is read as m.
abbrev pub mem_at : Part → Spot → MemExp
mem_at (PExp e) Here = MMem
mem_at (PMem m) Here = m
mem_at p (Other k) = MVar k

-- the part p for the variable x
abbrev mutual
  pub subst_var_exp : Exp → ℕ → Part → Exp
  subst_var_exp (EReg r) x p = EReg r
  subst_var_exp ELeft x p = ELeft
  subst_var_exp (EVar n) x p = exp_at p (spot x n)
  subst_var_exp (ELit w) x p = ELit w
  subst_var_exp (EOp o a b) x p = EOp o (subst_var_exp a x p) (subst_var_exp b x p)
  subst_var_exp (ESel m a) x p = ESel (subst_var_mem m x p) (subst_var_exp a x p)

  pub subst_var_mem : MemExp → ℕ → Part → MemExp
  subst_var_mem MMem x p = MMem
  subst_var_mem (MVar n) x p = mem_at p (spot x n)
  subst_var_mem (MUpd m a v) x p = MUpd (subst_var_mem m x p) (subst_var_exp a x p) (subst_var_exp v x p)

-- the same in a formula
abbrev pub subst_var : Form → ℕ → Part → Form
subst_var FTrue x p = FTrue
subst_var FFalse x p = FFalse
subst_var (FRel q a b) x p = FRel q (subst_var_exp a x p) (subst_var_exp b x p)
subst_var (FRd a) x p = FRd (subst_var_exp a x p)
subst_var (FWr a) x p = FWr (subst_var_exp a x p)
subst_var (FAnd A B) x p = FAnd (subst_var A x p) (subst_var B x p)
subst_var (FOr A B) x p = FOr (subst_var A x p) (subst_var B x p)
subst_var (FImp A B) x p = FImp (subst_var A x p) (subst_var B x p)
subst_var (FAll A) x p = FAll (subst_var A (suc x) (shift_part 1 p))
subst_var (FAllm A) x p = FAllm (subst_var A (suc x) (shift_part 1 p))
