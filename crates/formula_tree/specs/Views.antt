-- Formulas as they stand in memory, without the places of their boxes.
use Rattle.std.specs.Prelude.{List, map, take, slice_index_or}
use Rattle.formula_tree.specs.declared.exp.Exp as exp
use Rattle.formula_tree.specs.declared.exp.Exp.TheVariants as E
use Rattle.formula_tree.specs.declared.exp.MemExp as mem
use Rattle.formula_tree.specs.declared.exp.MemExp.TheVariants as M
use Rattle.formula_tree.specs.declared.form.Form as form
use Rattle.formula_tree.specs.declared.form.Form.TheVariants as F
use Rattle.formula_tree.specs.Formulas.{Exp, EReg, ELeft, EVar, ELit, EOp, ESel, MemExp, MMem, MVar, MUpd, Form, FTrue, FFalse, FRel, FRd, FWr, FAnd, FOr, FImp, FAll, FAllm}
use Rattle.formula_tree.specs.Substitution.{Substitution}

abbrev mutual
  pub exp_view : exp.Exp → Exp
  exp_view (E.Reg r) = EReg r
  exp_view E.Left = ELeft
  exp_view (E.Var n) = EVar n
  exp_view (E.Lit w) = ELit w
  exp_view (E.Oper' o p a q b) = EOp o (exp_view a) (exp_view b)
  exp_view (E.Sel' p m q a) = ESel (mem_exp_view m) (exp_view a)

  pub mem_exp_view : mem.MemExp → MemExp
  mem_exp_view M.Mem = MMem
  mem_exp_view (M.Var n) = MVar n
  mem_exp_view (M.Upd' p m q a r v) = MUpd (mem_exp_view m) (exp_view a) (exp_view v)

-- a formula without the places of its boxes
abbrev pub form_view : form.Form → Form
form_view F.True = FTrue
form_view F.False = FFalse
form_view (F.Rel p a b) = FRel p (exp_view a) (exp_view b)
form_view (F.Rd a) = FRd (exp_view a)
form_view (F.Wr a) = FWr (exp_view a)
form_view (F.And' p a q b) = FAnd (form_view a) (form_view b)
form_view (F.Or' p a q b) = FOr (form_view a) (form_view b)
form_view (F.Imp' p a q b) = FImp (form_view a) (form_view b)
form_view (F.All' p a) = FAll (form_view a)
form_view (F.Allm' p a) = FAllm (form_view a)

-- The first 31 expressions for r0 to r30, the one behind them for the steps that are left, which stay
-- where there is none, and this memory for m.
abbrev pub substitution_of : List exp.Exp → mem.MemExp → Substitution
substitution_of es m = record { regs = map exp_view (take 31 es); memory = mem_exp_view m; left = slice_index_or (map exp_view es) 31 ELeft }
