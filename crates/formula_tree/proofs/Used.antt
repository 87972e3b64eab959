-- Substitution keeps formulas whose operators are among some.
use Rattle.std.proofs.Common.{ℕ, zero, suc, List, [], ◌∷◌, map, get_or, set}
use Rattle.word_ops.specs.declared.Op.{Op}
use Rattle.formula_tree.specs.Formulas.{Exp, EReg, ELeft, EVar, ELit, EOp, ESel, MemExp, MMem, MVar, MUpd, Form, FTrue, FFalse, FRel, FRd, FWr, FAnd, FOr, FImp, FAll, FAllm, shift_exp, shift_mem}
use Rattle.formula_tree.specs.Substitution.{Substitution, shift_substitution, subst_exp, subst_mem, subst_form}
use Rattle.formula_tree.specs.Operators.{UsesExp, UsesMem, Uses}

-- among more
module _ (P Q : Op → Type 0) (more : (o : Op) → P o → Q o) where
  mutual
    exp-more : (e : Exp) → UsesExp P e → UsesExp Q e
    exp-more (EReg r) h = tt
    exp-more ELeft h = tt
    exp-more (EVar n) h = tt
    exp-more (ELit w) h = tt
    exp-more (EOp o a b) h = (more o h.0, exp-more a h.1, exp-more b h.2)
    exp-more (ESel m a) h = (mem-more m h.0, exp-more a h.1)

    mem-more : (m : MemExp) → UsesMem P m → UsesMem Q m
    mem-more MMem h = tt
    mem-more (MVar n) h = tt
    mem-more (MUpd m a v) h = (mem-more m h.0, exp-more a h.1, exp-more v h.2)

  pub uses-more : (F : Form) → Uses P F → Uses Q F
  uses-more FTrue h = tt
  uses-more FFalse h = tt
  uses-more (FRel p a b) h = (exp-more a h.0, exp-more b h.1)
  uses-more (FRd a) h = exp-more a h
  uses-more (FWr a) h = exp-more a h
  uses-more (FAnd A B) h = (uses-more A h.0, uses-more B h.1)
  uses-more (FOr A B) h = (uses-more A h.0, uses-more B h.1)
  uses-more (FImp A B) h = (uses-more A h.0, uses-more B h.1)
  uses-more (FAll A) h = uses-more A h
  uses-more (FAllm A) h = uses-more A h

module _ (P : Op → Type 0) where
  mutual
    shift_exp-uses : (k c : ℕ) (e : Exp) → UsesExp P e → UsesExp P (shift_exp k c e)
    shift_exp-uses k c (EReg r) h = tt
    shift_exp-uses k c ELeft h = tt
    shift_exp-uses k c (EVar n) h = tt
    shift_exp-uses k c (ELit w) h = tt
    shift_exp-uses k c (EOp o a b) h = (h.0, shift_exp-uses k c a h.1, shift_exp-uses k c b h.2)
    shift_exp-uses k c (ESel m a) h = (shift_mem-uses k c m h.0, shift_exp-uses k c a h.1)

    shift_mem-uses : (k c : ℕ) (m : MemExp) → UsesMem P m → UsesMem P (shift_mem k c m)
    shift_mem-uses k c MMem h = tt
    shift_mem-uses k c (MVar n) h = tt
    shift_mem-uses k c (MUpd m a v) h = (shift_mem-uses k c m h.0, shift_exp-uses k c a h.1, shift_exp-uses k c v h.2)

  -- the operators of each expression are these
  abbrev pub AllUse : List Exp → Type 0
  AllUse [] = Unit {0}
  AllUse (e ∷ l) = UsesExp P e × AllUse l

  all-shifted : (l : List Exp) → AllUse l → AllUse (map (shift_exp 1 0) l)
  all-shifted [] h = tt
  all-shifted (e ∷ l) h = (shift_exp-uses 1 0 e h.0, all-shifted l h.1)

  all-at : (l : List Exp) (k : ℕ) → AllUse l → UsesExp P (get_or l k (ELit 0))
  all-at [] k h = tt
  all-at (e ∷ l) zero h = h.0
  all-at (e ∷ l) (suc k) h = all-at l k h.1

  pub all-set : (l : List Exp) (k : ℕ) (e : Exp) → AllUse l → UsesExp P e → AllUse (set l k e)
  all-set [] k e h u = tt
  all-set (x ∷ l) zero e h u = (u, h.1)
  all-set (x ∷ l) (suc k) e h u = (h.0, all-set l k e h.1 u)

  -- the operators of what is put are these
  pub record PutsIn (s : Substitution) : Type 0 where
    pub regs : AllUse s.regs
    pub memory : UsesMem P s.memory
    pub left : UsesExp P s.left

  shifted : (s : Substitution) → PutsIn s → PutsIn (shift_substitution 1 s)
  shifted s h = record { regs = all-shifted s.regs h.regs; memory = shift_mem-uses 1 0 s.memory h.memory; left = shift_exp-uses 1 0 s.left h.left }

  mutual
    subst_exp-uses : (e : Exp) (s : Substitution) → UsesExp P e → PutsIn s → UsesExp P (subst_exp e s)
    subst_exp-uses (EReg r) s h p = all-at s.regs r p.regs
    subst_exp-uses ELeft s h p = p.left
    subst_exp-uses (EVar n) s h p = tt
    subst_exp-uses (ELit w) s h p = tt
    subst_exp-uses (EOp o a b) s h p = (h.0, subst_exp-uses a s h.1 p, subst_exp-uses b s h.2 p)
    subst_exp-uses (ESel m a) s h p = (subst_mem-uses m s h.0 p, subst_exp-uses a s h.1 p)

    subst_mem-uses : (m : MemExp) (s : Substitution) → UsesMem P m → PutsIn s → UsesMem P (subst_mem m s)
    subst_mem-uses MMem s h p = p.memory
    subst_mem-uses (MVar n) s h p = tt
    subst_mem-uses (MUpd m a v) s h p = (subst_mem-uses m s h.0 p, subst_exp-uses a s h.1 p, subst_exp-uses v s h.2 p)

  pub subst_form-uses : (F : Form) (s : Substitution) → Uses P F → PutsIn s → Uses P (subst_form F s)
  subst_form-uses FTrue s h p = tt
  subst_form-uses FFalse s h p = tt
  subst_form-uses (FRel r a b) s h p = (subst_exp-uses a s h.0 p, subst_exp-uses b s h.1 p)
  subst_form-uses (FRd a) s h p = subst_exp-uses a s h p
  subst_form-uses (FWr a) s h p = subst_exp-uses a s h p
  subst_form-uses (FAnd A B) s h p = (subst_form-uses A s h.0 p, subst_form-uses B s h.1 p)
  subst_form-uses (FOr A B) s h p = (subst_form-uses A s h.0 p, subst_form-uses B s h.1 p)
  subst_form-uses (FImp A B) s h p = (subst_form-uses A s h.0 p, subst_form-uses B s h.1 p)
  subst_form-uses (FAll A) s h p = subst_form-uses A (shift_substitution 1 s) h (shifted s p)
  subst_form-uses (FAllm A) s h p = subst_form-uses A (shift_substitution 1 s) h (shifted s p)
