-- Substitution keeps a formula over the variables of its context and over registers below a bound.
use Rattle.std.proofs.Common.{◌≡◌, ℕ, zero, suc, ◌<◌, Bool, false, Some, List, [], ◌∷◌, map, get_or, arith, one-add}
use Rattle.formula_tree.specs.Formulas.{Exp, EReg, ELeft, EVar, ELit, EOp, ESel, MemExp, MMem, MVar, MUpd, Form, FTrue, FFalse, FRel, FRd, FWr, FAnd, FOr, FImp, FAll, FAllm, shift_exp, shift_mem}
use Rattle.formula_tree.specs.Substitution.{Substitution, shift_substitution, subst_exp, subst_mem, subst_form}
use Rattle.formula_tree.specs.Scope.{VarSort, OfWord, OfMem, sort_at, IsWithinExp, IsWithinMem, IsOverExp, IsOverMem, IsOver, IsOverSubstitution}

mutual
  pub wider_exp : (l : Bool) (r : ℕ) (e : Exp) (G : List VarSort) (s : VarSort) → IsWithinExp l r e G → IsWithinExp l r (shift_exp 1 0 e) (s ∷ G)
  wider_exp l r (EReg k) G s h = h
  wider_exp l r ELeft G s h = h
  wider_exp l r (EVar n) G s h = rw one-add h
  wider_exp l r (ELit w) G s h = h
  wider_exp l r (EOp o a b) G s h = (wider_exp l r a G s h.0, wider_exp l r b G s h.1)
  wider_exp l r (ESel m a) G s h = (wider_mem l r m G s h.0, wider_exp l r a G s h.1)

  pub wider_mem : (l : Bool) (r : ℕ) (m : MemExp) (G : List VarSort) (s : VarSort) → IsWithinMem l r m G → IsWithinMem l r (shift_mem 1 0 m) (s ∷ G)
  wider_mem l r MMem G s h = h
  wider_mem l r (MVar n) G s h = rw one-add h
  wider_mem l r (MUpd m a v) G s h = (wider_mem l r m G s h.0, wider_exp l r a G s h.1, wider_exp l r v G s h.2)

-- H has the variables of G
abbrev pub Includes : List VarSort → List VarSort → Type 0
Includes G H = (n : ℕ) (s : VarSort) → sort_at G n ≡ Some s → sort_at H n ≡ Some s

includes_under : (G H : List VarSort) (t : VarSort) → Includes G H → Includes (t ∷ G) (t ∷ H)
includes_under G H t h zero s e = e
includes_under G H t h (suc n) s e = h n s e

regs_under : (r q : ℕ) (l : List Exp) (H : List VarSort) (t : VarSort) → ((k : ℕ) → k < r → IsOverExp q (get_or l k (ELit 0)) H) → (k : ℕ) → k < r → IsOverExp q (get_or (map (shift_exp 1 0) l) k (ELit 0)) (t ∷ H)
regs_under r q [] H t o k h = o k h
regs_under zero q (e ∷ l) H t o k h = absurd (omega (arith, h))
regs_under (suc r) q (e ∷ l) H t o zero h = wider_exp false q e H t (o zero h)
regs_under (suc r) q (e ∷ l) H t o (suc k) h = regs_under r q l H t (λ j g. o (suc j) (omega (arith, g))) k (omega (arith, h))

change_under : (r q : ℕ) (s : Substitution) (H : List VarSort) (t : VarSort) → IsOverSubstitution r q s H → IsOverSubstitution r q (shift_substitution 1 s) (t ∷ H)
change_under r q s H t o = record { regs = regs_under r q s.regs H t o.regs; memory = λ h. wider_mem false q s.memory H t (o.memory h) }

mutual
  pub scope-subst_exp : (r q : ℕ) (e : Exp) (s : Substitution) (G H : List VarSort) → IsOverExp r e G → Includes G H → IsOverSubstitution r q s H → IsOverExp q (subst_exp e s) H
  scope-subst_exp r q (EReg k) s G H h i o = o.regs k h
  scope-subst_exp r q ELeft s G H h i o = absurd h
  scope-subst_exp r q (EVar n) s G H h i o = i n OfWord h
  scope-subst_exp r q (ELit w) s G H h i o = h
  scope-subst_exp r q (EOp p a b) s G H h i o = (scope-subst_exp r q a s G H h.0 i o, scope-subst_exp r q b s G H h.1 i o)
  scope-subst_exp r q (ESel m a) s G H h i o = (scope-subst_mem r q m s G H h.0 i o, scope-subst_exp r q a s G H h.1 i o)

  pub scope-subst_mem : (r q : ℕ) (m : MemExp) (s : Substitution) (G H : List VarSort) → IsOverMem r m G → Includes G H → IsOverSubstitution r q s H → IsOverMem q (subst_mem m s) H
  scope-subst_mem r q MMem s G H h i o = o.memory h
  scope-subst_mem r q (MVar n) s G H h i o = i n OfMem h
  scope-subst_mem r q (MUpd m a v) s G H h i o = (scope-subst_mem r q m s G H h.0 i o, scope-subst_exp r q a s G H h.1 i o, scope-subst_exp r q v s G H h.2 i o)

pub scope-subst : (r q : ℕ) (F : Form) (s : Substitution) (G H : List VarSort) → IsOver r F G → Includes G H → IsOverSubstitution r q s H → IsOver q (subst_form F s) H
scope-subst r q FTrue s G H h i o = tt
scope-subst r q FFalse s G H h i o = tt
scope-subst r q (FRel p a b) s G H h i o = (scope-subst_exp r q a s G H h.0 i o, scope-subst_exp r q b s G H h.1 i o)
scope-subst r q (FRd a) s G H h i o = scope-subst_exp r q a s G H h i o
scope-subst r q (FWr a) s G H h i o = scope-subst_exp r q a s G H h i o
scope-subst r q (FAnd A B) s G H h i o = (scope-subst r q A s G H h.0 i o, scope-subst r q B s G H h.1 i o)
scope-subst r q (FOr A B) s G H h i o = (scope-subst r q A s G H h.0 i o, scope-subst r q B s G H h.1 i o)
scope-subst r q (FImp A B) s G H h i o = (scope-subst r q A s G H h.0 i o, scope-subst r q B s G H h.1 i o)
scope-subst r q (FAll A) s G H h i o = scope-subst r q A (shift_substitution 1 s) (OfWord ∷ G) (OfWord ∷ H) h (includes_under G H OfWord i) (change_under r q s H OfWord o)
scope-subst r q (FAllm A) s G H h i o = scope-subst r q A (shift_substitution 1 s) (OfMem ∷ G) (OfMem ∷ H) h (includes_under G H OfMem i) (change_under r q s H OfMem o)
