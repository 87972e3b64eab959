-- Substitution in formulas that may name registers, m and the steps that are left.
use Rattle.std.proofs.Common.{ℕ, zero, suc, ◌<◌, Bool, T, List, [], ◌∷◌, map, get_or, arith}
use Rattle.formula_tree.specs.Formulas.{Exp, EReg, ELeft, EVar, ELit, EOp, ESel, MemExp, MMem, MVar, MUpd, Form, FTrue, FFalse, FRel, FRd, FWr, FAnd, FOr, FImp, FAll, FAllm, shift_exp}
use Rattle.formula_tree.specs.Substitution.{Substitution, shift_substitution, subst_exp, subst_mem, subst_form}
use Rattle.formula_tree.specs.Scope.{VarSort, OfWord, OfMem, IsWithinExp, IsWithinMem, IsWithin, IsOverExp, IsOverMem, IsOver}
use Rattle.formula_tree.proofs.Scopes.{wider_exp, wider_mem}

-- what is put for registers, m and, where they may be named, the steps that are left names no more
pub record Puts (l : Bool) (s : Substitution) (G : List VarSort) : Type 0 where
  pub regs : (k : ℕ) → k < 32 → IsWithinExp l 32 (get_or s.regs k (ELit 0)) G
  pub memory : IsWithinMem l 32 s.memory G
  pub left : T l → IsWithinExp l 32 s.left G

module _ (l : Bool) where
  regs-under : (r : ℕ) (es : List Exp) (G : List VarSort) (t : VarSort) → ((k : ℕ) → k < r → IsWithinExp l 32 (get_or es k (ELit 0)) G)
      → (k : ℕ) → k < r → IsWithinExp l 32 (get_or (map (shift_exp 1 0) es) k (ELit 0)) (t ∷ G)
  regs-under r [] G t o k h = o k h
  regs-under zero (e ∷ es) G t o k h = absurd (omega (arith, h))
  regs-under (suc r) (e ∷ es) G t o zero h = wider_exp l 32 e G t (o zero h)
  regs-under (suc r) (e ∷ es) G t o (suc k) h = regs-under r es G t (λ j g. o (suc j) (omega (arith, g))) k (omega (arith, h))

  puts-under : (s : Substitution) (G : List VarSort) (t : VarSort) → Puts l s G → Puts l (shift_substitution 1 s) (t ∷ G)
  puts-under s G t o = record {
    regs = regs-under 32 s.regs G t o.regs;
    memory = wider_mem l 32 s.memory G t o.memory;
    left = λ h. wider_exp l 32 s.left G t (o.left h);
  }

  mutual
    exp-within : (e : Exp) (s : Substitution) (G : List VarSort) → IsWithinExp l 32 e G → Puts l s G → IsWithinExp l 32 (subst_exp e s) G
    exp-within (EReg k) s G h o = o.regs k h
    exp-within ELeft s G h o = o.left h
    exp-within (EVar n) s G h o = h
    exp-within (ELit w) s G h o = h
    exp-within (EOp p a b) s G h o = (exp-within a s G h.0 o, exp-within b s G h.1 o)
    exp-within (ESel m a) s G h o = (mem-within m s G h.0 o, exp-within a s G h.1 o)

    mem-within : (m : MemExp) (s : Substitution) (G : List VarSort) → IsWithinMem l 32 m G → Puts l s G → IsWithinMem l 32 (subst_mem m s) G
    mem-within MMem s G h o = o.memory
    mem-within (MVar n) s G h o = h
    mem-within (MUpd m a v) s G h o = (mem-within m s G h.0 o, exp-within a s G h.1 o, exp-within v s G h.2 o)

  pub subst-within : (F : Form) (s : Substitution) (G : List VarSort) → IsWithin l 32 F G → Puts l s G → IsWithin l 32 (subst_form F s) G
  subst-within FTrue s G h o = tt
  subst-within FFalse s G h o = tt
  subst-within (FRel p a b) s G h o = (exp-within a s G h.0 o, exp-within b s G h.1 o)
  subst-within (FRd a) s G h o = exp-within a s G h o
  subst-within (FWr a) s G h o = exp-within a s G h o
  subst-within (FAnd A B) s G h o = (subst-within A s G h.0 o, subst-within B s G h.1 o)
  subst-within (FOr A B) s G h o = (subst-within A s G h.0 o, subst-within B s G h.1 o)
  subst-within (FImp A B) s G h o = (subst-within A s G h.0 o, subst-within B s G h.1 o)
  subst-within (FAll A) s G h o = subst-within A (shift_substitution 1 s) (OfWord ∷ G) h (puts-under s G OfWord o)
  subst-within (FAllm A) s G h o = subst-within A (shift_substitution 1 s) (OfMem ∷ G) h (puts-under s G OfMem o)

  -- ---- what doesn't name the steps that are left may stand where they may be named

  mutual
    exp-more : (r : ℕ) (e : Exp) (G : List VarSort) → IsOverExp r e G → IsWithinExp l r e G
    exp-more r (EReg k) G h = h
    exp-more r ELeft G h = absurd h
    exp-more r (EVar n) G h = h
    exp-more r (ELit w) G h = h
    exp-more r (EOp p a b) G h = (exp-more r a G h.0, exp-more r b G h.1)
    exp-more r (ESel m a) G h = (mem-more r m G h.0, exp-more r a G h.1)

    mem-more : (r : ℕ) (m : MemExp) (G : List VarSort) → IsOverMem r m G → IsWithinMem l r m G
    mem-more r MMem G h = h
    mem-more r (MVar n) G h = h
    mem-more r (MUpd m a v) G h = (mem-more r m G h.0, exp-more r a G h.1, exp-more r v G h.2)

  pub within-more : (r : ℕ) (F : Form) (G : List VarSort) → IsOver r F G → IsWithin l r F G
  within-more r FTrue G h = h
  within-more r FFalse G h = h
  within-more r (FRel p a b) G h = (exp-more r a G h.0, exp-more r b G h.1)
  within-more r (FRd a) G h = exp-more r a G h
  within-more r (FWr a) G h = exp-more r a G h
  within-more r (FAnd A B) G h = (within-more r A G h.0, within-more r B G h.1)
  within-more r (FOr A B) G h = (within-more r A G h.0, within-more r B G h.1)
  within-more r (FImp A B) G h = (within-more r A G h.0, within-more r B G h.1)
  within-more r (FAll A) G h = within-more r A (OfWord ∷ G) h
  within-more r (FAllm A) G h = within-more r A (OfMem ∷ G) h
