-- A formula over a context says nothing of the steps that are left.
use Rattle.std.proofs.Common.{◌≡◌, ℕ, ◌<◌, ◌^◌, true, List, ◌∷◌, refl, subst}
use Rattle.word_ops.specs.Words.{word_of, test_of}
use Rattle.word_ops.specs.Memory.{Memory, read, write, IsMemory}
use Rattle.word_ops.specs.Rights.{Rights, allowed}
use Rattle.formula_tree.specs.Formulas.{Exp, EReg, ELeft, EVar, ELit, EOp, ESel, MemExp, MMem, MVar, MUpd, Form, FTrue, FFalse, FRel, FRd, FWr, FAnd, FOr, FImp, FAll, FAllm}
use Rattle.formula_tree.specs.Scope.{VarSort, OfWord, OfMem, IsOverExp, IsOverMem, IsOver}
use Rattle.formula_tree.specs.Truth.{Valuation, Bound, BWord, BMem, exp_value, mem_value, IsTrueIn}

mutual
  exp_value-left : (r : ℕ) (e : Exp) (G : List VarSort) (v : Valuation) (n : ℕ) (ρ : List Bound) → IsOverExp r e G → exp_value e v ρ ≡ exp_value e (record v { left = n }) ρ
  exp_value-left r (EReg k) G v n ρ o = refl
  exp_value-left r ELeft G v n ρ o = absurd o
  exp_value-left r (EVar k) G v n ρ o = refl
  exp_value-left r (ELit w) G v n ρ o = refl
  exp_value-left r (EOp p a b) G v n ρ o = λ i. word_of p (exp_value-left r a G v n ρ o.0 i) (exp_value-left r b G v n ρ o.1 i)
  exp_value-left r (ESel m a) G v n ρ o = λ i. read (mem_value-left r m G v n ρ o.0 i) (exp_value-left r a G v n ρ o.1 i)

  mem_value-left : (r : ℕ) (m : MemExp) (G : List VarSort) (v : Valuation) (n : ℕ) (ρ : List Bound) → IsOverMem r m G → mem_value m v ρ ≡ mem_value m (record v { left = n }) ρ
  mem_value-left r MMem G v n ρ o = refl
  mem_value-left r (MVar k) G v n ρ o = refl
  mem_value-left r (MUpd m a e) G v n ρ o = λ i. write (mem_value-left r m G v n ρ o.0 i) (exp_value-left r a G v n ρ o.1 i) (exp_value-left r e G v n ρ o.2 i)

same-left : (R : Rights) (r : ℕ) (F : Form) (G : List VarSort) (v : Valuation) (n : ℕ) (ρ : List Bound) → IsOver r F G → IsTrueIn R F v ρ ≡ IsTrueIn R F (record v { left = n }) ρ
same-left R r FTrue G v n ρ o = refl
same-left R r FFalse G v n ρ o = refl
same-left R r (FRel p a b) G v n ρ o = λ i. test_of p (exp_value-left r a G v n ρ o.0 i) (exp_value-left r b G v n ρ o.1 i) ≡ true
same-left R r (FRd a) G v n ρ o = λ i. allowed R.reads (exp_value-left r a G v n ρ o i) ≡ true
same-left R r (FWr a) G v n ρ o = λ i. allowed R.writes (exp_value-left r a G v n ρ o i) ≡ true
same-left R r (FAnd A B) G v n ρ o = λ i. same-left R r A G v n ρ o.0 i × same-left R r B G v n ρ o.1 i
same-left R r (FOr A B) G v n ρ o = λ i. (same-left R r A G v n ρ o.0 i → ⊥) → (same-left R r B G v n ρ o.1 i → ⊥) → ⊥
same-left R r (FImp A B) G v n ρ o = λ i. same-left R r A G v n ρ o.0 i → same-left R r B G v n ρ o.1 i
same-left R r (FAll A) G v n ρ o = λ i. (x : ℕ) → x < 2 ^ 64 → same-left R r A (OfWord ∷ G) v n (BWord x ∷ ρ) o i
same-left R r (FAllm A) G v n ρ o = λ i. (m : Memory) → IsMemory m → same-left R r A (OfMem ∷ G) v n (BMem m ∷ ρ) o i

pub true-left : (R : Rights) (r : ℕ) (F : Form) (G : List VarSort) (v : Valuation) (n : ℕ) (ρ : List Bound) → IsOver r F G → IsTrueIn R F v ρ → IsTrueIn R F (record v { left = n }) ρ
true-left R r F G v n ρ o t = subst (λ (X : Type 0). X) (same-left R r F G v n ρ o) t
