-- Truth and scope of a formula in which an expression or a memory was put for one variable.
use Rattle.std.proofs.Common.{◌≡◌, ℕ, zero, suc, ◌<◌, ◌^◌, Bool, true, Option, Some, List, [], ◌∷◌, ◌++◌, length, refl, sym, ◌∙◌, ap, arith, ◌↔◌}
use Rattle.word_ops.specs.Words.{word_of, test_of}
use Rattle.word_ops.specs.Memory.{Memory, read, write, IsMemory}
use Rattle.word_ops.specs.Rights.{Rights, allowed}
use Rattle.formula_tree.specs.Formulas.{Exp, EReg, ELeft, EVar, ELit, EOp, ESel, MemExp, MMem, MVar, MUpd, Form, FTrue, FFalse, FRel, FRd, FWr, FAnd, FOr, FImp, FAll, FAllm}
use Rattle.formula_tree.specs.Variables.{Part, PExp, PMem, shift_part, exp_at, mem_at, subst_var_exp, subst_var_mem, subst_var}
use Rattle.term_table.specs.Tree.{Spot, Here, Other, later, spot}
use Rattle.formula_tree.specs.Scope.{VarSort, OfWord, OfMem, sort_at, IsWithinExp, IsWithinMem, IsWithin, IsOverExp, IsOverMem, IsOver, part_sort, IsWithinPart}
use Rattle.formula_tree.specs.Truth.{Valuation, Bound, BWord, BMem, bound_at, bound_word, bound_memory, exp_value, mem_value, IsTrueIn, part_value}
use Rattle.formula_tree.proofs.Meaning.{both_ways, exp_value-shift, mem_value-shift, one_wider}
use Rattle.formula_tree.proofs.Scopes.{wider_exp, wider_mem}

-- the sort and the value of a variable, where one is taken out
abbrev sort_by : VarSort → List VarSort → Spot → Option VarSort
sort_by s G Here = Some s
sort_by s G (Other k) = sort_at G k

abbrev bound_by : Bound → List Bound → Spot → Bound
bound_by b ρ Here = b
bound_by b ρ (Other k) = bound_at ρ k

sort-later : (s t : VarSort) (G : List VarSort) (x : Spot) → sort_by s G x ≡ sort_by s (t ∷ G) (later x)
sort-later s t G Here = refl
sort-later s t G (Other k) = refl

bound-later : (b c : Bound) (ρ : List Bound) (x : Spot) → bound_by b ρ x ≡ bound_by b (c ∷ ρ) (later x)
bound-later b c ρ Here = refl
bound-later b c ρ (Other k) = refl

sort-spot : (G H : List VarSort) (s : VarSort) (n : ℕ) → sort_at (G ++ s ∷ H) n ≡ sort_by s (G ++ H) (spot (length G) n)
sort-spot [] H s zero = refl
sort-spot [] H s (suc n) = refl
sort-spot (t ∷ G) H s zero = refl
sort-spot (t ∷ G) H s (suc n) = sort-spot G H s n ∙ sort-later s t (G ++ H) (spot (length G) n)

bound-spot : (ρ σ : List Bound) (b : Bound) (n : ℕ) → bound_at (ρ ++ b ∷ σ) n ≡ bound_by b (ρ ++ σ) (spot (length ρ) n)
bound-spot [] σ b zero = refl
bound-spot [] σ b (suc n) = refl
bound-spot (c ∷ ρ) σ b zero = refl
bound-spot (c ∷ ρ) σ b (suc n) = bound-spot ρ σ b n ∙ bound-later b c (ρ ++ σ) (spot (length ρ) n)

exp_at-value : (p : Part) (x : Spot) (s : VarSort) (G : List VarSort) (v : Valuation) (ρ : List Bound) → part_sort p ≡ s → sort_by s G x ≡ Some OfWord → exp_value (exp_at p x) v ρ ≡ bound_word (bound_by (part_value p v ρ) ρ x)
exp_at-value (PExp e) Here s G v ρ t q = refl
exp_at-value (PMem m) Here s G v ρ t q = refl
exp_at-value (PExp e) (Other k) s G v ρ t q = refl
exp_at-value (PMem m) (Other k) s G v ρ t q = refl

mem_at-value : (p : Part) (x : Spot) (s : VarSort) (G : List VarSort) (v : Valuation) (ρ : List Bound) → part_sort p ≡ s → sort_by s G x ≡ Some OfMem → mem_value (mem_at p x) v ρ ≡ bound_memory (bound_by (part_value p v ρ) ρ x)
mem_at-value (PExp e) Here s G v ρ t q = cc
mem_at-value (PMem m) Here s G v ρ t q = refl
mem_at-value (PExp e) (Other k) s G v ρ t q = refl
mem_at-value (PMem m) (Other k) s G v ρ t q = refl

mutual
  exp_value-var : (e : Exp) (r : ℕ) (p : Part) (s : VarSort) (G H : List VarSort) (v : Valuation) (ρ σ : List Bound) → part_sort p ≡ s → length ρ ≡ length G → IsOverExp r e (G ++ s ∷ H) → exp_value (subst_var_exp e (length G) p) v (ρ ++ σ) ≡ exp_value e v (ρ ++ part_value p v (ρ ++ σ) ∷ σ)
  exp_value-var (EReg k) r p s G H v ρ σ t l o = refl
  exp_value-var ELeft r p s G H v ρ σ t l o = refl
  exp_value-var (EVar n) r p s G H v ρ σ t l o =
      exp_at-value p (spot (length G) n) s (G ++ H) v (ρ ++ σ) t (sym (sort-spot G H s n) ∙ o)
      ∙ ap (λ x. bound_word (bound_by (part_value p v (ρ ++ σ)) (ρ ++ σ) (spot x n))) (sym l)
      ∙ ap bound_word (sym (bound-spot ρ σ (part_value p v (ρ ++ σ)) n))
  exp_value-var (ELit w) r p s G H v ρ σ t l o = refl
  exp_value-var (EOp q a b) r p s G H v ρ σ t l o = λ i. word_of q (exp_value-var a r p s G H v ρ σ t l o.0 i) (exp_value-var b r p s G H v ρ σ t l o.1 i)
  exp_value-var (ESel m a) r p s G H v ρ σ t l o = λ i. read (mem_value-var m r p s G H v ρ σ t l o.0 i) (exp_value-var a r p s G H v ρ σ t l o.1 i)

  mem_value-var : (m : MemExp) (r : ℕ) (p : Part) (s : VarSort) (G H : List VarSort) (v : Valuation) (ρ σ : List Bound) → part_sort p ≡ s → length ρ ≡ length G → IsOverMem r m (G ++ s ∷ H) → mem_value (subst_var_mem m (length G) p) v (ρ ++ σ) ≡ mem_value m v (ρ ++ part_value p v (ρ ++ σ) ∷ σ)
  mem_value-var MMem r p s G H v ρ σ t l o = refl
  mem_value-var (MVar n) r p s G H v ρ σ t l o =
      mem_at-value p (spot (length G) n) s (G ++ H) v (ρ ++ σ) t (sym (sort-spot G H s n) ∙ o)
      ∙ ap (λ x. bound_memory (bound_by (part_value p v (ρ ++ σ)) (ρ ++ σ) (spot x n))) (sym l)
      ∙ ap bound_memory (sym (bound-spot ρ σ (part_value p v (ρ ++ σ)) n))
  mem_value-var (MUpd m a e) r p s G H v ρ σ t l o = λ i. write (mem_value-var m r p s G H v ρ σ t l o.0 i) (exp_value-var a r p s G H v ρ σ t l o.1 i) (exp_value-var e r p s G H v ρ σ t l o.2 i)

part-under : (p : Part) (v : Valuation) (b : Bound) (ρ : List Bound) → part_value (shift_part 1 p) v (b ∷ ρ) ≡ part_value p v ρ
part-under (PExp e) v b ρ = ap BWord (exp_value-shift e v 1 0 ρ (b ∷ ρ) (one_wider b ρ))
part-under (PMem m) v b ρ = ap BMem (mem_value-shift m v 1 0 ρ (b ∷ ρ) (one_wider b ρ))

sort-under : (p : Part) (s : VarSort) → part_sort p ≡ s → part_sort (shift_part 1 p) ≡ s
sort-under (PExp e) s t = t
sort-under (PMem m) s t = t

true-var : (R : Rights) (F : Form) (r : ℕ) (p : Part) (s : VarSort) (G H : List VarSort) (v : Valuation) (ρ σ : List Bound) → part_sort p ≡ s → length ρ ≡ length G → IsOver r F (G ++ s ∷ H) → IsTrueIn R (subst_var F (length G) p) v (ρ ++ σ) ≡ IsTrueIn R F v (ρ ++ part_value p v (ρ ++ σ) ∷ σ)
true-var R FTrue r p s G H v ρ σ t l o = refl
true-var R FFalse r p s G H v ρ σ t l o = refl
true-var R (FRel q a b) r p s G H v ρ σ t l o = λ i. test_of q (exp_value-var a r p s G H v ρ σ t l o.0 i) (exp_value-var b r p s G H v ρ σ t l o.1 i) ≡ true
true-var R (FRd a) r p s G H v ρ σ t l o = λ i. allowed R.reads (exp_value-var a r p s G H v ρ σ t l o i) ≡ true
true-var R (FWr a) r p s G H v ρ σ t l o = λ i. allowed R.writes (exp_value-var a r p s G H v ρ σ t l o i) ≡ true
true-var R (FAnd A B) r p s G H v ρ σ t l o = λ i. true-var R A r p s G H v ρ σ t l o.0 i × true-var R B r p s G H v ρ σ t l o.1 i
true-var R (FOr A B) r p s G H v ρ σ t l o = λ i. (true-var R A r p s G H v ρ σ t l o.0 i → ⊥) → (true-var R B r p s G H v ρ σ t l o.1 i → ⊥) → ⊥
true-var R (FImp A B) r p s G H v ρ σ t l o = λ i. true-var R A r p s G H v ρ σ t l o.0 i → true-var R B r p s G H v ρ σ t l o.1 i
true-var R (FAll A) r p s G H v ρ σ t l o = λ i. (w : ℕ) → w < 2 ^ 64 → (true-var R A r (shift_part 1 p) s (OfWord ∷ G) H v (BWord w ∷ ρ) σ (sort-under p s t) (ap suc l) o ∙ ap (λ b. IsTrueIn R A v (BWord w ∷ ρ ++ b ∷ σ)) (part-under p v (BWord w) (ρ ++ σ))) i
true-var R (FAllm A) r p s G H v ρ σ t l o = λ i. (m : Memory) → IsMemory m → (true-var R A r (shift_part 1 p) s (OfMem ∷ G) H v (BMem m ∷ ρ) σ (sort-under p s t) (ap suc l) o ∙ ap (λ b. IsTrueIn R A v (BMem m ∷ ρ ++ b ∷ σ)) (part-under p v (BMem m) (ρ ++ σ))) i

pub var-truth : (R : Rights) (F : Form) (r : ℕ) (p : Part) (G H : List VarSort) (v : Valuation) (ρ σ : List Bound) → length ρ ≡ length G → IsOver r F (G ++ part_sort p ∷ H) → IsTrueIn R (subst_var F (length G) p) v (ρ ++ σ) ↔ IsTrueIn R F v (ρ ++ part_value p v (ρ ++ σ) ∷ σ)
var-truth R F r p G H v ρ σ l o = both_ways (IsTrueIn R (subst_var F (length G) p) v (ρ ++ σ)) (IsTrueIn R F v (ρ ++ part_value p v (ρ ++ σ) ∷ σ)) (true-var R F r p (part_sort p) G H v ρ σ refl l o)

-- the scope
exp_at-over : (l : Bool) (p : Part) (x : Spot) (r : ℕ) (s : VarSort) (G : List VarSort) → part_sort p ≡ s → sort_by s G x ≡ Some OfWord → IsWithinPart l r p G → IsWithinExp l r (exp_at p x) G
exp_at-over l (PExp e) Here r s G t q o = o
exp_at-over l (PMem m) Here r s G t q o = omega arith
exp_at-over l (PExp e) (Other k) r s G t q o = q
exp_at-over l (PMem m) (Other k) r s G t q o = q

mem_at-over : (l : Bool) (p : Part) (x : Spot) (r : ℕ) (s : VarSort) (G : List VarSort) → part_sort p ≡ s → sort_by s G x ≡ Some OfMem → IsWithinPart l r p G → IsWithinMem l r (mem_at p x) G
mem_at-over l (PExp e) Here r s G t q o = cc
mem_at-over l (PMem m) Here r s G t q o = o
mem_at-over l (PExp e) (Other k) r s G t q o = q
mem_at-over l (PMem m) (Other k) r s G t q o = q

part-over : (l : Bool) (p : Part) (r : ℕ) (u : VarSort) (G : List VarSort) → IsWithinPart l r p G → IsWithinPart l r (shift_part 1 p) (u ∷ G)
part-over l (PExp e) r u G o = wider_exp l r e G u o
part-over l (PMem m) r u G o = wider_mem l r m G u o

mutual
  over_exp-var : (l : Bool) (e : Exp) (r : ℕ) (p : Part) (s : VarSort) (G H : List VarSort) → part_sort p ≡ s → IsWithinExp l r e (G ++ s ∷ H) → IsWithinPart l r p (G ++ H) → IsWithinExp l r (subst_var_exp e (length G) p) (G ++ H)
  over_exp-var l (EReg k) r p s G H t o q = o
  over_exp-var l ELeft r p s G H t o q = o
  over_exp-var l (EVar n) r p s G H t o q = exp_at-over l p (spot (length G) n) r s (G ++ H) t (sym (sort-spot G H s n) ∙ o) q
  over_exp-var l (ELit w) r p s G H t o q = o
  over_exp-var l (EOp f a b) r p s G H t o q = (over_exp-var l a r p s G H t o.0 q, over_exp-var l b r p s G H t o.1 q)
  over_exp-var l (ESel m a) r p s G H t o q = (over_mem-var l m r p s G H t o.0 q, over_exp-var l a r p s G H t o.1 q)

  over_mem-var : (l : Bool) (m : MemExp) (r : ℕ) (p : Part) (s : VarSort) (G H : List VarSort) → part_sort p ≡ s → IsWithinMem l r m (G ++ s ∷ H) → IsWithinPart l r p (G ++ H) → IsWithinMem l r (subst_var_mem m (length G) p) (G ++ H)
  over_mem-var l MMem r p s G H t o q = o
  over_mem-var l (MVar n) r p s G H t o q = mem_at-over l p (spot (length G) n) r s (G ++ H) t (sym (sort-spot G H s n) ∙ o) q
  over_mem-var l (MUpd m a e) r p s G H t o q = (over_mem-var l m r p s G H t o.0 q, over_exp-var l a r p s G H t o.1 q, over_exp-var l e r p s G H t o.2 q)

over-var : (l : Bool) (F : Form) (r : ℕ) (p : Part) (s : VarSort) (G H : List VarSort) → part_sort p ≡ s → IsWithin l r F (G ++ s ∷ H) → IsWithinPart l r p (G ++ H) → IsWithin l r (subst_var F (length G) p) (G ++ H)
over-var l FTrue r p s G H t o q = tt
over-var l FFalse r p s G H t o q = tt
over-var l (FRel f a b) r p s G H t o q = (over_exp-var l a r p s G H t o.0 q, over_exp-var l b r p s G H t o.1 q)
over-var l (FRd a) r p s G H t o q = over_exp-var l a r p s G H t o q
over-var l (FWr a) r p s G H t o q = over_exp-var l a r p s G H t o q
over-var l (FAnd A B) r p s G H t o q = (over-var l A r p s G H t o.0 q, over-var l B r p s G H t o.1 q)
over-var l (FOr A B) r p s G H t o q = (over-var l A r p s G H t o.0 q, over-var l B r p s G H t o.1 q)
over-var l (FImp A B) r p s G H t o q = (over-var l A r p s G H t o.0 q, over-var l B r p s G H t o.1 q)
over-var l (FAll A) r p s G H t o q = over-var l A r (shift_part 1 p) s (OfWord ∷ G) H (sort-under p s t) o (part-over l p r OfWord (G ++ H) q)
over-var l (FAllm A) r p s G H t o q = over-var l A r (shift_part 1 p) s (OfMem ∷ G) H (sort-under p s t) o (part-over l p r OfMem (G ++ H) q)

pub var-scope : (l : Bool) (r : ℕ) (F : Form) (p : Part) (G H : List VarSort) → IsWithin l r F (G ++ part_sort p ∷ H) → IsWithinPart l r p (G ++ H) → IsWithin l r (subst_var F (length G) p) (G ++ H)
var-scope l r F p G H o q = over-var l F r p (part_sort p) G H refl o q
