-- Variables for registers, m and the steps that are left go through substitution for a bound
-- variable.
use Rattle.std.proofs.Common.{◌≡◌, ℕ, suc, ◌+◌, ◌-◌, ◌<◌, ◌≤◌, Bool, T, Some}
use Rattle.std.proofs.Common.{List, ◌∷◌, refl, sym, ◌∙◌, ap, arith, inl, inr, lt-ltb}
use Rattle.std.proofs.lemmas.Bool.{cases_lt, le-ltb}
use Rattle.term_table.specs.Tree.{Spot, Here, Other, spot}
use Rattle.hereditary_subst.proofs.Spots.{spot_above}
use Rattle.formula_tree.specs.Formulas.{Exp, EReg, ELeft, EVar, ELit, EOp, ESel, MemExp, MMem, MVar, MUpd, shift_exp, shift_mem}
use Rattle.formula_tree.specs.Formulas.{Form, FTrue, FFalse, FRel, FRd, FWr, FAnd, FOr, FImp, FAll, FAllm}
use Rattle.formula_tree.specs.Variables.{Part, PExp, PMem, shift_part, exp_at, mem_at, subst_var_exp, subst_var_mem, subst_var}
use Rattle.formula_tree.specs.Scope.{VarSort, OfWord, OfMem, sort_at, IsWithinExp, IsWithinMem, IsWithin, part_sort}
use Rattle.lf_encode.specs.Naming.{named_exp, named_mem, named_form}
use Rattle.lf_encode.proofs.Substituted.{same_sort, sort_same}

abbrev pub named_part : ℕ → Part → Part
named_part d (PExp e) = PExp (named_exp d e)
named_part d (PMem m) = PMem (named_mem d m)

exp_at-other : (p : Part) (k : ℕ) → exp_at p (Other k) ≡ EVar k
exp_at-other (PExp e) k = refl
exp_at-other (PMem m) k = refl

mem_at-other : (p : Part) (k : ℕ) → mem_at p (Other k) ≡ MVar k
mem_at-other (PExp e) k = refl
mem_at-other (PMem m) k = refl

named-exp_at : (d : ℕ) (p : Part) (s : Spot) → named_exp d (exp_at p s) ≡ exp_at (named_part d p) s
named-exp_at d (PExp e) Here = refl
named-exp_at d (PMem m) Here = refl
named-exp_at d (PExp e) (Other k) = refl
named-exp_at d (PMem m) (Other k) = refl

named-mem_at : (d : ℕ) (p : Part) (s : Spot) → (s ≡ Here → part_sort p ≡ OfMem) → named_mem d (mem_at p s) ≡ mem_at (named_part d p) s
named-mem_at d (PExp e) Here h = no_memory (h refl)
  where
    no_memory : OfWord ≡ OfMem → named_mem d (mem_at (PExp e) Here) ≡ mem_at (named_part d (PExp e)) Here
    no_memory q = cc
named-mem_at d (PMem m) Here h = refl
named-mem_at d (PExp e) (Other k) h = refl
named-mem_at d (PMem m) (Other k) h = refl

-- where d variables are nearer than the machine's, and k once the one is taken away
pub record IsNear (d k x : ℕ) : Type 0 where
  pub count : d ≡ suc k
  pub near : x ≤ k

near-under : (d k x : ℕ) → IsNear d k x → IsNear (suc d) (suc k) (suc x)
near-under d k x n = record { count = ap suc n.count; near = omega (arith, n.near) }

machine-spot : (d k x j : ℕ) → IsNear d k x → spot x (j + d) ≡ Other (j + k)
machine-spot d k x j n = let less : (j + d) - 1 ≡ j + k = omega (arith, n.count) in spot_above x (j + d) (omega (arith, n.count, n.near)) ∙ ap Other less

named-register : (r d k x : ℕ) (p : Part) → IsNear d k x → named_exp k (EReg r) ≡ subst_var_exp (named_exp d (EReg r)) x p
named-register r d k x p n =
    elim (cases_lt r 31) [
      | inl lt ↦ rw (lt-ltb r 31 lt) (sym (exp_at-other p ((30 - r) + k)) ∙ ap (exp_at p) (sym (machine-spot d k x (30 - r) n)))
      | inr ge ↦ rw (le-ltb r 31 ge) refl
    ]

mutual
  named-shift_exp : (e : Exp) (d : ℕ) → named_exp (suc d) (shift_exp 1 0 e) ≡ shift_exp 1 0 (named_exp d e)
  named-shift_exp (EReg r) d =
      elim (cases_lt r 31) [
        | inl lt ↦ let next : (30 - r) + suc d ≡ 1 + ((30 - r) + d) = omega arith in rw (lt-ltb r 31 lt) (ap EVar next)
        | inr ge ↦ rw (le-ltb r 31 ge) refl
      ]
  named-shift_exp ELeft d = let next : 32 + suc d ≡ 1 + (32 + d) = omega arith in ap EVar next
  named-shift_exp (EVar n) d = refl
  named-shift_exp (ELit w) d = refl
  named-shift_exp (EOp o a b) d = λ i. EOp o (named-shift_exp a d i) (named-shift_exp b d i)
  named-shift_exp (ESel m a) d = λ i. ESel (named-shift_mem m d i) (named-shift_exp a d i)

  named-shift_mem : (m : MemExp) (d : ℕ) → named_mem (suc d) (shift_mem 1 0 m) ≡ shift_mem 1 0 (named_mem d m)
  named-shift_mem MMem d = let next : 31 + suc d ≡ 1 + (31 + d) = omega arith in ap MVar next
  named-shift_mem (MVar n) d = refl
  named-shift_mem (MUpd m a v) d = λ i. MUpd (named-shift_mem m d i) (named-shift_exp a d i) (named-shift_exp v d i)

named-shift_part : (p : Part) (d : ℕ) → named_part (suc d) (shift_part 1 p) ≡ shift_part 1 (named_part d p)
named-shift_part (PExp e) d = ap PExp (named-shift_exp e d)
named-shift_part (PMem m) d = ap PMem (named-shift_mem m d)

mutual
  pub named-subst_exp : (e : Exp) (l : Bool) (r d k x : ℕ) (G : List VarSort) (p : Part) →
      IsWithinExp l r e G → sort_at G x ≡ Some (part_sort p) → (0 < r → IsNear d k x) → (T l →
      IsNear d k x) →
      named_exp k (subst_var_exp e x p) ≡ subst_var_exp (named_exp d e) x (named_part k p)
  named-subst_exp (EReg j) l r d k x G p h q n y =
      named-register j d k x (named_part k p) (n (omega (arith, h)))
  named-subst_exp ELeft l r d k x G p h q n y =
      sym (ap (exp_at (named_part k p)) (machine-spot d k x 32 (y h)) ∙ exp_at-other (named_part k p) (32 + k))
  named-subst_exp (EVar j) l r d k x G p h q n y = named-exp_at k p (spot x j)
  named-subst_exp (ELit w) l r d k x G p h q n y = refl
  named-subst_exp (EOp o a b) l r d k x G p h q n y =
      λ i. EOp o (named-subst_exp a l r d k x G p h.0 q n y i) (named-subst_exp b l r d k x G p h.1 q n y i)
  named-subst_exp (ESel m a) l r d k x G p h q n y =
      λ i. ESel (named-subst_mem m l r d k x G p h.0 q n y i) (named-subst_exp a l r d k x G p h.1 q n y i)

  pub named-subst_mem : (m : MemExp) (l : Bool) (r d k x : ℕ) (G : List VarSort) (p : Part) →
      IsWithinMem l r m G → sort_at G x ≡ Some (part_sort p) → (0 < r → IsNear d k x) → (T l → IsNear d k x) →
      named_mem k (subst_var_mem m x p) ≡ subst_var_mem (named_mem d m) x (named_part k p)
  named-subst_mem MMem l r d k x G p h q n y =
      sym (ap (mem_at (named_part k p)) (machine-spot d k x 31 (n h)) ∙ mem_at-other (named_part k p) (31 + k))
  named-subst_mem (MVar j) l r d k x G p h q n y =
      named-mem_at k p (spot x j) (λ e. same_sort G x j (part_sort p) OfMem q h e)
  named-subst_mem (MUpd m a v) l r d k x G p h q n y =
      λ i. MUpd (named-subst_mem m l r d k x G p h.0 q n y i) (named-subst_exp a l r d k x G p h.1 q n y i) (named-subst_exp v l r d k x G p h.2 q n y i)

-- where the formula names no register, not m and not the steps that are left it doesn't matter how
-- many
-- variables are nearer
pub named-subst_form : (F : Form) (l : Bool) (r d k x : ℕ) (G : List VarSort) (p : Part) →
    IsWithin l r F G → sort_at G x ≡ Some (part_sort p) → (0 < r → IsNear d k x) → (T l →
    IsNear d k x) →
    named_form k (subst_var F x p) ≡ subst_var (named_form d F) x (named_part k p)
named-subst_form FTrue l r d k x G p h q n y = refl
named-subst_form FFalse l r d k x G p h q n y = refl
named-subst_form (FRel c a b) l r d k x G p h q n y =
    λ i. FRel c (named-subst_exp a l r d k x G p h.0 q n y i) (named-subst_exp b l r d k x G p h.1 q n y i)
named-subst_form (FRd a) l r d k x G p h q n y = ap FRd (named-subst_exp a l r d k x G p h q n y)
named-subst_form (FWr a) l r d k x G p h q n y = ap FWr (named-subst_exp a l r d k x G p h q n y)
named-subst_form (FAnd A B) l r d k x G p h q n y =
    λ i. FAnd (named-subst_form A l r d k x G p h.0 q n y i) (named-subst_form B l r d k x G p h.1 q n y i)
named-subst_form (FOr A B) l r d k x G p h q n y =
    λ i. FOr (named-subst_form A l r d k x G p h.0 q n y i) (named-subst_form B l r d k x G p h.1 q n y i)
named-subst_form (FImp A B) l r d k x G p h q n y =
    λ i. FImp (named-subst_form A l r d k x G p h.0 q n y i) (named-subst_form B l r d k x G p h.1 q n y i)
named-subst_form (FAll A) l r d k x G p h q n y =
    ap FAll
    (named-subst_form A l r (suc d) (suc k) (suc x) (OfWord ∷ G) (shift_part 1 p) h
    (q ∙ ap Some (sort_same p)) (λ z. near-under d k x (n z)) (λ z. near-under d k x (y z))
    ∙ ap (subst_var (named_form (suc d) A) (suc x)) (named-shift_part p k))
named-subst_form (FAllm A) l r d k x G p h q n y =
    ap FAllm
    (named-subst_form A l r (suc d) (suc k) (suc x) (OfMem ∷ G) (shift_part 1 p) h
    (q ∙ ap Some (sort_same p)) (λ z. near-under d k x (n z)) (λ z. near-under d k x (y z))
    ∙ ap (subst_var (named_form (suc d) A) (suc x)) (named-shift_part p k))
