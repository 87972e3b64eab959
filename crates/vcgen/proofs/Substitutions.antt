-- Two substitutions in a row are one; the first may put something for one register, for m, or for the steps that are left.
use Rattle.std.proofs.Common.{◌≡◌, ℕ, zero, suc, List, [], ◌∷◌, map, length, get_or, set, refl, sym, ◌∙◌, ap, arith}
use Rattle.std.proofs.lemmas.List.{map-set}
use Rattle.std.proofs.Math.ListN.{get_or-map}
use Rattle.formula_tree.specs.Formulas.{Exp, EReg, ELeft, EVar, ELit, EOp, ESel, MemExp, MMem, MVar, MUpd, Form, FTrue, FFalse, FRel, FRd, FWr, FAnd, FOr, FImp, FAll, FAllm, shift_exp, shift_mem}
use Rattle.formula_tree.specs.Substitution.{Substitution, shift_substitution, subst_exp, subst_mem, subst_form}
use Rattle.formula_tree.specs.Scope.{VarSort, OfWord, OfMem, IsOverExp, IsOverMem, IsOver}
use Rattle.vcgen.specs.Assignments.{regs_from, unchanged, for_reg, for_memory, for_left}

-- first s, then t in what s puts
abbrev pub composition : Substitution → Substitution → Substitution
composition s t = record { regs = map (λ e. subst_exp e t) s.regs; memory = subst_mem s.memory t; left = subst_exp s.left t }

-- ---- under a binder

mutual
  subst_exp-under : (e : Exp) (t : Substitution) → subst_exp (shift_exp 1 0 e) (shift_substitution 1 t) ≡ shift_exp 1 0 (subst_exp e t)
  subst_exp-under (EReg r) t = get_or-map (shift_exp 1 0) t.regs r (ELit 0)
  subst_exp-under ELeft t = refl
  subst_exp-under (EVar n) t = refl
  subst_exp-under (ELit w) t = refl
  subst_exp-under (EOp o a b) t = λ i. EOp o (subst_exp-under a t i) (subst_exp-under b t i)
  subst_exp-under (ESel m a) t = λ i. ESel (subst_mem-under m t i) (subst_exp-under a t i)

  subst_mem-under : (m : MemExp) (t : Substitution) → subst_mem (shift_mem 1 0 m) (shift_substitution 1 t) ≡ shift_mem 1 0 (subst_mem m t)
  subst_mem-under MMem t = refl
  subst_mem-under (MVar n) t = refl
  subst_mem-under (MUpd m a v) t = λ i. MUpd (subst_mem-under m t i) (subst_exp-under a t i) (subst_exp-under v t i)

regs-under : (l : List Exp) (t : Substitution) → map (λ e. subst_exp e (shift_substitution 1 t)) (map (shift_exp 1 0) l) ≡ map (shift_exp 1 0) (map (λ e. subst_exp e t) l)
regs-under [] t = refl
regs-under (e ∷ l) t = λ i. subst_exp-under e t i ∷ regs-under l t i

composition-under : (s t : Substitution) → composition (shift_substitution 1 s) (shift_substitution 1 t) ≡ shift_substitution 1 (composition s t)
composition-under s t = λ i. record { regs = regs-under s.regs t i; memory = subst_mem-under s.memory t i; left = subst_exp-under s.left t i }

-- ---- two in a row

mutual
  subst_exp-subst_exp : (e : Exp) (s t : Substitution) → subst_exp (subst_exp e s) t ≡ subst_exp e (composition s t)
  subst_exp-subst_exp (EReg r) s t = sym (get_or-map (λ e. subst_exp e t) s.regs r (ELit 0))
  subst_exp-subst_exp ELeft s t = refl
  subst_exp-subst_exp (EVar n) s t = refl
  subst_exp-subst_exp (ELit w) s t = refl
  subst_exp-subst_exp (EOp o a b) s t = λ i. EOp o (subst_exp-subst_exp a s t i) (subst_exp-subst_exp b s t i)
  subst_exp-subst_exp (ESel m a) s t = λ i. ESel (subst_mem-subst_mem m s t i) (subst_exp-subst_exp a s t i)

  subst_mem-subst_mem : (m : MemExp) (s t : Substitution) → subst_mem (subst_mem m s) t ≡ subst_mem m (composition s t)
  subst_mem-subst_mem MMem s t = refl
  subst_mem-subst_mem (MVar n) s t = refl
  subst_mem-subst_mem (MUpd m a v) s t = λ i. MUpd (subst_mem-subst_mem m s t i) (subst_exp-subst_exp a s t i) (subst_exp-subst_exp v s t i)

pub subst_form-subst_form : (F : Form) (s t : Substitution) → subst_form (subst_form F s) t ≡ subst_form F (composition s t)
subst_form-subst_form FTrue s t = refl
subst_form-subst_form FFalse s t = refl
subst_form-subst_form (FRel p a b) s t = λ i. FRel p (subst_exp-subst_exp a s t i) (subst_exp-subst_exp b s t i)
subst_form-subst_form (FRd a) s t = ap FRd (subst_exp-subst_exp a s t)
subst_form-subst_form (FWr a) s t = ap FWr (subst_exp-subst_exp a s t)
subst_form-subst_form (FAnd A B) s t = λ i. FAnd (subst_form-subst_form A s t i) (subst_form-subst_form B s t i)
subst_form-subst_form (FOr A B) s t = λ i. FOr (subst_form-subst_form A s t i) (subst_form-subst_form B s t i)
subst_form-subst_form (FImp A B) s t = λ i. FImp (subst_form-subst_form A s t i) (subst_form-subst_form B s t i)
subst_form-subst_form (FAll A) s t = ap FAll (subst_form-subst_form A (shift_substitution 1 s) (shift_substitution 1 t) ∙ ap (subst_form A) (composition-under s t))
subst_form-subst_form (FAllm A) s t = ap FAllm (subst_form-subst_form A (shift_substitution 1 s) (shift_substitution 1 t) ∙ ap (subst_form A) (composition-under s t))

-- ---- what stays

-- the parts of what leaves all as it is, by a number of registers that isn't written out
pub unchanged-regs : (n : ℕ) → n ≡ 31 → unchanged.regs ≡ regs_from n 0
unfolding unchanged
unchanged-regs n e = ap (λ k. regs_from k 0) (sym e)

pub unchanged-memory : unchanged.memory ≡ MMem
unfolding unchanged
unchanged-memory = refl

pub unchanged-left : unchanged.left ≡ ELeft
unfolding unchanged
unchanged-left = refl

pub length-regs_from : (n k : ℕ) → length (regs_from n k) ≡ n
length-regs_from zero k = refl
length-regs_from (suc n) k = ap suc (length-regs_from n (suc k))

pub length-unchanged : length unchanged.regs ≡ 31
length-unchanged = ap length (unchanged-regs 31 refl) ∙ length-regs_from 31 0

later-regs : (e : Exp) (l : List Exp) (m : MemExp) (q : Exp) (n k : ℕ) →
    map (λ x. subst_exp x (record { regs = e ∷ l; memory = m; left = q })) (regs_from n (suc k)) ≡ map (λ x. subst_exp x (record { regs = l; memory = m; left = q })) (regs_from n k)
later-regs e l m q zero k = refl
later-regs e l m q (suc n) k = ap (λ y. get_or l k (ELit 0) ∷ y) (later-regs e l m q n (suc k))

same-regs : (l : List Exp) (m : MemExp) (q : Exp) (n : ℕ) → length l ≡ n → map (λ x. subst_exp x (record { regs = l; memory = m; left = q })) (regs_from n 0) ≡ l
same-regs [] m q zero len = refl
same-regs [] m q (suc n) len = absurd (omega (arith, len))
same-regs (e ∷ l) m q zero len = absurd (omega (arith, len))
same-regs (e ∷ l) m q (suc n) len = ap (λ y. e ∷ y) (later-regs e l m q n 0 ∙ same-regs l m q n (omega (arith, len)))

unchanged-then : (t : Substitution) → length t.regs ≡ 31 → map (λ x. subst_exp x t) unchanged.regs ≡ t.regs
unchanged-then t len = ap (map (λ x. subst_exp x t)) (unchanged-regs (length t.regs) len) ∙ same-regs t.regs t.memory t.left (length t.regs) refl

memory-then : (t : Substitution) → subst_mem unchanged.memory t ≡ t.memory
memory-then t = ap (λ m. subst_mem m t) unchanged-memory

left-then : (t : Substitution) → subst_exp unchanged.left t ≡ t.left
left-then t = ap (λ e. subst_exp e t) unchanged-left

-- ---- one assignment, then t

pub subst-for_reg : (F : Form) (r : ℕ) (e : Exp) (t : Substitution) → length t.regs ≡ 31 → subst_form (subst_form F (for_reg r e)) t ≡ subst_form F (record t { regs = set t.regs r (subst_exp e t) })
subst-for_reg F r e t len =
    let regs : map (λ x. subst_exp x t) (set unchanged.regs r e) ≡ set t.regs r (subst_exp e t) = map-set (λ x. subst_exp x t) unchanged.regs r e ∙ ap (λ l. set l r (subst_exp e t)) (unchanged-then t len) in
    subst_form-subst_form F (for_reg r e) t ∙ (λ i. subst_form F (record { regs = regs i; memory = memory-then t i; left = left-then t i }))

pub subst-for_memory : (F : Form) (m : MemExp) (t : Substitution) → length t.regs ≡ 31 → subst_form (subst_form F (for_memory m)) t ≡ subst_form F (record t { memory = subst_mem m t })
subst-for_memory F m t len = subst_form-subst_form F (for_memory m) t ∙ (λ i. subst_form F (record { regs = unchanged-then t len i; memory = subst_mem m t; left = left-then t i }))

pub subst-for_left : (F : Form) (e : Exp) (t : Substitution) → length t.regs ≡ 31 → subst_form (subst_form F (for_left e)) t ≡ subst_form F (record t { left = subst_exp e t })
subst-for_left F e t len = subst_form-subst_form F (for_left e) t ∙ (λ i. subst_form F (record { regs = unchanged-then t len i; memory = memory-then t i; left = subst_exp e t }))

-- ---- a formula that doesn't name the steps that are left

mutual
  subst_exp-other : (r : ℕ) (e : Exp) (G : List VarSort) (t : Substitution) (q : Exp) → IsOverExp r e G → subst_exp e (record t { left = q }) ≡ subst_exp e t
  subst_exp-other r (EReg k) G t q o = refl
  subst_exp-other r ELeft G t q o = absurd o
  subst_exp-other r (EVar n) G t q o = refl
  subst_exp-other r (ELit w) G t q o = refl
  subst_exp-other r (EOp p a b) G t q o = λ i. EOp p (subst_exp-other r a G t q o.0 i) (subst_exp-other r b G t q o.1 i)
  subst_exp-other r (ESel m a) G t q o = λ i. ESel (subst_mem-other r m G t q o.0 i) (subst_exp-other r a G t q o.1 i)

  subst_mem-other : (r : ℕ) (m : MemExp) (G : List VarSort) (t : Substitution) (q : Exp) → IsOverMem r m G → subst_mem m (record t { left = q }) ≡ subst_mem m t
  subst_mem-other r MMem G t q o = refl
  subst_mem-other r (MVar n) G t q o = refl
  subst_mem-other r (MUpd m a v) G t q o = λ i. MUpd (subst_mem-other r m G t q o.0 i) (subst_exp-other r a G t q o.1 i) (subst_exp-other r v G t q o.2 i)

-- it is the same whatever is put for these
pub subst-other : (r : ℕ) (F : Form) (G : List VarSort) (t : Substitution) (q : Exp) → IsOver r F G → subst_form F (record t { left = q }) ≡ subst_form F t
subst-other r FTrue G t q o = refl
subst-other r FFalse G t q o = refl
subst-other r (FRel p a b) G t q o = λ i. FRel p (subst_exp-other r a G t q o.0 i) (subst_exp-other r b G t q o.1 i)
subst-other r (FRd a) G t q o = ap FRd (subst_exp-other r a G t q o)
subst-other r (FWr a) G t q o = ap FWr (subst_exp-other r a G t q o)
subst-other r (FAnd A B) G t q o = λ i. FAnd (subst-other r A G t q o.0 i) (subst-other r B G t q o.1 i)
subst-other r (FOr A B) G t q o = λ i. FOr (subst-other r A G t q o.0 i) (subst-other r B G t q o.1 i)
subst-other r (FImp A B) G t q o = λ i. FImp (subst-other r A G t q o.0 i) (subst-other r B G t q o.1 i)
subst-other r (FAll A) G t q o = ap FAll (subst-other r A (OfWord ∷ G) (shift_substitution 1 t) (shift_exp 1 0 q) o)
subst-other r (FAllm A) G t q o = ap FAllm (subst-other r A (OfMem ∷ G) (shift_substitution 1 t) (shift_exp 1 0 q) o)
