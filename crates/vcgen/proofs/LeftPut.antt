-- Hereditary substitution for the steps that are left, in the naming of the context with them and of
-- the context without.
use Rattle.std.proofs.Common.{◌≡◌, ℕ, zero, suc, ◌+◌, ◌-◌, ◌^◌, ◌<◌, ◌≤◌, Bool, true, false, T, cond, Option, Some}
use Rattle.std.proofs.Common.{List, [], ◌∷◌, length, map, drop, get_or, length-drop, refl, sym, ◌∙◌, ap, subst, arith, inl, inr}
use Rattle.std.proofs.lemmas.Bool.{cases_lt, lt-ltb, le-ltb}
use Rattle.std.proofs.lemmas.List.{get_or_past}
use Rattle.term_table.specs.Tree.{Tree, spot}
use Rattle.term_table.specs.Subst.{Base, hsub}
use Rattle.hereditary_subst.proofs.Spots.{spot_here, spot_below}
use Rattle.formula_tree.specs.Formulas.{Exp, EReg, ELeft, EVar, ELit, EOp, ESel, MemExp, MMem, MVar, MUpd, shift_exp, shift_mem}
use Rattle.formula_tree.specs.Formulas.{Form, FTrue, FFalse, FRel, FRd, FWr, FAnd, FOr, FImp, FAll, FAllm}
use Rattle.formula_tree.specs.Substitution.{Substitution, shift_substitution, subst_exp, subst_mem, subst_form}
use Rattle.formula_tree.specs.Variables.{Part, PExp, PMem, exp_at, mem_at, subst_var_exp, subst_var_mem, subst_var}
use Rattle.formula_tree.specs.Scope.{VarSort, OfWord, OfMem, sort_at, IsWithinExp, IsWithinMem, IsWithin}
use Rattle.formula_tree.specs.Sizes.{form_height, binders}
use Rattle.lf_encode.specs.declared.contexts.Sort as sort
use Rattle.lf_encode.specs.declared.contexts.Sort.TheVariants as S
use Rattle.lf_encode.specs.Encoding.{exp_encoding, mem_encoding, form_encoding, part_family}
use Rattle.lf_encode.specs.Contexts.{sorts_of, has_machine, has_left, machine_count, bound_sorts, registers_in}
use Rattle.lf_encode.specs.Contexts.{IsExpIn, IsMemIn, IsFormIn, encoding_in, exp_encoding_in, mem_encoding_in}
use Rattle.lf_encode.specs.Naming.{named_exp, named_mem, named_form}
use Rattle.lf_encode.proofs.Naming.{below, named_exp-is, named_mem-is, named_form-is, named_register, named_zero}
use Rattle.lf_encode.proofs.Named.{count, length-sorts_of, exp_in-over, binders-height}
use Rattle.lf_encode.proofs.InContexts.{hsub-exp_in, hsub-mem_in, hsub-form_in}
use Rattle.lf_encode.proofs.Counts.{count_bound, left_length}
use Rattle.vcgen.specs.Assignments.{regs_from, unchanged, for_left}
use Rattle.vcgen.proofs.Substitutions.{unchanged-regs, unchanged-memory, length-unchanged}

-- ---- what stays

reg-from : (n k j : ℕ) → j < n → get_or (regs_from n k) j (ELit 0) ≡ EReg (k + j)
reg-from zero k j h = absurd (omega (arith, h))
reg-from (suc n) k zero h = let e : k ≡ k + 0 = omega arith in ap EReg e
reg-from (suc n) k (suc j) h =
    let e : suc k + j ≡ k + suc j = omega arith in reg-from n (suc k) j (omega (arith, h)) ∙ ap EReg e

reg-stays : (put : Exp) (r : ℕ) → r < 31 → subst_exp (EReg r) (for_left put) ≡ EReg r
reg-stays put r low =
    let none : 0 + r ≡ r = omega arith in
    ap (λ l. get_or l r (ELit 0)) (unchanged-regs 31 refl) ∙ reg-from 31 0 r low ∙ ap EReg none

zero-stays : (put : Exp) (r : ℕ) → 31 ≤ r → subst_exp (EReg r) (for_left put) ≡ ELit 0
zero-stays put r past = get_or_past unchanged.regs r (ELit 0) (omega (arith, past, length-unchanged))

regs-shifted : (n k : ℕ) → map (shift_exp 1 0) (regs_from n k) ≡ regs_from n k
regs-shifted zero k = refl
regs-shifted (suc n) k = ap (λ l. EReg k ∷ l) (regs-shifted n (suc k))

-- under a binder
for_left-under : (put : Exp) → shift_substitution 1 (for_left put) ≡ for_left (shift_exp 1 0 put)
for_left-under put =
    let regs : map (shift_exp 1 0) unchanged.regs ≡ unchanged.regs =
    ap (map (shift_exp 1 0)) (unchanged-regs 31 refl) ∙ regs-shifted 31 0 ∙ sym (unchanged-regs 31 refl) in
    let memory : shift_mem 1 0 unchanged.memory ≡ unchanged.memory = ap (shift_mem 1 0) unchanged-memory ∙ sym unchanged-memory in
    λ i. record { regs = regs i; memory = memory i; left = shift_exp 1 0 put }

-- ---- names under a binder

mutual
  named-under_exp : (e : Exp) (d : ℕ) → shift_exp 1 0 (named_exp d e) ≡ named_exp (suc d) (shift_exp 1 0 e)
  named-under_exp (EReg r) d = elim (cases_lt r 31) [
    | inl low ↦
        let next : 1 + ((30 - r) + d) ≡ (30 - r) + suc d = omega arith in
        ap (shift_exp 1 0) (named_register d r low) ∙ ap EVar next ∙ sym (named_register (suc d) r low)
    | inr past ↦ ap (shift_exp 1 0) (named_zero d r past) ∙ sym (named_zero (suc d) r past)
  ]
  named-under_exp ELeft d = let next : 1 + (32 + d) ≡ 32 + suc d = omega arith in ap EVar next
  named-under_exp (EVar n) d = refl
  named-under_exp (ELit w) d = refl
  named-under_exp (EOp o a b) d = λ i. EOp o (named-under_exp a d i) (named-under_exp b d i)
  named-under_exp (ESel m a) d = λ i. ESel (named-under_mem m d i) (named-under_exp a d i)

  named-under_mem : (m : MemExp) (d : ℕ) → shift_mem 1 0 (named_mem d m) ≡ named_mem (suc d) (shift_mem 1 0 m)
  named-under_mem MMem d = let next : 1 + (31 + d) ≡ 31 + suc d = omega arith in ap MVar next
  named-under_mem (MVar n) d = refl
  named-under_mem (MUpd m a v) d = λ i. MUpd (named-under_mem m d i) (named-under_exp a d i) (named-under_exp v d i)

-- ---- to put something for the variable of the steps that are left is to put it for these

abbrev named-put : ℕ → Exp → Part
named-put d put = PExp (named_exp d put)

mutual
  put-exp : (e put : Exp) (l : Bool) (r d : ℕ) (B : List VarSort) → length B ≡ d → IsWithinExp l r e B →
      subst_var_exp (named_exp d e) (32 + d) (named-put d put) ≡ named_exp d (subst_exp e (for_left put))
  put-exp (EReg k) put l r d B len h = elim (cases_lt k 31) [
    | inl low ↦
        ap (λ z. subst_var_exp z (32 + d) (named-put d put)) (named_register d k low)
        ∙ ap (exp_at (named-put d put)) (spot_below (32 + d) ((30 - k) + d) (omega arith))
        ∙ sym (named_register d k low) ∙ ap (named_exp d) (sym (reg-stays put k low))
    | inr past ↦
        ap (λ z. subst_var_exp z (32 + d) (named-put d put)) (named_zero d k past)
        ∙ ap (named_exp d) (sym (zero-stays put k past))
  ]
  put-exp ELeft put l r d B len h = ap (exp_at (named-put d put)) (spot_here (32 + d))
  put-exp (EVar n) put l r d B len h =
      let near = below B n OfWord h in
      ap (exp_at (named-put d put)) (spot_below (32 + d) n (omega (arith, near, len)))
  put-exp (ELit w) put l r d B len h = refl
  put-exp (EOp o a b) put l r d B len h = λ i. EOp o (put-exp a put l r d B len h.0 i) (put-exp b put l r d B len h.1 i)
  put-exp (ESel m a) put l r d B len h = λ i. ESel (put-mem m put l r d B len h.0 i) (put-exp a put l r d B len h.1 i)

  put-mem : (m : MemExp) (put : Exp) (l : Bool) (r d : ℕ) (B : List VarSort) → length B ≡ d → IsWithinMem l r m B →
      subst_var_mem (named_mem d m) (32 + d) (named-put d put) ≡ named_mem d (subst_mem m (for_left put))
  put-mem MMem put l r d B len h =
      ap (mem_at (named-put d put)) (spot_below (32 + d) (31 + d) (omega arith)) ∙ ap (named_mem d) (sym unchanged-memory)
  put-mem (MVar n) put l r d B len h =
      let near = below B n OfMem h in
      ap (mem_at (named-put d put)) (spot_below (32 + d) n (omega (arith, near, len)))
  put-mem (MUpd m a v) put l r d B len h =
      λ i. MUpd (put-mem m put l r d B len h.0 i) (put-exp a put l r d B len h.1 i) (put-exp v put l r d B len h.2 i)

put-form : (F : Form) (put : Exp) (l : Bool) (r d : ℕ) (B : List VarSort) → length B ≡ d → IsWithin l r F B →
    subst_var (named_form d F) (32 + d) (named-put d put) ≡ named_form d (subst_form F (for_left put))
put-form FTrue put l r d B len h = refl
put-form FFalse put l r d B len h = refl
put-form (FRel p a b) put l r d B len h = λ i. FRel p (put-exp a put l r d B len h.0 i) (put-exp b put l r d B len h.1 i)
put-form (FRd a) put l r d B len h = ap FRd (put-exp a put l r d B len h)
put-form (FWr a) put l r d B len h = ap FWr (put-exp a put l r d B len h)
put-form (FAnd A C) put l r d B len h = λ i. FAnd (put-form A put l r d B len h.0 i) (put-form C put l r d B len h.1 i)
put-form (FOr A C) put l r d B len h = λ i. FOr (put-form A put l r d B len h.0 i) (put-form C put l r d B len h.1 i)
put-form (FImp A C) put l r d B len h = λ i. FImp (put-form A put l r d B len h.0 i) (put-form C put l r d B len h.1 i)
put-form (FAll A) put l r d B len h =
    let next : suc (32 + d) ≡ 32 + suc d = omega arith in
    ap FAll ((λ i. subst_var (named_form (suc d) A) (next i) (PExp (named-under_exp put d i)))
    ∙ put-form A (shift_exp 1 0 put) l r (suc d) (OfWord ∷ B) (ap suc len) h
    ∙ ap (λ (s : Substitution). named_form (suc d) (subst_form A s)) (sym (for_left-under put)))
put-form (FAllm A) put l r d B len h =
    let next : suc (32 + d) ≡ 32 + suc d = omega arith in
    ap FAllm ((λ i. subst_var (named_form (suc d) A) (next i) (PExp (named-under_exp put d i)))
    ∙ put-form A (shift_exp 1 0 put) l r (suc d) (OfMem ∷ B) (ap suc len) h
    ∙ ap (λ (s : Substitution). named_form (suc d) (subst_form A s)) (sym (for_left-under put)))

-- ---- the context without the steps that are left

count-counted : (ctx : List sort.Sort) → has_left ctx ≡ true → machine_count ctx ≡ 33
count-counted [] h = cc
count-counted (S.Mem ∷ ctx) h = cc
count-counted (S.Exp ∷ ctx) h = ap (λ b. cond b 33 0) h

same-bound : (ctx : List sort.Sort) → has_left ctx ≡ true → bound_sorts ctx ≡ bound_sorts (drop 1 ctx)
same-bound [] h = cc
same-bound (S.Mem ∷ ctx) h = cc
same-bound (S.Exp ∷ ctx) h =
    let few : 32 ≡ machine_count ctx = sym (ap (λ b. cond b 32 (cond (has_left ctx) 33 0)) h) in
    ap (λ k. sorts_of (drop k (S.Exp ∷ ctx))) (count-counted (S.Exp ∷ ctx) h) ∙ ap (λ k. sorts_of (drop k ctx)) few

module _ (ctx : List sort.Sort) (counted : has_left ctx ≡ true) where
  abbrev rest : List sort.Sort
  rest = drop 1 ctx

  -- as many bound variables
  same-count : count ctx ≡ count rest
  same-count = ap (λ (l : List VarSort). length l) (same-bound ctx counted)

  -- the variable of the steps that are left
  place : length rest ≡ 32 + count ctx
  place =
      let all = count_bound ctx in
      let named = count-counted ctx counted in
      let long = left_length ctx counted in
      omega (arith, length-drop 1 ctx, all, named, long)

  there : sort_at (sorts_of ctx) (length rest) ≡ Some OfWord
  there =
      subst (λ x. sort_at (sorts_of ctx) x ≡ Some OfWord) (sym place)
      (exp_in-over ctx 32 ELeft (subst (λ b. T b) (sym counted) tt))

  module _ (put : Exp) where
    abbrev part : Part
    part = named-put (count rest) put

    part-is : exp_encoding_in rest put ≡ exp_encoding (named_exp (count rest) put)
    part-is = ap exp_encoding (named_exp-is (count rest) put)

    pub left-exp : (e : Exp) → IsExpIn ctx 32 e →
        hsub (Base 0) (exp_encoding_in rest put) (length rest) (exp_encoding_in ctx e)
        ≡ Some (exp_encoding_in rest (subst_exp e (for_left put)))
    left-exp e h =
        ap (λ (t : Tree). hsub (Base 0) t (length rest) (exp_encoding_in ctx e)) part-is
        ∙ hsub-exp_in ctx e (length rest) part h there
        ∙ ap (λ (z : Exp). Some (exp_encoding z))
        (ap (λ (z : Exp). subst_var_exp z (length rest) part) (named_exp-is (count ctx) e)
        ∙ (λ i. subst_var_exp (named_exp (count ctx) e) (place i) (named-put (sym same-count i) put))
        ∙ put-exp e put (has_left ctx) (registers_in ctx 32) (count ctx) (bound_sorts ctx) refl h
        ∙ ap (λ d. named_exp d (subst_exp e (for_left put))) same-count
        ∙ sym (named_exp-is (count rest) (subst_exp e (for_left put))))

    pub left-mem : (m : MemExp) → IsMemIn ctx 32 m →
        hsub (Base 0) (exp_encoding_in rest put) (length rest) (mem_encoding_in ctx m)
        ≡ Some (mem_encoding_in rest (subst_mem m (for_left put)))
    left-mem m h =
        ap (λ (t : Tree). hsub (Base 0) t (length rest) (mem_encoding_in ctx m)) part-is
        ∙ hsub-mem_in ctx m (length rest) part h there
        ∙ ap (λ (z : MemExp). Some (mem_encoding z))
        (ap (λ (z : MemExp). subst_var_mem z (length rest) part) (named_mem-is (count ctx) m)
        ∙ (λ i. subst_var_mem (named_mem (count ctx) m) (place i) (named-put (sym same-count i) put))
        ∙ put-mem m put (has_left ctx) (registers_in ctx 32) (count ctx) (bound_sorts ctx) refl h
        ∙ ap (λ d. named_mem d (subst_mem m (for_left put))) same-count
        ∙ sym (named_mem-is (count rest) (subst_mem m (for_left put))))

    pub left-form : (F : Form) → IsFormIn ctx 32 F → IsExpIn rest 32 put → form_height F < 2 ^ 31 → length ctx < 2 ^ 31 →
        hsub (Base 0) (exp_encoding_in rest put) (length rest) (encoding_in ctx F)
        ≡ Some (encoding_in rest (subst_form F (for_left put)))
    left-form F h o low short =
        let deep = binders-height F in
        let many = length-sorts_of rest in
        ap (λ (t : Tree). hsub (Base 0) t (length rest) (encoding_in ctx F)) part-is
        ∙ hsub-form_in ctx F (sorts_of rest) (length rest) part h there (exp_in-over rest 32 put o)
        (omega (arith, deep, many, low, short, length-drop 1 ctx))
        ∙ ap (λ (z : Form). Some (form_encoding z))
        (ap (λ (z : Form). subst_var z (length rest) part) (named_form-is (count ctx) F)
        ∙ (λ i. subst_var (named_form (count ctx) F) (place i) (named-put (sym same-count i) put))
        ∙ put-form F put (has_left ctx) (registers_in ctx 32) (count ctx) (bound_sorts ctx) refl h
        ∙ ap (λ d. named_form d (subst_form F (for_left put))) same-count
        ∙ sym (named_form-is (count rest) (subst_form F (for_left put))))
