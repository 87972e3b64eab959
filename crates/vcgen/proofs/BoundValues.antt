-- What has to hold says nothing of the values of bound variables where no variable is free.
use Rattle.std.proofs.Common.{◌≡◌, ℕ, zero, suc, ◌+◌, ◌<◌, ◌^◌, ◌↔◌, Bool, cond, true, false, eqb, List, [], ◌∷◌, length, map, Option, Some, None, slice_get, refl, sym, ◌∙◌, ap, subst, arith, inl, inr, set}
use Rattle.std.proofs.lemmas.List.{length-map, length-set}
use Rattle.std.proofs.lemmas.Bool.{cases_Bool}
use Rattle.word_ops.specs.Words.{word_of, test_of}
use Rattle.word_ops.specs.Memory.{Memory, read, write, IsMemory}
use Rattle.word_ops.specs.Rights.{Rights, allowed}
use Rattle.word_ops.specs.declared.Op.TheVariants.{Sub}
use Rattle.word_ops.specs.declared.Rel.TheVariants.{Ult}
use Rattle.alpha_words.specs.declared.insn.Rhs.{Rhs}
use Rattle.alpha_words.specs.declared.insn.Rhs.TheVariants.{Reg, Lit}
use Rattle.alpha_words.specs.declared.conditions.Cond.{Cond}
use Rattle.alpha_words.specs.declared.conditions.Tested.{Tested}
use Rattle.alpha_words.specs.declared.conditions.Tested.TheVariants.{Word, LowBit}
use Rattle.alpha_words.specs.Conditions.{cond_tested, cond_taken}
use Rattle.alpha_words.specs.declared.insn.Insn.{Insn}
use Rattle.alpha_cfg.specs.Actions.{Computed, Sum, Applied, Always, When, Action, action_of}
use Rattle.alpha_cfg.specs.Actions as actions
use Rattle.alpha_cfg.specs.Flow.{jump_of}
use Rattle.formula_tree.specs.Formulas.{Exp, EReg, ELeft, EVar, ELit, EOp, ESel, MemExp, MMem, MVar, MUpd, Form, FTrue, FFalse, FRel, FRd, FWr, FAnd, FOr, FImp, FAll, FAllm}
use Rattle.formula_tree.specs.Substitution.{Substitution, subst_form}
use Rattle.formula_tree.specs.Scope.{VarSort, OfWord, OfMem, IsWithinExp, IsWithinMem, IsWithin}
use Rattle.formula_tree.specs.Truth.{Valuation, Bound, BWord, BMem, bound_at, bound_word, bound_memory, exp_value, mem_value, IsTrueIn, substitution_value}
use Rattle.formula_tree.proofs.Meaning.{both_ways, subst-truth}
use Rattle.lf_encode.proofs.Naming.{below}
use Rattle.vcgen.specs.Variables.{HasVarsBelowExp, HasVarsBelowMem, HasVarsBelow}
use Rattle.vcgen.specs.Assignments.{unchanged, for_reg, for_memory, for_left}
use Rattle.vcgen.specs.Conditions.{AnnotatedCode, reg_exp, rhs_exp, address_exp, negated, tested_exp, tested_if, taken_if, passed_if, at_target, computed_exp, action_condition, insn_condition, one_step_less, condition_at, invariant_at, or_else, wp_within, wp, body, entered, aligned_exp}
use Rattle.vcgen.specs.Safety.{IsAnnotated}
use Rattle.vcgen.proofs.Substitutions.{length-unchanged}
use Rattle.vcgen.proofs.Values.{for_reg-value, for_memory-value, for_left-value}

-- ---- free variables below n

-- the same values of the n nearest variables
abbrev Agree : ℕ → List Bound → List Bound → Type 0
Agree n ρ σ = (k : ℕ) → k < n → bound_at ρ k ≡ bound_at σ k

agree-under : (n : ℕ) (b : Bound) (ρ σ : List Bound) → Agree n ρ σ → Agree (suc n) (b ∷ ρ) (b ∷ σ)
agree-under n b ρ σ h zero lt = refl
agree-under n b ρ σ h (suc k) lt = h k (omega (arith, lt))

mutual
  exp_value-agree : (n : ℕ) (e : Exp) (v : Valuation) (ρ σ : List Bound) → HasVarsBelowExp n e → Agree n ρ σ → exp_value e v ρ ≡ exp_value e v σ
  exp_value-agree n (EReg r) v ρ σ o h = refl
  exp_value-agree n ELeft v ρ σ o h = refl
  exp_value-agree n (EVar k) v ρ σ o h = ap bound_word (h k o)
  exp_value-agree n (ELit w) v ρ σ o h = refl
  exp_value-agree n (EOp p a b) v ρ σ o h = λ i. word_of p (exp_value-agree n a v ρ σ o.0 h i) (exp_value-agree n b v ρ σ o.1 h i)
  exp_value-agree n (ESel m a) v ρ σ o h = λ i. read (mem_value-agree n m v ρ σ o.0 h i) (exp_value-agree n a v ρ σ o.1 h i)

  mem_value-agree : (n : ℕ) (m : MemExp) (v : Valuation) (ρ σ : List Bound) → HasVarsBelowMem n m → Agree n ρ σ → mem_value m v ρ ≡ mem_value m v σ
  mem_value-agree n MMem v ρ σ o h = refl
  mem_value-agree n (MVar k) v ρ σ o h = ap bound_memory (h k o)
  mem_value-agree n (MUpd m a e) v ρ σ o h = λ i. write (mem_value-agree n m v ρ σ o.0 h i) (exp_value-agree n a v ρ σ o.1 h i) (exp_value-agree n e v ρ σ o.2 h i)

true-agree : (R : Rights) (n : ℕ) (F : Form) (v : Valuation) (ρ σ : List Bound) → HasVarsBelow n F → Agree n ρ σ → IsTrueIn R F v ρ ≡ IsTrueIn R F v σ
true-agree R n FTrue v ρ σ o h = refl
true-agree R n FFalse v ρ σ o h = refl
true-agree R n (FRel p a b) v ρ σ o h = λ i. test_of p (exp_value-agree n a v ρ σ o.0 h i) (exp_value-agree n b v ρ σ o.1 h i) ≡ true
true-agree R n (FRd a) v ρ σ o h = λ i. allowed R.reads (exp_value-agree n a v ρ σ o h i) ≡ true
true-agree R n (FWr a) v ρ σ o h = λ i. allowed R.writes (exp_value-agree n a v ρ σ o h i) ≡ true
true-agree R n (FAnd A B) v ρ σ o h = λ i. true-agree R n A v ρ σ o.0 h i × true-agree R n B v ρ σ o.1 h i
true-agree R n (FOr A B) v ρ σ o h = λ i. (true-agree R n A v ρ σ o.0 h i → ⊥) → (true-agree R n B v ρ σ o.1 h i → ⊥) → ⊥
true-agree R n (FImp A B) v ρ σ o h = λ i. true-agree R n A v ρ σ o.0 h i → true-agree R n B v ρ σ o.1 h i
true-agree R n (FAll A) v ρ σ o h = λ i. (x : ℕ) → x < 2 ^ 64 → true-agree R (suc n) A v (BWord x ∷ ρ) (BWord x ∷ σ) o (agree-under n (BWord x) ρ σ h) i
true-agree R n (FAllm A) v ρ σ o h = λ i. (m : Memory) → IsMemory m → true-agree R (suc n) A v (BMem m ∷ ρ) (BMem m ∷ σ) o (agree-under n (BMem m) ρ σ h) i

-- ---- formulas over a context

mutual
  vars-exp : (l : Bool) (r : ℕ) (e : Exp) (G : List VarSort) → IsWithinExp l r e G → HasVarsBelowExp (length G) e
  vars-exp l r (EReg k) G o = tt
  vars-exp l r ELeft G o = tt
  vars-exp l r (EVar k) G o = below G k OfWord o
  vars-exp l r (ELit w) G o = tt
  vars-exp l r (EOp p a b) G o = (vars-exp l r a G o.0, vars-exp l r b G o.1)
  vars-exp l r (ESel m a) G o = (vars-mem l r m G o.0, vars-exp l r a G o.1)

  vars-mem : (l : Bool) (r : ℕ) (m : MemExp) (G : List VarSort) → IsWithinMem l r m G → HasVarsBelowMem (length G) m
  vars-mem l r MMem G o = tt
  vars-mem l r (MVar k) G o = below G k OfMem o
  vars-mem l r (MUpd m a v) G o = (vars-mem l r m G o.0, vars-exp l r a G o.1, vars-exp l r v G o.2)

pub vars-form : (l : Bool) (r : ℕ) (F : Form) (G : List VarSort) → IsWithin l r F G → HasVarsBelow (length G) F
vars-form l r FTrue G o = tt
vars-form l r FFalse G o = tt
vars-form l r (FRel p a b) G o = (vars-exp l r a G o.0, vars-exp l r b G o.1)
vars-form l r (FRd a) G o = vars-exp l r a G o
vars-form l r (FWr a) G o = vars-exp l r a G o
vars-form l r (FAnd A B) G o = (vars-form l r A G o.0, vars-form l r B G o.1)
vars-form l r (FOr A B) G o = (vars-form l r A G o.0, vars-form l r B G o.1)
vars-form l r (FImp A B) G o = (vars-form l r A G o.0, vars-form l r B G o.1)
vars-form l r (FAll A) G o = vars-form l r A (OfWord ∷ G) o
vars-form l r (FAllm A) G o = vars-form l r A (OfMem ∷ G) o

-- ---- formulas that say nothing of bound values

abbrev pub IgnoresBound : Form → Type 0
IgnoresBound F = (R : Rights) (v : Valuation) (ρ : List Bound) → length v.regs ≡ 31 → IsTrueIn R F v ρ ↔ IsTrueIn R F v []

none-agree : (ρ : List Bound) → Agree 0 ρ []
none-agree ρ k lt = absurd (omega (arith, lt))

pub ignores-closed : (F : Form) → HasVarsBelow 0 F → IgnoresBound F
ignores-closed F o R v ρ len = both_ways (IsTrueIn R F v ρ) (IsTrueIn R F v []) (true-agree R 0 F v ρ [] o (none-agree ρ))

ignores-and : (A B : Form) → IgnoresBound A → IgnoresBound B → IgnoresBound (FAnd A B)
ignores-and A B a b R v ρ len = let x = a R v ρ len in let y = b R v ρ len in (λ t. (x.0 t.0, y.0 t.1), λ t. (x.1 t.0, y.1 t.1))

pub ignores-imp : (A B : Form) → IgnoresBound A → IgnoresBound B → IgnoresBound (FImp A B)
ignores-imp A B a b R v ρ len = let x = a R v ρ len in let y = b R v ρ len in (λ t h. y.0 (t (x.1 h)), λ t h. y.1 (t (x.0 h)))

-- what is put says nothing of bound values
abbrev PutsIgnoring : Substitution → Type 0
PutsIgnoring s = (v : Valuation) (ρ : List Bound) → length v.regs ≡ 31 → substitution_value s v ρ ≡ substitution_value s v []

ignores-subst : (F : Form) (s : Substitution) → length s.regs ≡ 31 → PutsIgnoring s → IgnoresBound F → IgnoresBound (subst_form F s)
ignores-subst F s len same h R v ρ many =
    let there = subst-truth R F s v ρ len in
    let here = subst-truth R F s v [] len in
    let long : length (map (λ e. exp_value e v []) s.regs) ≡ 31 = length-map s.regs (λ e. exp_value e v []) ∙ len in
    let stays = h R (substitution_value s v []) ρ long in (
      λ t. here.1 (stays.0 (subst (λ (u : Valuation). IsTrueIn R F u ρ) (same v ρ many) (there.0 t))),
      λ t. there.1 (subst (λ (u : Valuation). IsTrueIn R F u ρ) (sym (same v ρ many)) (stays.1 (here.0 t))),
    )

ignores-for_reg : (F : Form) (r : ℕ) (e : Exp) → HasVarsBelowExp 0 e → IgnoresBound F → IgnoresBound (subst_form F (for_reg r e))
ignores-for_reg F r e o h =
    let same : PutsIgnoring (for_reg r e) =
    λ v ρ len. for_reg-value r e v ρ len ∙ ap (λ w. record v { regs = set v.regs r w }) (exp_value-agree 0 e v ρ [] o (none-agree ρ)) ∙ sym (for_reg-value r e v [] len)
    in
    ignores-subst F (for_reg r e) (length-set unchanged.regs r e ∙ length-unchanged) same h

ignores-for_memory : (F : Form) (m : MemExp) → HasVarsBelowMem 0 m → IgnoresBound F → IgnoresBound (subst_form F (for_memory m))
ignores-for_memory F m o h =
    let same : PutsIgnoring (for_memory m) =
    λ v ρ len. for_memory-value m v ρ len ∙ ap (λ w. record v { memory = w }) (mem_value-agree 0 m v ρ [] o (none-agree ρ)) ∙ sym (for_memory-value m v [] len)
    in
    ignores-subst F (for_memory m) length-unchanged same h

ignores-for_left : (F : Form) (e : Exp) → HasVarsBelowExp 0 e → IgnoresBound F → IgnoresBound (subst_form F (for_left e))
ignores-for_left F e o h =
    let same : PutsIgnoring (for_left e) =
    λ v ρ len. for_left-value e v ρ len ∙ ap (λ w. record v { left = w }) (exp_value-agree 0 e v ρ [] o (none-agree ρ)) ∙ sym (for_left-value e v [] len)
    in
    ignores-subst F (for_left e) length-unchanged same h

-- ---- what has to hold

vars-reg_exp : (r : ℕ) → HasVarsBelowExp 0 (reg_exp r)
vars-reg_exp r = elim (cases_Bool (eqb r 31)) [ inl e ↦ rw e tt | inr e ↦ rw e tt ]

vars-rhs_exp : (rhs : Rhs) → HasVarsBelowExp 0 (rhs_exp rhs)
vars-rhs_exp (Reg r) = vars-reg_exp r
vars-rhs_exp (Lit n) = tt

vars-tested_exp : (t : Tested) (x : Exp) → HasVarsBelowExp 0 x → HasVarsBelowExp 0 (tested_exp t x)
vars-tested_exp Word x o = o
vars-tested_exp LowBit x o = (o, tt)

vars-either : (c : Cond) (x : Exp) → HasVarsBelowExp 0 x → (b : Bool) → HasVarsBelow 0 (cond b (tested_if c x) (negated (tested_if c x)))
vars-either c x o true = (vars-tested_exp (cond_tested c) x o, tt)
vars-either c x o false = ((vars-tested_exp (cond_tested c) x o, tt), tt)

vars-other : (c : Cond) (x : Exp) → HasVarsBelowExp 0 x → (b : Bool) → HasVarsBelow 0 (cond b (negated (tested_if c x)) (tested_if c x))
vars-other c x o true = ((vars-tested_exp (cond_tested c) x o, tt), tt)
vars-other c x o false = (vars-tested_exp (cond_tested c) x o, tt)

vars-taken_if : (c : Cond) (x : Exp) → HasVarsBelowExp 0 x → HasVarsBelow 0 (taken_if c x)
vars-taken_if c x o = vars-either c x o (cond_taken c)

vars-passed_if : (c : Cond) (x : Exp) → HasVarsBelowExp 0 x → HasVarsBelow 0 (passed_if c x)
vars-passed_if c x o = vars-other c x o (cond_taken c)

ignores-target : (next : ℕ → Form) (o : Option ℕ) → ((j : ℕ) → IgnoresBound (next j)) → IgnoresBound (at_target next o)
ignores-target next None h = ignores-closed FFalse tt
ignores-target next (Some j) h = h j

vars-computed_exp : (word : Computed) → HasVarsBelowExp 0 (computed_exp word)
vars-computed_exp (Sum base disp) = (vars-reg_exp base, tt)
vars-computed_exp (Applied op left right) = (vars-reg_exp left, vars-rhs_exp right)

ignores-action : (next : ℕ → Form) (post : Form) (i : ℕ) (jump : Option ℕ) (e : Action) → ((j : ℕ) → IgnoresBound (next j)) → IgnoresBound post → IgnoresBound (action_condition next post i jump e)
ignores-action next post i jump (actions.Compute to word) h p = ignores-for_reg (next (i + 1)) to (computed_exp word) (vars-computed_exp word) (h (i + 1))
ignores-action next post i jump (actions.Load to base disp) h p =
    let a = address_exp base disp in
    ignores-and (FRd a) (subst_form (next (i + 1)) (for_reg to (ESel MMem a))) (ignores-closed (FRd a) (vars-reg_exp base, tt))
    (ignores-for_reg (next (i + 1)) to (ESel MMem a) (tt, (vars-reg_exp base, tt)) (h (i + 1)))
ignores-action next post i jump (actions.LoadAround to base disp) h p =
    let a : Exp = aligned_exp (address_exp base disp) in
    let vars : HasVarsBelowExp 0 a = ((vars-reg_exp base, tt), tt) in
    ignores-and (FRd a) (subst_form (next (i + 1)) (for_reg to (ESel MMem a))) (ignores-closed (FRd a) vars)
    (ignores-for_reg (next (i + 1)) to (ESel MMem a) (tt, vars) (h (i + 1)))
ignores-action next post i jump (actions.Store from base disp) h p =
    let a = address_exp base disp in
    let m = MUpd MMem a (reg_exp from) in
    ignores-and (FWr a) (subst_form (next (i + 1)) (for_memory m)) (ignores-closed (FWr a) (vars-reg_exp base, tt))
    (ignores-for_memory (next (i + 1)) m (tt, (vars-reg_exp base, tt), vars-reg_exp from) (h (i + 1)))
ignores-action next post i jump (actions.Branching Always) h p = ignores-target next jump h
ignores-action next post i jump (actions.Branching (When c reg)) h p =
    let taken = ignores-closed (taken_if c (reg_exp reg)) (vars-taken_if c (reg_exp reg) (vars-reg_exp reg)) in
    let passed = ignores-closed (passed_if c (reg_exp reg)) (vars-passed_if c (reg_exp reg) (vars-reg_exp reg)) in
    let there = at_target next jump in
    ignores-and (FImp (taken_if c (reg_exp reg)) there) (FImp (passed_if c (reg_exp reg)) (next (i + 1))) (ignores-imp (taken_if c (reg_exp reg)) there taken (ignores-target next jump h))
    (ignores-imp (passed_if c (reg_exp reg)) (next (i + 1)) passed (h (i + 1)))
ignores-action next post i jump actions.Return h p = p

ignores-insn : (next : ℕ → Form) (post : Form) (i : ℕ) (insn : Insn) → ((j : ℕ) → IgnoresBound (next j)) → IgnoresBound post → IgnoresBound (insn_condition next post i insn)
ignores-insn next post i insn h p = ignores-action next post i (jump_of i insn) (action_of insn) h p

ignores-less : (F : Form) → IgnoresBound F → IgnoresBound (one_step_less F)
ignores-less F h = ignores-for_left F (EOp Sub ELeft (ELit 1)) (tt, tt) h

ignores-condition : (bound : Option ℕ) (next : ℕ → Form) (post : Form) (i : ℕ) (o : Option Insn) → ((j : ℕ) → IgnoresBound (next j)) → IgnoresBound post → IgnoresBound (condition_at bound next post i o)
ignores-condition bound next post i None h p = ignores-closed FFalse tt
ignores-condition None next post i (Some insn) h p = ignores-insn next post i insn h p
ignores-condition (Some b) next post i (Some insn) h p =
    let less : ℕ → Form = λ j. one_step_less (next j) in
    ignores-and (FRel Ult (ELit 0) ELeft) (insn_condition less post i insn) (ignores-closed (FRel Ult (ELit 0) ELeft) (tt, tt)) (ignores-insn less post i insn (λ j. ignores-less (next j) (h j)) p)

ignores-else : (o : Option Form) (F : Form) → ((I : Form) → o ≡ Some I → HasVarsBelow 0 I) → IgnoresBound F → IgnoresBound (or_else o F)
ignores-else None F kept h = h
ignores-else (Some I) F kept h = ignores-closed I (kept I refl)

module _ (c : AnnotatedCode) (is : IsAnnotated c) where
  pub ignores-post : IgnoresBound c.post
  ignores-post = ignores-closed c.post (vars-form false 32 c.post [] is.post)

  pub ignores-pre : IgnoresBound c.pre
  ignores-pre = ignores-closed c.pre (vars-form false 32 c.pre [] is.pre)

  ignores-wp_within : (n i : ℕ) → IgnoresBound (wp_within c n i)
  ignores-wp_within zero i = ignores-else (invariant_at c.invs i) FFalse (is.invs i) (ignores-closed FFalse tt)
  ignores-wp_within (suc n) i =
      ignores-else (invariant_at c.invs i) (condition_at c.bound (wp_within c n) c.post i (slice_get c.code i)) (is.invs i) (ignores-condition c.bound (wp_within c n) c.post i (slice_get c.code i) (ignores-wp_within n) ignores-post)

  pub ignores-wp : (i : ℕ) → IgnoresBound (wp c i)
  ignores-wp i = ignores-wp_within (length c.code) i

  pub ignores-body : (i : ℕ) → IgnoresBound (body c i)
  ignores-body i = ignores-condition c.bound (wp c) c.post i (slice_get c.code i) ignores-wp ignores-post

pub ignores-entered : (bound : Option ℕ) (F : Form) → IgnoresBound F → IgnoresBound (entered bound F)
ignores-entered None F h = h
ignores-entered (Some b) F h = ignores-for_left F (ELit b) tt h
