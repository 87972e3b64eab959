-- The walk forward on terms makes the encoding of the verification condition.
use Rattle.std.proofs.Common.{◌≡◌, ℕ, zero, suc, ◌+◌, eqb, Bool, true, false, cond, is_some, List, [], ◌∷◌, map, length, set, slice_get, Option, Some, None, refl, sym, ◌∙◌, ap, inl, inr, ℤ}
use Rattle.std.proofs.Common.{length-set}
use Rattle.std.proofs.lemmas.List.{map-set}
use Rattle.std.proofs.Math.ListN.{get_or-map}
use Rattle.std.proofs.lemmas.Bool.{cases_Bool}
use Rattle.std.specs.Int.{cast_unsigned, w64}
use Rattle.word_ops.specs.declared.Op.TheVariants.{Add, Sub}
use Rattle.word_ops.specs.declared.Rel.TheVariants.{Ult}
use Rattle.alpha_words.specs.declared.insn.Rhs.{Rhs}
use Rattle.alpha_words.specs.declared.insn.Rhs.TheVariants.{Reg, Lit}
use Rattle.alpha_words.specs.declared.conditions.Cond.{Cond}
use Rattle.alpha_words.specs.declared.conditions.Tested.{Tested}
use Rattle.alpha_words.specs.declared.conditions.Tested.TheVariants.{Word, LowBit}
use Rattle.alpha_words.specs.Conditions.{cond_tested, cond_relation, cond_taken}
use Rattle.alpha_words.specs.declared.insn.Insn.{Insn}
use Rattle.alpha_cfg.specs.Actions.{Computed, Sum, Applied, Always, When, Action, action_of}
use Rattle.alpha_cfg.specs.Actions as actions
use Rattle.alpha_cfg.specs.Flow.{jump_of}
use Rattle.term_table.specs.Tree.{Tree, Var}
use Rattle.lf_signature.specs.Terms.{lit, op_term, sel, upd, falsity, rel_term, rd, wr, and_term, imp_term, not_term, all_term, allm_term}
use Rattle.formula_tree.specs.Formulas.{Exp, ELeft, ELit, EOp, ESel, MemExp, MMem, MUpd, Form, FFalse, FImp, FAllm}
use Rattle.formula_tree.specs.Substitution.{Substitution, subst_exp, subst_mem, subst_form}
use Rattle.formula_tree.specs.Scope.{IsWithin, IsOver}
use Rattle.formula_tree.proofs.Putting.{change_none}
use Rattle.lf_encode.specs.Encoding.{exp_encoding, mem_encoding, form_encoding}
use Rattle.lf_encode.specs.Contexts.{vars_down, machine_names, EncodesForm}
use Rattle.lf_encode.specs.PutTree.{MachineTerms, machine_terms_of, put_tree}
use Rattle.lf_encode.specs.Naming.{named_form}
use Rattle.lf_encode.proofs.Naming.{named_form-is}
use Rattle.lf_encode.proofs.MachineContext.{of-context, of-left, names_in-machine, names_in-left}
use Rattle.lf_encode.proofs.PutTree.{put-encoding}
use Rattle.vcgen.specs.Assignments.{for_reg, for_memory}
use Rattle.vcgen.specs.Conditions.{AnnotatedCode, reg_exp, rhs_exp, address_exp, negated, tested_exp, tested_if, taken_if, passed_if, at_target, computed_exp, action_condition, insn_condition, one_step_less, condition_at, invariant_at, or_else, wp_within, wp, body, alls, close, entered, inv_parts, condition, aligned_exp}
use Rattle.vcgen.specs.Encoded.{context_of, AreEncodings}
use Rattle.vcgen.specs.WalkTree.{reg_term, rhs_term, address_term, tested_part, tested_term, taken_term, passed_term, with_reg, with_memory, walked_to, computed_term, terms_effect, walked_on, walked_insn, with_left, one_less, walked_at, inv_term, ended, walked, walked_from, var_terms, start_terms, entry_terms, all_terms, machine_term, closed_term, part_terms, condition_term, aligned_term}
use Rattle.vcgen.proofs.Substitutions.{subst-for_reg, subst-for_memory, subst-for_left, subst-other}

-- ---- formulas in the context of code with a bound

pub encodes-within : (bound : Option ℕ) (F : Form) (t : Tree) → EncodesForm (context_of bound) F t
    → IsWithin (is_some bound) 31 F []
encodes-within None F t f = of-context 31 F f.over
encodes-within (Some bound) F t f = of-left 31 F f.over

pub encodes-is : (bound : Option ℕ) (F : Form) (t : Tree) → EncodesForm (context_of bound) F t
    → form_encoding (subst_form F machine_names) ≡ t
encodes-is None F t f = ap (λ s. form_encoding (subst_form F s)) (sym names_in-machine) ∙ f.is
encodes-is (Some bound) F t f =
    ap (λ s. form_encoding (subst_form F s)) (sym names_in-left) ∙ f.is

pub length-vars_down : (n : ℕ) → length (vars_down n) ≡ n
length-vars_down zero = refl
length-vars_down (suc n) = ap suc (length-vars_down n)

pub length-machine_names : length machine_names.regs ≡ 31
unfolding machine_names
length-machine_names = length-vars_down 31

-- the names are put by recursion on the formula
pub subst-names : (F : Form) → subst_form F machine_names ≡ named_form 0 F
subst-names F = ap (subst_form F) (sym (change_none machine_names)) ∙ named_form-is 0 F

-- terms put in the encoding of a formula over r0 to r30, m and the steps that are left
put-names : (l : Bool) (r : ℕ) (F : Form) (t : Substitution) → length t.regs ≡ 31
    → IsWithin l r F []
    → put_tree (machine_terms_of t) 0 (form_encoding (subst_form F machine_names))
    ≡ form_encoding (subst_form F t)
put-names l r F t len over =
    ap (λ s. put_tree (machine_terms_of t) 0 (form_encoding (subst_form F s)))
    (sym (change_none machine_names)) ∙ put-encoding l r F [] t len over
    ∙ ap (λ s. form_encoding (subst_form F s)) (change_none t)

-- ---- operands

reg_term-is : (t : Substitution) (r : ℕ) → reg_term (machine_terms_of t) r ≡ exp_encoding (subst_exp (reg_exp r) t)
reg_term-is t r = elim (cases_Bool (eqb r 31)) [ inl e ↦ rw e refl | inr e ↦ rw e (get_or-map exp_encoding t.regs r (ELit 0)) ]

rhs_term-is : (t : Substitution) (rhs : Rhs) → rhs_term (machine_terms_of t) rhs ≡ exp_encoding (subst_exp (rhs_exp rhs) t)
rhs_term-is t (Reg r) = reg_term-is t r
rhs_term-is t (Lit n) = refl

address_term-is : (t : Substitution) (rb : ℕ) (disp : ℤ) → address_term (machine_terms_of t) rb disp ≡ exp_encoding (subst_exp (address_exp rb disp) t)
address_term-is t rb disp = ap (λ x. op_term Add x (lit (cast_unsigned w64 disp))) (reg_term-is t rb)

aligned_term-is : (t : Substitution) (rb : ℕ) (disp : ℤ) → aligned_term (address_term (machine_terms_of t) rb disp) ≡ exp_encoding (subst_exp (aligned_exp (address_exp rb disp)) t)
aligned_term-is t rb disp = ap aligned_term (address_term-is t rb disp)

computed_term-is : (t : Substitution) (word : Computed) → computed_term (machine_terms_of t) word ≡ exp_encoding (subst_exp (computed_exp word) t)
computed_term-is t (Sum base disp) = address_term-is t base disp
computed_term-is t (Applied op left right) = let a = reg_term-is t left in let b = rhs_term-is t right in λ k. op_term op (a k) (b k)

tested_part-is : (s : Tested) (x : Exp) (t : Substitution) → tested_part s (exp_encoding (subst_exp x t)) ≡ exp_encoding (subst_exp (tested_exp s x) t)
tested_part-is Word x t = refl
tested_part-is LowBit x t = refl

tested_term-is : (c : Cond) (x : Exp) (t : Substitution) → tested_term c (exp_encoding (subst_exp x t)) ≡ form_encoding (subst_form (tested_if c x) t)
tested_term-is c x t = ap (λ y. rel_term (cond_relation c) y (lit 0)) (tested_part-is (cond_tested c) x t)

either-is : (c : Cond) (x : Exp) (t : Substitution) (b : Bool) → cond b (tested_term c (exp_encoding (subst_exp x t))) (not_term (tested_term c (exp_encoding (subst_exp x t))))
    ≡ form_encoding (subst_form (cond b (tested_if c x) (negated (tested_if c x))) t)
either-is c x t true = tested_term-is c x t
either-is c x t false = ap not_term (tested_term-is c x t)

other-is : (c : Cond) (x : Exp) (t : Substitution) (b : Bool) → cond b (not_term (tested_term c (exp_encoding (subst_exp x t)))) (tested_term c (exp_encoding (subst_exp x t)))
    ≡ form_encoding (subst_form (cond b (negated (tested_if c x)) (tested_if c x)) t)
other-is c x t true = ap not_term (tested_term-is c x t)
other-is c x t false = tested_term-is c x t

taken_term-is : (c : Cond) (x : Exp) (t : Substitution) → taken_term c (tested_term c (exp_encoding (subst_exp x t))) ≡ form_encoding (subst_form (taken_if c x) t)
taken_term-is c x t = either-is c x t (cond_taken c)

passed_term-is : (c : Cond) (x : Exp) (t : Substitution) → passed_term c (tested_term c (exp_encoding (subst_exp x t))) ≡ form_encoding (subst_form (passed_if c x) t)
passed_term-is c x t = other-is c x t (cond_taken c)

-- ---- one instruction

-- the walk on makes the encodings of what has to hold at an index, with what was put
abbrev Makes : (ℕ → MachineTerms → Tree) → (ℕ → Form) → Type 0
Makes next F = (j : ℕ) (t : Substitution) → length t.regs ≡ 31 → next j (machine_terms_of t) ≡ form_encoding (subst_form (F j) t)

module _ (next : ℕ → MachineTerms → Tree) (F : ℕ → Form) (makes : Makes next F) (post : Form)
    (over : IsOver 32 post []) where
  reg-set : (j r : ℕ) (u : Tree) (e : Exp) (t : Substitution) → length t.regs ≡ 31 → u ≡ exp_encoding (subst_exp e t) → next j (with_reg (machine_terms_of t) r u) ≡ form_encoding (subst_form (subst_form (F j) (for_reg r e)) t)
  reg-set j r u e t len is =
      let long : length (set t.regs r (subst_exp e t)) ≡ 31 = length-set t.regs r (subst_exp e t) ∙ len in
      ap (λ x. next j (with_reg (machine_terms_of t) r x)) is
      ∙ ap (λ l. next j (record { regs = l; memory = mem_encoding t.memory; left = exp_encoding t.left })) (sym (map-set exp_encoding t.regs r (subst_exp e t)))
      ∙ makes j (record t { regs = set t.regs r (subst_exp e t) }) long
      ∙ ap form_encoding (sym (subst-for_reg (F j) r e t len))

  memory-set : (j : ℕ) (u : Tree) (m : MemExp) (t : Substitution) → length t.regs ≡ 31 → u ≡ mem_encoding (subst_mem m t) → next j (with_memory (machine_terms_of t) u) ≡ form_encoding (subst_form (subst_form (F j) (for_memory m)) t)
  memory-set j u m t len is =
      ap (λ x. next j (with_memory (machine_terms_of t) x)) is ∙ makes j (record t { memory = subst_mem m t }) len ∙ ap form_encoding (sym (subst-for_memory (F j) m t len))

  walked_to-is : (o : Option ℕ) (t : Substitution) → length t.regs ≡ 31 → walked_to next o (machine_terms_of t) ≡ form_encoding (subst_form (at_target F o) t)
  walked_to-is None t len = refl
  walked_to-is (Some j) t len = makes j t len

  action-is : (i : ℕ) (jump : Option ℕ) (e : Action) (t : Substitution) → length t.regs ≡ 31 →
      walked_on next (form_encoding (subst_form post machine_names)) i (machine_terms_of t) (terms_effect jump e (machine_terms_of t)) ≡ form_encoding (subst_form (action_condition F post i jump e) t)
  action-is i jump (actions.Compute to word) t len = reg-set (i + 1) to (computed_term (machine_terms_of t) word) (computed_exp word) t len (computed_term-is t word)
  action-is i jump (actions.Load to base disp) t len =
      let a = address_term-is t base disp in
      let on = reg-set (i + 1) to (sel (mem_encoding t.memory) (address_term (machine_terms_of t) base disp)) (ESel MMem (address_exp base disp)) t len (ap (sel (mem_encoding t.memory)) a) in
      λ k. and_term (rd (a k)) (on k)
  action-is i jump (actions.LoadAround to base disp) t len =
      let a = aligned_term-is t base disp in
      let word = sel (mem_encoding t.memory) (aligned_term (address_term (machine_terms_of t) base disp)) in
      let on = reg-set (i + 1) to word (ESel MMem (aligned_exp (address_exp base disp))) t len (ap (sel (mem_encoding t.memory)) a) in
      λ k. and_term (rd (a k)) (on k)
  action-is i jump (actions.Store from base disp) t len =
      let a = address_term-is t base disp in
      let v = reg_term-is t from in
      let after = upd (mem_encoding t.memory) (address_term (machine_terms_of t) base disp) (reg_term (machine_terms_of t) from) in
      let on = memory-set (i + 1) after (MUpd MMem (address_exp base disp) (reg_exp from)) t len (λ k. upd (mem_encoding t.memory) (a k) (v k)) in
      λ k. and_term (wr (a k)) (on k)
  action-is i jump (actions.Branching Always) t len = walked_to-is jump t len
  action-is i jump (actions.Branching (When c reg)) t len =
      let x = ap (λ u. taken_term c (tested_term c u)) (reg_term-is t reg) ∙ taken_term-is c (reg_exp reg) t in
      let y = ap (λ u. passed_term c (tested_term c u)) (reg_term-is t reg) ∙ passed_term-is c (reg_exp reg) t in
      let a = walked_to-is jump t len in
      let b = makes (i + 1) t len in
      λ k. and_term (imp_term (x k) (a k)) (imp_term (y k) (b k))
  action-is i jump actions.Return t len = put-names false 32 post t len over

  pub walked_insn-is : (i : ℕ) (insn : Insn) (t : Substitution) → length t.regs ≡ 31
      → walked_insn next (form_encoding (subst_form post machine_names)) i insn (machine_terms_of t)
      ≡ form_encoding (subst_form (insn_condition F post i insn) t)
  walked_insn-is i insn t len = action-is i (jump_of i insn) (action_of insn) t len

-- ---- one step less

-- the walk with one step less
abbrev after_step : (ℕ → MachineTerms → Tree) → ℕ → MachineTerms → Tree
after_step next j s = next j (one_less s)

abbrev less : Substitution → Substitution
less t = record t { left = EOp Sub t.left (ELit 1) }

target-less : (next : ℕ → MachineTerms → Tree) (jump : Option ℕ) (s : MachineTerms)
    → walked_to next jump (one_less s) ≡ walked_to (after_step next) jump s
target-less next None s = refl
target-less next (Some j) s = refl

module _ (next : ℕ → MachineTerms → Tree) (post : Form) (over : IsOver 32 post []) where
  abbrev ending : Tree
  ending = form_encoding (subst_form post machine_names)

  -- an instruction does the same to the other terms, whatever stands for the steps that are left
  action-less : (i : ℕ) (jump : Option ℕ) (e : Action) (t : Substitution) → length t.regs ≡ 31
      → walked_on next ending i (machine_terms_of (less t))
      (terms_effect jump e (machine_terms_of (less t)))
      ≡ walked_on (after_step next) ending i (machine_terms_of t)
      (terms_effect jump e (machine_terms_of t))
  action-less i jump (actions.Compute to (Sum base disp)) t len = refl
  action-less i jump (actions.Compute to (Applied op left (Reg right))) t len = refl
  action-less i jump (actions.Compute to (Applied op left (Lit n))) t len = refl
  action-less i jump (actions.Load to base disp) t len = refl
  action-less i jump (actions.LoadAround to base disp) t len = refl
  action-less i jump (actions.Store from base disp) t len = refl
  action-less i jump (actions.Branching Always) t len = target-less next jump (machine_terms_of t)
  action-less i jump (actions.Branching (When c reg)) t len =
      let s = machine_terms_of t in
      let tested = tested_term c (reg_term s reg) in
      λ k. and_term (imp_term (taken_term c tested) (target-less next jump s k))
      (imp_term (passed_term c tested) (next (i + 1) (one_less s)))
  action-less i jump actions.Return t len =
      put-names false 32 post (less t) len over
      ∙ ap form_encoding (subst-other 32 post [] t (EOp Sub t.left (ELit 1)) over)
      ∙ sym (put-names false 32 post t len over)

-- the walk on makes what has to hold with one step less
makes-less : (next : ℕ → MachineTerms → Tree) (F : ℕ → Form) → Makes next F
    → Makes (after_step next) (λ j. one_step_less (F j))
makes-less next F makes j t len =
    makes j (less t) len
    ∙ ap form_encoding (sym (subst-for_left (F j) (EOp Sub ELeft (ELit 1)) t len))

module _ (next : ℕ → MachineTerms → Tree) (F : ℕ → Form) (makes : Makes next F) (post : Form)
    (over : IsOver 32 post []) where
  counted-is : (i : ℕ) (insn : Insn) (t : Substitution) → length t.regs ≡ 31
      → walked_insn next (form_encoding (subst_form post machine_names)) i insn
      (one_less (machine_terms_of t))
      ≡ form_encoding (subst_form (insn_condition (λ j. one_step_less (F j)) post i insn) t)
  counted-is i insn t len =
      action-less next post over i (jump_of i insn) (action_of insn) t len
      ∙ walked_insn-is (after_step next) (λ j. one_step_less (F j)) (makes-less next F makes) post
      over i insn t len

  walked_at-is : (bound : Option ℕ) (i : ℕ) (o : Option Insn) (t : Substitution)
      → length t.regs ≡ 31
      → walked_at bound next (form_encoding (subst_form post machine_names)) i o
      (machine_terms_of t) ≡ form_encoding (subst_form (condition_at bound F post i o) t)
  walked_at-is None i None t len = refl
  walked_at-is (Some bound) i None t len = refl
  walked_at-is None i (Some insn) t len = walked_insn-is next F makes post over i insn t len
  walked_at-is (Some bound) i (Some insn) t len =
      ap (and_term (rel_term Ult (lit 0) (exp_encoding t.left))) (counted-is i insn t len)

-- ---- all of the code

ended-is : (bound : Option ℕ) (ps : List (ℕ × Tree)) (qs : List (ℕ × Form)) (i : ℕ) (u : Tree)
    (F : Form) (t : Substitution) → AreEncodings bound ps qs → length t.regs ≡ 31
    → u ≡ form_encoding (subst_form F t)
    → ended (inv_term ps i) u (machine_terms_of t)
    ≡ form_encoding (subst_form (or_else (invariant_at qs i) F) t)
ended-is bound [] [] i u F t f len is = is
ended-is bound [] (q ∷ qs) i u F t f len is = absurd f
ended-is bound (p ∷ ps) [] i u F t f len is = absurd f
ended-is bound (p ∷ ps) (q ∷ qs) i u F t f len is =
    elim (cases_Bool (eqb q.0 i)) [
      | inl here ↦ rw (← f.0, here)
          (ap (put_tree (machine_terms_of t) 0) (sym (encodes-is bound q.1 p.1 f.1))
          ∙ put-names (is_some bound) 31 q.1 t len (encodes-within bound q.1 p.1 f.1))
      | inr other ↦ rw (← f.0, other) (ended-is bound ps qs i u F t f.2 len is)
    ]

-- ---- quantifiers

encoding-alls : (n : ℕ) (F : Form) → all_terms n (form_encoding F) ≡ form_encoding (alls n F)
encoding-alls zero F = refl
encoding-alls (suc n) F = ap all_term (encoding-alls n F)

machine_term-is : (F : Form) → machine_term (form_encoding F) ≡ form_encoding (FAllm (alls 31 F))
unfolding machine_term
machine_term-is F = ap allm_term (encoding-alls 31 F)

closed_term-is : (bound : Option ℕ) (F : Form)
    → closed_term bound (form_encoding (subst_form F machine_names)) ≡ form_encoding (close bound F)
closed_term-is None F = machine_term-is (subst_form F machine_names)
closed_term-is (Some bound) F = ap all_term (machine_term-is (subst_form F machine_names))

encoding-vars : (n : ℕ) → var_terms n ≡ map exp_encoding (vars_down n)
encoding-vars zero = refl
encoding-vars (suc n) = ap (λ l. Var n ∷ l) (encoding-vars n)

start_terms-is : start_terms ≡ machine_terms_of machine_names
unfolding start_terms machine_names
start_terms-is = ap (λ l. record { regs = l; memory = Var 31; left = Var 32 }) (encoding-vars 31)

-- ---- at index 0 all steps are left

abbrev entry_names : Option ℕ → Substitution
entry_names None = machine_names
entry_names (Some bound) = record machine_names { left = ELit bound }

entry_terms-is : (bound : Option ℕ) → entry_terms bound ≡ machine_terms_of (entry_names bound)
entry_terms-is None = start_terms-is
entry_terms-is (Some bound) = ap (λ s. with_left s (lit bound)) start_terms-is

length-entry : (bound : Option ℕ) → length (entry_names bound).regs ≡ 31
length-entry None = length-machine_names
length-entry (Some bound) = length-machine_names

entered-is : (bound : Option ℕ) (F : Form)
    → subst_form F (entry_names bound) ≡ subst_form (entered bound F) machine_names
entered-is None F = refl
entered-is (Some bound) F = sym (subst-for_left F (ELit bound) machine_names length-machine_names)

-- ---- the condition

module _ (bound : Option ℕ) (code : List Insn) (ps : List (ℕ × Tree)) (qs : List (ℕ × Form))
    (pre post : Form) (f : AreEncodings bound ps qs) (pre_over : IsOver 32 pre [])
    (post_over : IsOver 32 post []) where
  abbrev the_code : AnnotatedCode
  the_code = record { code = code; invs = qs; pre = pre; post = post; bound = bound }

  abbrev post_term : Tree
  post_term = form_encoding (subst_form post machine_names)

  -- the walk on over at most n instructions
  abbrev walk_on : ℕ → ℕ → MachineTerms → Tree
  walk_on n = walked bound code ps post_term n

  -- the walk makes the encoding of what has to hold, with what was put
  pub walked-is : (n i : ℕ) (t : Substitution) → length t.regs ≡ 31
      → walk_on n i (machine_terms_of t) ≡ form_encoding (subst_form (wp_within the_code n i) t)
  walked-is zero i t len = ended-is bound ps qs i falsity FFalse t f len refl
  walked-is (suc n) i t len =
      ended-is bound ps qs i
      (walked_at bound (walk_on n) post_term i (slice_get code i) (machine_terms_of t))
      (condition_at bound (wp_within the_code n) post i (slice_get code i)) t f len
      (walked_at-is (walk_on n) (wp_within the_code n) (walked-is n) post post_over bound i
      (slice_get code i) t len)

  walked_from-is : (i : ℕ)
      → walked_from bound code ps post_term i start_terms
      ≡ form_encoding (subst_form (body the_code i) machine_names)
  walked_from-is i =
      ap (walked_from bound code ps post_term i) start_terms-is
      ∙ walked_at-is (walk_on (length code)) (wp the_code) (walked-is (length code)) post post_over
      bound i (slice_get code i) machine_names length-machine_names

  parts-are : (rs : List (ℕ × Tree)) (us : List (ℕ × Form)) → AreEncodings bound rs us
      → part_terms bound code ps post_term rs ≡ form_encoding (inv_parts the_code us)
  parts-are [] [] g = refl
  parts-are [] (u ∷ us) g = absurd g
  parts-are (r ∷ rs) [] g = absurd g
  parts-are (r ∷ rs) (u ∷ us) g =
      let b = walked_from-is r.0
      ∙ ap (λ j. form_encoding (subst_form (body the_code j) machine_names)) (sym g.0) in
      let inv = sym (encodes-is bound u.1 r.1 g.1) in
      let here = (λ k. closed_term bound (imp_term (inv k) (b k)))
      ∙ closed_term-is bound (FImp u.1 (body the_code u.0)) in
      let rest = parts-are rs us g.2 in
      λ k. and_term (here k) (rest k)

  entry-is : walk_on (length code) 0 (entry_terms bound)
      ≡ form_encoding (subst_form (entered bound (wp the_code 0)) machine_names)
  entry-is =
      ap (walk_on (length code) 0) (entry_terms-is bound)
      ∙ walked-is (length code) 0 (entry_names bound) (length-entry bound)
      ∙ ap form_encoding (entered-is bound (wp the_code 0))

  -- the term that the walk makes is the encoding of the condition
  pub condition_term-is :
      condition_term bound code ps (form_encoding (subst_form pre machine_names)) post_term
      ≡ form_encoding (condition the_code)
  condition_term-is =
      let named = form_encoding (subst_form pre machine_names) in
      let here = (λ k. closed_term bound (imp_term named (entry-is k)))
      ∙ closed_term-is bound (FImp pre (entered bound (wp the_code 0))) in
      let rest = parts-are ps qs f in
      λ k. and_term (here k) (rest k)
