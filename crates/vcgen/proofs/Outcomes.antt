-- Where what has to hold before an instruction is true, its step is not blocked and leads to where what has to hold is true.
use Rattle.std.proofs.Common.{◌≡◌, ℕ, ◌+◌, Bool, cond, true, false, not, List, [], length, Option, Some, None, set, refl, sym, ◌∙◌, ap, subst, inl, inr}
use Rattle.std.proofs.lemmas.Bool.{cases_Bool, false≢true}
use Rattle.std.proofs.lemmas.List.{length-set}
use Rattle.word_ops.specs.Words.{word_of, test_of}
use Rattle.word_ops.specs.Memory.{Memory, read, write}
use Rattle.word_ops.specs.Registers.{read_reg, write_reg}
use Rattle.word_ops.specs.Rights.{Rights, allowed}
use Rattle.alpha_words.specs.declared.conditions.Cond.{Cond}
use Rattle.alpha_words.specs.declared.conditions.Tested.{Tested}
use Rattle.alpha_words.specs.declared.conditions.Tested.TheVariants.{Word, LowBit}
use Rattle.alpha_words.specs.Conditions.{cond_tested, cond_relation, cond_taken}
use Rattle.alpha_words.specs.declared.insn.Insn.{Insn}
use Rattle.alpha_cfg.specs.Actions.{Computed, Sum, Applied, Always, When, Action, action_of}
use Rattle.alpha_cfg.specs.Actions as actions
use Rattle.alpha_cfg.specs.Flow.{jump_of}
use Rattle.alpha_cfg.specs.Machine.{State, rhs_word, address_of, tested_word, compares, takes, access_outcome, state_at, word_computed, action_outcome, insn_outcome, aligned}
use Rattle.alpha_cfg.specs.declared.outcome.Kind.{Kind}
use Rattle.alpha_cfg.specs.declared.outcome.Kind.TheVariants.{Load, Store}
use Rattle.alpha_cfg.specs.declared.outcome.Step.{Step}
use Rattle.alpha_cfg.specs.declared.outcome.Step.TheVariants.{Moved, Returned, Blocked}
use Rattle.formula_tree.specs.Formulas.{Exp, ESel, MemExp, MMem, MUpd, Form}
use Rattle.formula_tree.specs.Substitution.{subst_form}
use Rattle.formula_tree.specs.Truth.{Valuation, Bound, exp_value, mem_value, IsTrueIn}
use Rattle.formula_tree.proofs.Meaning.{subst-truth}
use Rattle.vcgen.specs.Assignments.{unchanged, for_reg, for_memory}
use Rattle.vcgen.specs.Conditions.{reg_exp, rhs_exp, address_exp, negated, tested_exp, tested_if, taken_if, passed_if, at_target, computed_exp, action_condition, insn_condition, aligned_exp}
use Rattle.vcgen.proofs.Substitutions.{length-unchanged}
use Rattle.vcgen.proofs.Values.{reg_exp-value, rhs_exp-value, address_exp-value, for_reg-value, for_memory-value, write_reg-set, aligned_exp-value}

-- ---- what a branch tests

not-true : (b : Bool) → not b ≡ true → b ≡ true → ⊥
not-true true n e = false≢true n
not-true false n e = false≢true e

not-false : (b : Bool) → not b ≡ false → b ≡ true
not-false true n = refl
not-false false n = sym n

false-true : (b : Bool) → b ≡ false → b ≡ true → ⊥
false-true b n e = false≢true (sym n ∙ e)

-- what a branch compares with 0 has the value that the machine compares
tested-value : (t : Tested) (x : Exp) (v : Valuation) (ρ : List Bound) → exp_value (tested_exp t x) v ρ ≡ tested_word t (exp_value x v ρ)
tested-value Word x v ρ = refl
tested-value LowBit x v ρ = refl

module _ (R : Rights) (c : Cond) (x : Exp) (v : Valuation) (ρ : List Bound) where
  same-test : test_of (cond_relation c) (exp_value (tested_exp (cond_tested c) x) v ρ) 0 ≡ compares c (exp_value x v ρ)
  same-test = ap (λ w. test_of (cond_relation c) w 0) (tested-value (cond_tested c) x v ρ)

  taken-either : (b : Bool) → cond b (compares c (exp_value x v ρ)) (not (compares c (exp_value x v ρ))) ≡ true
      → IsTrueIn R (cond b (tested_if c x) (negated (tested_if c x))) v ρ
  taken-either true e = same-test ∙ e
  taken-either false e = not-true _ (ap not same-test ∙ e)

  passed-either : (b : Bool) → cond b (compares c (exp_value x v ρ)) (not (compares c (exp_value x v ρ))) ≡ false
      → IsTrueIn R (cond b (negated (tested_if c x)) (tested_if c x)) v ρ
  passed-either true e = false-true _ (same-test ∙ e)
  passed-either false e = not-false _ (ap not same-test ∙ e)

taken_if-true : (R : Rights) (c : Cond) (x : Exp) (v : Valuation) (ρ : List Bound) → takes c (exp_value x v ρ) ≡ true → IsTrueIn R (taken_if c x) v ρ
taken_if-true R c x v ρ e = taken-either R c x v ρ (cond_taken c) e

passed_if-true : (R : Rights) (c : Cond) (x : Exp) (v : Valuation) (ρ : List Bound) → takes c (exp_value x v ρ) ≡ false → IsTrueIn R (passed_if c x) v ρ
passed_if-true R c x v ρ e = passed-either R c x v ρ (cond_taken c) e

-- ---- what holds after a step

-- the step isn't blocked; after it moved `on` holds, after a return `end`
abbrev pub Leaves : (State → Type 0) → (State → Type 0) → Step × State → Type 0
Leaves on end (Moved, t) = on t
Leaves on end (Returned, t) = end t
Leaves on end (Blocked index kind addr, t) = ⊥

leaves-access : (on end : State → Type 0) (kind : Kind) (may : Bool) (a : ℕ) (s u : State) → may ≡ true → on u → Leaves on end (access_outcome kind may a s u)
leaves-access on end kind true a s u e h = h
leaves-access on end kind false a s u e h = absurd (false≢true e)

-- the formula is true of the state, so many steps being left
abbrev pub IsTrueOf : Form → ℕ → State → Type 0
IsTrueOf F left s = IsTrueIn s.rights F (record { regs = s.regs; memory = s.memory; left = left }) []

-- what has to hold at the state's index is true of it
abbrev pub IsTrueAt : (ℕ → Form) → ℕ → State → Type 0
IsTrueAt next left t = IsTrueOf (next t.index) left t

true-target : (next : ℕ → Form) (left : ℕ) (s : State) (o : Option ℕ) → IsTrueOf (at_target next o) left s → IsTrueAt next left (state_at s o)
true-target next left s None t = absurd t
true-target next left s (Some j) t = t

-- ---- one instruction

module _ (next : ℕ → Form) (post : Form) (left : ℕ) (s : State) (len : length s.regs ≡ 31) where
  abbrev now : Valuation
  now = record { regs = s.regs; memory = s.memory; left = left }

  -- a register is written
  true-for_reg : (r w : ℕ) (e : Exp) → exp_value e now [] ≡ w → IsTrueOf (subst_form (next (s.index + 1)) (for_reg r e)) left s → IsTrueAt next left (record s { index = s.index + 1; regs = write_reg s.regs r w })
  true-for_reg r w e is t =
      let long : length (set unchanged.regs r e) ≡ 31 = length-set unchanged.regs r e ∙ length-unchanged in
      let same = for_reg-value r e now [] len ∙ (λ i. record now { regs = set s.regs r (is i) }) ∙ (λ i. record now { regs = sym (write_reg-set s.regs r w len) i }) in
      subst (λ (u : Valuation). IsTrueIn s.rights (next (s.index + 1)) u []) same ((subst-truth s.rights (next (s.index + 1)) (for_reg r e) now [] long).0 t)

  -- a memory is written
  true-for_memory : (m : MemExp) (l : Memory) → mem_value m now [] ≡ l → IsTrueOf (subst_form (next (s.index + 1)) (for_memory m)) left s → IsTrueAt next left (record s { index = s.index + 1; memory = l })
  true-for_memory m l is t =
      let same = for_memory-value m now [] len ∙ (λ i. record now { memory = is i }) in
      subst (λ (u : Valuation). IsTrueIn s.rights (next (s.index + 1)) u []) same ((subst-truth s.rights (next (s.index + 1)) (for_memory m) now [] length-unchanged).0 t)

  -- a word that is computed is the value of its expression
  computed_exp-value : (word : Computed) → exp_value (computed_exp word) now [] ≡ word_computed s.regs word
  computed_exp-value (Sum base disp) = address_exp-value base disp now []
  computed_exp-value (Applied op left right) =
      let x : exp_value (reg_exp left) now [] ≡ read_reg s.regs left = reg_exp-value left now [] in
      let y : exp_value (rhs_exp right) now [] ≡ rhs_word s.regs right = rhs_exp-value right now [] in
      λ i. word_of op (x i) (y i)

  action-leaves : (e : Action) (jump : Option ℕ) → IsTrueOf (action_condition next post s.index jump e) left s → Leaves (IsTrueAt next left) (IsTrueOf post left) (action_outcome e jump s)
  action-leaves (actions.Compute to word) jump t = true-for_reg to (word_computed s.regs word) (computed_exp word) (computed_exp-value word) t
  action-leaves (actions.Load to base disp) jump t =
      let a : ℕ = address_of s.regs base disp in
      let e : exp_value (address_exp base disp) now [] ≡ a = address_exp-value base disp now [] in
      let u : State = record s { index = s.index + 1; regs = write_reg s.regs to (read s.memory a) } in
      leaves-access (IsTrueAt next left) (IsTrueOf post left) Load (allowed s.rights.reads a) a s u (subst (λ w. allowed s.rights.reads w ≡ true) e t.0)
      (true-for_reg to (read s.memory a) (ESel MMem (address_exp base disp)) (ap (read s.memory) e) t.1)
  action-leaves (actions.LoadAround to base disp) jump t =
      let a : ℕ = aligned (address_of s.regs base disp) in
      let e : exp_value (aligned_exp (address_exp base disp)) now [] ≡ a = aligned_exp-value base disp now [] in
      let u : State = record s { index = s.index + 1; regs = write_reg s.regs to (read s.memory a) } in
      leaves-access (IsTrueAt next left) (IsTrueOf post left) Load (allowed s.rights.reads a) a s u (subst (λ w. allowed s.rights.reads w ≡ true) e t.0)
      (true-for_reg to (read s.memory a) (ESel MMem (aligned_exp (address_exp base disp))) (ap (read s.memory) e) t.1)
  action-leaves (actions.Store from base disp) jump t =
      let a : ℕ = address_of s.regs base disp in
      let e : exp_value (address_exp base disp) now [] ≡ a = address_exp-value base disp now [] in
      let x : exp_value (reg_exp from) now [] ≡ read_reg s.regs from = reg_exp-value from now [] in
      let u : State = record s { index = s.index + 1; memory = write s.memory a (read_reg s.regs from) } in
      leaves-access (IsTrueAt next left) (IsTrueOf post left) Store (allowed s.rights.writes a) a s u (subst (λ w. allowed s.rights.writes w ≡ true) e t.0)
      (true-for_memory (MUpd MMem (address_exp base disp) (reg_exp from)) (write s.memory a (read_reg s.regs from)) (λ i. write s.memory (e i) (x i)) t.1)
  action-leaves (actions.Branching Always) jump t = true-target next left s jump t
  action-leaves (actions.Branching (When c reg)) jump t =
      let x : exp_value (reg_exp reg) now [] ≡ read_reg s.regs reg = reg_exp-value reg now [] in
      elim (cases_Bool (takes c (read_reg s.regs reg))) [
        | inl e ↦ rw e (true-target next left s jump (t.0 (taken_if-true s.rights c (reg_exp reg) now [] (ap (takes c) x ∙ e))))
        | inr e ↦ rw e (t.1 (passed_if-true s.rights c (reg_exp reg) now [] (ap (takes c) x ∙ e)))
      ]
  action-leaves actions.Return jump t = t

  pub insn-leaves : (insn : Insn) → IsTrueOf (insn_condition next post s.index insn) left s → Leaves (IsTrueAt next left) (IsTrueOf post left) (insn_outcome insn s)
  insn-leaves insn t = action-leaves (action_of insn) (jump_of s.index insn) t
