-- The condition's operators are those of the code, of its formulas, of addresses and tests, and of
-- counting.
use Rattle.std.proofs.Common.{◌≡◌, ℕ, zero, suc, ◌+◌, All, List, [], ◌∷◌, length, slice_get, Option, Some, None, refl, sym, subst, inl, inr, eqb, cond, Bool, true, false}
use Rattle.std.proofs.lemmas.Bool.{cases_Bool}
use Rattle.std.proofs.lemmas.Option.{same_Some}
use Rattle.std.proofs.lemmas.List.Elements.{All-head, All-tail}
use Rattle.word_ops.specs.declared.Op.{Op}
use Rattle.word_ops.specs.declared.Op.TheVariants.{Add, Sub, Band}
use Rattle.alpha_words.specs.declared.insn.Rhs.{Rhs}
use Rattle.alpha_words.specs.declared.insn.Rhs.TheVariants.{Reg, Lit}
use Rattle.alpha_words.specs.declared.conditions.Cond.{Cond}
use Rattle.alpha_words.specs.declared.conditions.Tested.{Tested}
use Rattle.alpha_words.specs.declared.conditions.Tested.TheVariants.{Word, LowBit}
use Rattle.alpha_words.specs.Conditions.{cond_tested, cond_taken}
use Rattle.alpha_words.specs.declared.insn.Insn.{Insn}
use Rattle.alpha_words.specs.declared.insn.Insn.TheVariants.{Oper}
use Rattle.alpha_cfg.specs.Flow.{jump_of, AreOfProfile}
use Rattle.formula_tree.specs.Formulas.{Exp, EReg, ELeft, ELit, EOp, ESel, MemExp, MMem, MUpd, Form, FFalse, FImp}
use Rattle.formula_tree.specs.Substitution.{subst_form}
use Rattle.formula_tree.specs.Operators.{UsesExp, UsesMem, Uses}
use Rattle.formula_tree.proofs.Used.{AllUse, all-set, PutsIn, subst_form-uses}
use Rattle.lf_encode.specs.Contexts.{machine_names}
use Rattle.lf_encode.proofs.Named.{named_form-uses}
use Rattle.vcgen.specs.Assignments.{regs_from, unchanged, for_reg, for_memory, for_left}
use Rattle.vcgen.specs.Conditions.{AnnotatedCode, reg_exp, rhs_exp, address_exp, aligned_exp, negated, tested_exp, tested_if, taken_if, passed_if, at_target, computed_exp, action_condition, insn_condition, one_step_less, condition_at, invariant_at, or_else, wp_within, wp, body, alls, close, entered, inv_parts, condition}
use Rattle.vcgen.proofs.WalkTrees.{subst-names}
use Rattle.word_ops.specs.declared.Profile.{Profile}
use Rattle.alpha_words.specs.Encoding.{has_insn}
use Rattle.alpha_cfg.specs.Actions as actions
use Rattle.alpha_cfg.specs.Actions.{Computed, Sum, Applied, Always, When, Action, action_of}
use Rattle.word_ops.specs.Operators.{has_op}

-- the effect's operator, if it has one, is among these
abbrev pub HasOperator : (Op → Type 0) → Action → Type 0
HasOperator P (actions.Compute to (Applied op left right)) = P op
HasOperator P e = Unit {0}

-- code of a profile has that profile's operators alone
pub profile-operators : (p : Profile) (code : List Insn) → AreOfProfile p code → (i : ℕ) (insn : Insn) → slice_get code i ≡ Some insn
    → HasOperator (λ o. has_op p o ≡ true) (action_of insn)
profile-operators p code of i insn e = go insn (of i insn e)
  where
    go : (x : Insn) → has_insn p x ≡ true → HasOperator (λ o. has_op p o ≡ true) (action_of x)
    go (Oper op ra rhs rc) h = h
    go _ h = tt

-- addresses and tests take sums and conjunctions, counted steps differences
module _ (P : Op → Type 0) (sums : P Add) (ands : P Band) (subs : P Sub) where
  uses-reg : (r : ℕ) → UsesExp P (reg_exp r)
  uses-reg r = elim (eqb r 31) as (λ b. UsesExp P (cond b (ELit 0) (EReg r))) [ true ↦ tt | false ↦ tt ]

  uses-rhs : (rhs : Rhs) → UsesExp P (rhs_exp rhs)
  uses-rhs (Reg r) = uses-reg r
  uses-rhs (Lit n) = tt

  uses-tested : (t : Tested) (x : Exp) → UsesExp P x → UsesExp P (tested_exp t x)
  uses-tested Word x u = u
  uses-tested LowBit x u = (ands, u, tt)

  uses-either : (c : Cond) (x : Exp) → UsesExp P x → (b : Bool) → Uses P (cond b (tested_if c x) (negated (tested_if c x)))
  uses-either c x u true = (uses-tested (cond_tested c) x u, tt)
  uses-either c x u false = ((uses-tested (cond_tested c) x u, tt), tt)

  uses-other : (c : Cond) (x : Exp) → UsesExp P x → (b : Bool) → Uses P (cond b (negated (tested_if c x)) (tested_if c x))
  uses-other c x u true = ((uses-tested (cond_tested c) x u, tt), tt)
  uses-other c x u false = (uses-tested (cond_tested c) x u, tt)

  uses-taken : (c : Cond) (x : Exp) → UsesExp P x → Uses P (taken_if c x)
  uses-taken c x u = uses-either c x u (cond_taken c)

  uses-passed : (c : Cond) (x : Exp) → UsesExp P x → Uses P (passed_if c x)
  uses-passed c x u = uses-other c x u (cond_taken c)

  -- ---- assignments

  all-from : (n r : ℕ) → AllUse P (regs_from n r)
  all-from zero r = tt
  all-from (suc n) r = (tt, all-from n (suc r))

  puts-unchanged : PutsIn P unchanged
  unfolding unchanged
  puts-unchanged = record { regs = all-from 31 0; memory = tt; left = tt }

  uses-assigned : (F : Form) (r : ℕ) (e : Exp) → Uses P F → UsesExp P e → Uses P (subst_form F (for_reg r e))
  uses-assigned F r e h u = subst_form-uses P F (for_reg r e) h
      (record { regs = all-set P unchanged.regs r e puts-unchanged.regs u; memory = puts-unchanged.memory; left = puts-unchanged.left })

  uses-stored : (F : Form) (m : MemExp) → Uses P F → UsesMem P m → Uses P (subst_form F (for_memory m))
  uses-stored F m h u = subst_form-uses P F (for_memory m) h (record { regs = puts-unchanged.regs; memory = u; left = puts-unchanged.left })

  uses-counted : (F : Form) (e : Exp) → Uses P F → UsesExp P e → Uses P (subst_form F (for_left e))
  uses-counted F e h u = subst_form-uses P F (for_left e) h (record { regs = puts-unchanged.regs; memory = puts-unchanged.memory; left = u })

  -- ---- what has to hold

  uses-target : (next : ℕ → Form) (o : Option ℕ) → ((j : ℕ) → Uses P (next j)) → Uses P (at_target next o)
  uses-target next None h = tt
  uses-target next (Some j) h = h j

  uses-computed : (to : ℕ) (word : Computed) → HasOperator P (actions.Compute to word) → UsesExp P (computed_exp word)
  uses-computed to (Sum base disp) o = (sums, uses-reg base, tt)
  uses-computed to (Applied op left right) o = (o, uses-reg left, uses-rhs right)

  uses-action : (next : ℕ → Form) (post : Form) (i : ℕ) (jump : Option ℕ) (e : Action) → HasOperator P e → ((j : ℕ) → Uses P (next j)) → Uses P post → Uses P (action_condition next post i jump e)
  uses-action next post i jump (actions.Compute to word) o h p = uses-assigned (next (i + 1)) to (computed_exp word) (h (i + 1)) (uses-computed to word o)
  uses-action next post i jump (actions.Load to base disp) o h p =
      let a : UsesExp P (address_exp base disp) = (sums, uses-reg base, tt) in
      (a, uses-assigned (next (i + 1)) to (ESel MMem (address_exp base disp)) (h (i + 1)) (tt, a))
  uses-action next post i jump (actions.LoadAround to base disp) o h p =
      let a : UsesExp P (aligned_exp (address_exp base disp)) = (ands, (sums, uses-reg base, tt), tt) in
      (a, uses-assigned (next (i + 1)) to (ESel MMem (aligned_exp (address_exp base disp))) (h (i + 1)) (tt, a))
  uses-action next post i jump (actions.Store from base disp) o h p =
      let a : UsesExp P (address_exp base disp) = (sums, uses-reg base, tt) in
      (a, uses-stored (next (i + 1)) (MUpd MMem (address_exp base disp) (reg_exp from)) (h (i + 1)) (tt, a, uses-reg from))
  uses-action next post i jump (actions.Branching Always) o h p = uses-target next jump h
  uses-action next post i jump (actions.Branching (When c reg)) o h p =
      ((uses-taken c (reg_exp reg) (uses-reg reg), uses-target next jump h), (uses-passed c (reg_exp reg) (uses-reg reg), h (i + 1)))
  uses-action next post i jump actions.Return o h p = p

  uses-insn : (next : ℕ → Form) (post : Form) (i : ℕ) (insn : Insn) → HasOperator P (action_of insn)
      → ((j : ℕ) → Uses P (next j)) → Uses P post → Uses P (insn_condition next post i insn)
  uses-insn next post i insn o h p = uses-action next post i (jump_of i insn) (action_of insn) o h p

  uses-at : (bound : Option ℕ) (next : ℕ → Form) (post : Form) (i : ℕ) (found : Option Insn) → ((insn : Insn) → found ≡ Some insn → HasOperator P (action_of insn)) → ((j : ℕ) → Uses P (next j)) → Uses P post →
      Uses P (condition_at bound next post i found)
  uses-at bound next post i None o h p = tt
  uses-at None next post i (Some insn) o h p = uses-insn next post i insn (o insn refl) h p
  uses-at (Some bound) next post i (Some insn) o h p = (
    (tt, tt),
    uses-insn (λ j. one_step_less (next j)) post i insn (o insn refl)
        (λ j. uses-counted (next j) (EOp Sub ELeft (ELit 1)) (h j) (subs, tt, tt)) p,
  )

  uses-else : (o : Option Form) (F : Form) → ((I : Form) → o ≡ Some I → Uses P I) → Uses P F → Uses P (or_else o F)
  uses-else None F k h = h
  uses-else (Some I) F k h = k I refl

  uses-inv : (ps : List (ℕ × Form)) → All (λ p. Uses P p.1) ps → (i : ℕ) (F : Form) → invariant_at ps i ≡ Some F → Uses P F
  uses-inv [] h i F q = cc
  uses-inv (p ∷ ps) h i F q =
      elim (cases_Bool (eqb p.0 i)) [
        | inl e ↦ subst (λ G. Uses P G) (same_Some p.1 F (rw e at q)) (All-head (λ (p : ℕ × Form). Uses P p.1) p ps h)
        | inr e ↦ uses-inv ps (All-tail (λ (p : ℕ × Form). Uses P p.1) p ps h) i F (rw e at q)
      ]

  -- ---- closing

  uses-alls : (n : ℕ) (F : Form) → Uses P F → Uses P (alls n F)
  uses-alls zero F h = h
  uses-alls (suc n) F h = uses-alls n F h

  uses-close : (bound : Option ℕ) (F : Form) → Uses P F → Uses P (close bound F)
  uses-close bound F h = go bound
    where
      named : Uses P (subst_form F machine_names)
      named = subst (λ E. Uses P E) (sym (subst-names F)) (named_form-uses P 0 F h)

      go : (b : Option ℕ) → Uses P (close b F)
      go None = uses-alls 31 (subst_form F machine_names) named
      go (Some n) = uses-alls 31 (subst_form F machine_names) named

  uses-entered : (bound : Option ℕ) (F : Form) → Uses P F → Uses P (entered bound F)
  uses-entered None F h = h
  uses-entered (Some bound) F h = uses-counted F (ELit bound) h tt

  -- ---- the condition

  module _ (c : AnnotatedCode) (code : (i : ℕ) (insn : Insn) → slice_get c.code i ≡ Some insn → HasOperator P (action_of insn))
      (pre : Uses P c.pre) (post : Uses P c.post) (invs : All (λ p. Uses P p.1) c.invs) where
    uses-index : (next : ℕ → Form) (i : ℕ) → ((j : ℕ) → Uses P (next j)) → Uses P (condition_at c.bound next c.post i (slice_get c.code i))
    uses-index next i h = uses-at c.bound next c.post i (slice_get c.code i) (code i) h post

    uses-wp_within : (n i : ℕ) → Uses P (wp_within c n i)
    uses-wp_within zero i = uses-else (invariant_at c.invs i) FFalse (uses-inv c.invs invs i) tt
    uses-wp_within (suc n) i =
        uses-else (invariant_at c.invs i) (condition_at c.bound (wp_within c n) c.post i (slice_get c.code i)) (uses-inv c.invs invs i) (uses-index (wp_within c n) i (uses-wp_within n))

    uses-body : (i : ℕ) → Uses P (body c i)
    uses-body i = uses-index (wp c) i (uses-wp_within (length c.code))

    uses-parts : (ps : List (ℕ × Form)) → All (λ p. Uses P p.1) ps → Uses P (inv_parts c ps)
    uses-parts [] h = tt
    uses-parts (p ∷ ps) h = (
      uses-close c.bound (FImp p.1 (body c p.0)) (All-head (λ (q : ℕ × Form). Uses P q.1) p ps h, uses-body p.0),
      uses-parts ps (All-tail (λ (q : ℕ × Form). Uses P q.1) p ps h),
    )

    pub condition-uses : Uses P (condition c)
    condition-uses = (
      uses-close c.bound (FImp c.pre (entered c.bound (wp c 0)))
          (pre, uses-entered c.bound (wp c 0) (uses-wp_within (length c.code) 0)),
      uses-parts c.invs invs,
    )
