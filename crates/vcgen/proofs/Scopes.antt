-- The condition of formulas over registers, m and, where steps are counted, those that are left
-- names none of these, and all its literals are words.
use Rattle.std.proofs.Common.{◌≡◌, ℕ, zero, suc, ◌+◌, ◌<◌, ◌≤◌, ◌^◌, All, Bool, cond, true, false, T, is_some, List, [], ◌∷◌, length, get_or, slice_get, Option, Some, None, refl, sym, ◌∙◌, ap, subst, arith, inl, inr, eqb, ℤ, pos, negsuc, set, get_or-set_same, get_or-set_other, length-set}
use Rattle.std.proofs.lemmas.Bool.{cases_Bool, cases_lt, cases_eq, eq-eqb, ne_eqb}
use Rattle.std.proofs.lemmas.List.{get_or_past}
use Rattle.std.proofs.lemmas.Option.{same_Some}
use Rattle.std.proofs.lemmas.List.Elements.{All-head, All-tail}
use Rattle.std.specs.Int.{cast_unsigned, w64}
use Rattle.word_ops.specs.declared.Op.TheVariants.{Sub}
use Rattle.alpha_words.specs.declared.insn.Rhs.{Rhs}
use Rattle.alpha_words.specs.declared.insn.Rhs.TheVariants.{Reg, Lit}
use Rattle.alpha_words.specs.declared.conditions.Cond.{Cond}
use Rattle.alpha_words.specs.declared.conditions.Tested.{Tested}
use Rattle.alpha_words.specs.declared.conditions.Tested.TheVariants.{Word, LowBit}
use Rattle.alpha_words.specs.Conditions.{cond_tested, cond_taken}
use Rattle.alpha_words.specs.declared.insn.Insn.{Insn}
use Rattle.alpha_words.specs.Encoding.{IsRhs, HasBits}
use Rattle.alpha_cfg.specs.Actions.{Computed, Sum, Applied, Always, When, Action, action_of, HasOperands}
use Rattle.alpha_cfg.specs.Actions as actions
use Rattle.alpha_cfg.proofs.States.{action_of-operands}
use Rattle.alpha_cfg.specs.Flow.{jump_of, IsInsn}
use Rattle.formula_tree.specs.Formulas.{Exp, EReg, ELeft, ELit, EOp, ESel, MemExp, MMem, MUpd, Form, FFalse, FImp}
use Rattle.formula_tree.specs.Substitution.{subst_form}
use Rattle.formula_tree.specs.Scope.{VarSort, OfWord, OfMem, IsWithinExp, IsWithinMem, IsWithin, IsOver}
use Rattle.lf_encode.specs.Contexts.{machine_names}
use Rattle.lf_encode.specs.Naming.{words}
use Rattle.lf_encode.proofs.MachineContext.{within-wider}
use Rattle.lf_encode.proofs.Naming.{Front, Machine, Counted, has_steps, reg_count, far, named_form-over}
use Rattle.vcgen.specs.Assignments.{regs_from, unchanged, for_reg, for_memory, for_left}
use Rattle.vcgen.specs.Conditions.{AnnotatedCode, reg_exp, rhs_exp, address_exp, negated, tested_exp, tested_if, taken_if, passed_if, at_target, computed_exp, action_condition, insn_condition, one_step_less, condition_at, invariant_at, or_else, wp_within, wp, body, alls, close, entered, inv_parts, condition, aligned_exp}
use Rattle.vcgen.specs.Safety.{IsBound, IsAnnotated}
use Rattle.vcgen.proofs.Substitutions.{unchanged-regs, unchanged-memory, unchanged-left, length-unchanged}
use Rattle.vcgen.proofs.WalkTrees.{subst-names}
use Rattle.vcgen.proofs.Within.{Puts, subst-within, within-more}

-- ---- operands

module _ (l : Bool) where
  over-reg_exp : (r : ℕ) → r < 32 → IsWithinExp l 32 (reg_exp r) []
  over-reg_exp r h = elim (cases_eq r 31) [ inl e ↦ rw (eq-eqb r 31 e) (omega arith) | inr e ↦ rw (ne_eqb r 31 e) (omega (arith, h, e)) ]

  over-rhs_exp : (rhs : Rhs) → IsRhs rhs → IsWithinExp l 32 (rhs_exp rhs) []
  over-rhs_exp (Reg r) h = over-reg_exp r h
  over-rhs_exp (Lit n) h = omega (arith, h)

  disp-word : (z : ℤ) → HasBits 31 z → cast_unsigned w64 z < 2 ^ 64
  disp-word (pos n) h = omega (arith, h)
  disp-word (negsuc n) h = omega (arith, h)

  over-address_exp : (rb : ℕ) (disp : ℤ) → rb < 32 → HasBits 31 disp
      → IsWithinExp l 32 (address_exp rb disp) []
  over-address_exp rb disp h b = (over-reg_exp rb h, disp-word disp b)

  over-tested_exp : (t : Tested) (x : Exp) → IsWithinExp l 32 x [] → IsWithinExp l 32 (tested_exp t x) []
  over-tested_exp Word x o = o
  over-tested_exp LowBit x o = (o, omega arith)

  over-outcome : (c : Cond) (x : Exp) → IsWithinExp l 32 x [] → (b : Bool) → IsWithin l 32 (cond b (tested_if c x) (negated (tested_if c x))) []
  over-outcome c x o true = (over-tested_exp (cond_tested c) x o, omega arith)
  over-outcome c x o false = ((over-tested_exp (cond_tested c) x o, omega arith), tt)

  over-other : (c : Cond) (x : Exp) → IsWithinExp l 32 x [] → (b : Bool) → IsWithin l 32 (cond b (negated (tested_if c x)) (tested_if c x)) []
  over-other c x o true = ((over-tested_exp (cond_tested c) x o, omega arith), tt)
  over-other c x o false = (over-tested_exp (cond_tested c) x o, omega arith)

  over-taken_if : (c : Cond) (x : Exp) → IsWithinExp l 32 x [] → IsWithin l 32 (taken_if c x) []
  over-taken_if c x o = over-outcome c x o (cond_taken c)

  over-passed_if : (c : Cond) (x : Exp) → IsWithinExp l 32 x [] → IsWithin l 32 (passed_if c x) []
  over-passed_if c x o = over-other c x o (cond_taken c)

  -- ---- assignments

  regs_from-at : (n k j : ℕ) → j < n → get_or (regs_from n k) j (ELit 0) ≡ EReg (k + j)
  regs_from-at zero k j h = absurd (omega (arith, h))
  regs_from-at (suc n) k zero h = let e : k ≡ k + 0 = omega arith in ap EReg e
  regs_from-at (suc n) k (suc j) h = let e : suc k + j ≡ k + suc j = omega arith in regs_from-at n (suc k) j (omega (arith, h)) ∙ ap EReg e

  unchanged-at : (n j : ℕ) → n ≡ 31 → j < n → get_or unchanged.regs j (ELit 0) ≡ EReg j
  unchanged-at n j e h = let z : 0 + j ≡ j = omega arith in ap (λ l. get_or l j (ELit 0)) (unchanged-regs n e) ∙ regs_from-at n 0 j h ∙ ap EReg z

  -- behind r30 nothing is put, and what isn't there is 0
  over-past : (es : List Exp) (k : ℕ) → length es ≡ 31 → 31 ≤ k
      → IsWithinExp l 32 (get_or es k (ELit 0)) []
  over-past es k many past =
      subst (λ e. IsWithinExp l 32 e []) (sym (get_or_past es k (ELit 0) (omega (arith, many, past))))
      (omega arith)

  over-low : (j : ℕ) → j < 31 → IsWithinExp l 32 (get_or unchanged.regs j (ELit 0)) []
  over-low j h = subst (λ e. IsWithinExp l 32 e []) (sym (unchanged-at 31 j refl h)) (omega (arith, h))

  over-unchanged : (j : ℕ) → IsWithinExp l 32 (get_or unchanged.regs j (ELit 0)) []
  over-unchanged j = elim (cases_lt j 31) [
    | inl low ↦ over-low j low
    | inr past ↦ over-past unchanged.regs j length-unchanged past
  ]

  over-same_memory : IsWithinMem l 32 unchanged.memory []
  over-same_memory = subst (λ m. IsWithinMem l 32 m []) (sym unchanged-memory) (omega arith)

  over-same_left : T l → IsWithinExp l 32 unchanged.left []
  over-same_left h = subst (λ e. IsWithinExp l 32 e []) (sym unchanged-left) h

  over-set : (r : ℕ) (e : Exp) (k : ℕ) → IsWithinExp l 32 e [] → k < 31
      → IsWithinExp l 32 (get_or (set unchanged.regs r e) k (ELit 0)) []
  over-set r e k o low = elim (cases_eq k r) [
    | inl same ↦
        let put = ap (λ j. get_or (set unchanged.regs r e) j (ELit 0)) same
        ∙ get_or-set_same unchanged.regs r e (ELit 0) (omega (arith, low, same, length-unchanged)) in
        subst (λ x. IsWithinExp l 32 x []) (sym put) o
    | inr apart ↦ subst (λ x. IsWithinExp l 32 x [])
        (sym (get_or-set_other unchanged.regs r k e (ELit 0) apart)) (over-low k low)
  ]

  over-for_reg : (r : ℕ) (e : Exp) → IsWithinExp l 32 e [] → Puts l (for_reg r e) []
  over-for_reg r e o = record {
    regs = λ k h. elim (cases_lt k 31) [
      | inl low ↦ over-set r e k o low
      | inr past ↦ over-past (set unchanged.regs r e) k
          (length-set unchanged.regs r e ∙ length-unchanged) past
    ];
    memory = over-same_memory;
    left = over-same_left;
  }

  over-for_memory : (m : MemExp) → IsWithinMem l 32 m [] → Puts l (for_memory m) []
  over-for_memory m o = record {
    regs = λ k h. over-unchanged k;
    memory = o;
    left = over-same_left;
  }

  over-for_left : (e : Exp) → IsWithinExp l 32 e [] → Puts l (for_left e) []
  over-for_left e o = record {
    regs = λ k h. over-unchanged k;
    memory = over-same_memory;
    left = λ h. o;
  }

  over-subst-reg : (F : Form) (r : ℕ) (e : Exp) → IsWithin l 32 F [] → IsWithinExp l 32 e []
      → IsWithin l 32 (subst_form F (for_reg r e)) []
  over-subst-reg F r e h o = subst-within l F (for_reg r e) [] h (over-for_reg r e o)

  -- ---- what has to hold

  wider : (F : Form) → IsWithin l 31 F [] → IsWithin l 32 F []
  wider F h = within-wider l F 31 32 [] (omega arith) h

  over-target : (next : ℕ → Form) (o : Option ℕ) → ((j : ℕ) → IsWithin l 32 (next j) [])
      → IsWithin l 32 (at_target next o) []
  over-target next None h = tt
  over-target next (Some j) h = h j

  over-computed_exp : (to : ℕ) (word : Computed) → HasOperands (actions.Compute to word)
      → IsWithinExp l 32 (computed_exp word) []
  over-computed_exp to (Sum base disp) w = over-address_exp base disp w.0 w.1
  over-computed_exp to (Applied op left right) w = (over-reg_exp left w.0, over-rhs_exp right w.1)

  over-action : (next : ℕ → Form) (post : Form) (i : ℕ) (jump : Option ℕ) (e : Action) → HasOperands e
      → ((j : ℕ) → IsWithin l 32 (next j) []) → IsWithin l 32 post []
      → IsWithin l 32 (action_condition next post i jump e) []
  over-action next post i jump (actions.Compute to word) w h p = over-subst-reg (next (i + 1)) to (computed_exp word) (h (i + 1)) (over-computed_exp to word w)
  over-action next post i jump (actions.Load to base disp) w h p =
      let o = over-address_exp base disp w.0 w.1 in
      (o, over-subst-reg (next (i + 1)) to (ESel MMem (address_exp base disp)) (h (i + 1)) (omega arith, o))
  over-action next post i jump (actions.LoadAround to base disp) w h p =
      let a : Exp = aligned_exp (address_exp base disp) in
      let o : IsWithinExp l 32 a [] = (over-address_exp base disp w.0 w.1, omega arith) in
      (o, over-subst-reg (next (i + 1)) to (ESel MMem a) (h (i + 1)) (omega arith, o))
  over-action next post i jump (actions.Store from base disp) w h p =
      let o = over-address_exp base disp w.0 w.1 in
      let m : MemExp = MUpd MMem (address_exp base disp) (reg_exp from) in (
        o,
        subst-within l (next (i + 1)) (for_memory m) [] (h (i + 1))
            (over-for_memory m (omega arith, o, over-reg_exp from w.2)),
      )
  over-action next post i jump (actions.Branching Always) w h p = over-target next jump h
  over-action next post i jump (actions.Branching (When c reg)) w h p =
      let o = over-reg_exp reg w in
      ((over-taken_if c (reg_exp reg) o, over-target next jump h), (over-passed_if c (reg_exp reg) o, h (i + 1)))
  over-action next post i jump actions.Return w h p = p

  over-insn : (next : ℕ → Form) (post : Form) (i : ℕ) (insn : Insn) → IsInsn insn
      → ((j : ℕ) → IsWithin l 32 (next j) []) → IsWithin l 32 post []
      → IsWithin l 32 (insn_condition next post i insn) []
  over-insn next post i insn w h p = over-action next post i (jump_of i insn) (action_of insn) (action_of-operands insn w) h p

  over-else : (o : Option Form) (F : Form) → ((I : Form) → o ≡ Some I → IsWithin l 32 I [])
      → IsWithin l 32 F [] → IsWithin l 32 (or_else o F) []
  over-else None F k h = h
  over-else (Some I) F k h = k I refl

  over-inv : (ps : List (ℕ × Form)) → All (λ p. IsWithin l 31 p.1 []) ps → (i : ℕ) (F : Form) → invariant_at ps i ≡ Some F → IsWithin l 31 F []
  over-inv [] h i F q = cc
  over-inv (p ∷ ps) h i F q =
      elim (cases_Bool (eqb p.0 i)) [
        | inl e ↦ subst (λ G. IsWithin l 31 G []) (same_Some p.1 F (rw e at q)) (All-head (λ (p : ℕ × Form). IsWithin l 31 p.1 []) p ps h)
        | inr e ↦ over-inv ps (All-tail (λ (p : ℕ × Form). IsWithin l 31 p.1 []) p ps h) i F (rw e at q)
      ]

-- ---- where steps are counted

-- one step less names what it named
over-less : (F : Form) → IsWithin true 32 F [] → IsWithin true 32 (one_step_less F) []
over-less F h =
    subst-within true F (for_left (EOp Sub ELeft (ELit 1))) [] h
    (over-for_left true (EOp Sub ELeft (ELit 1)) (tt, omega arith))

over-entered : (bound : Option ℕ) (F : Form) → IsBound bound → IsWithin (is_some bound) 32 F []
    → IsWithin (is_some bound) 32 (entered bound F) []
over-entered None F word h = h
over-entered (Some bound) F word h =
    subst-within true F (for_left (ELit bound)) [] h (over-for_left true (ELit bound) word)

over-condition_at : (bound : Option ℕ) (next : ℕ → Form) (post : Form) (i : ℕ) (o : Option Insn)
    → ((insn : Insn) → o ≡ Some insn → IsInsn insn)
    → ((j : ℕ) → IsWithin (is_some bound) 32 (next j) [])
    → IsWithin (is_some bound) 32 post []
    → IsWithin (is_some bound) 32 (condition_at bound next post i o) []
over-condition_at bound next post i None w h p = tt
over-condition_at None next post i (Some insn) w h p =
    over-insn false next post i insn (w insn refl) h p
over-condition_at (Some bound) next post i (Some insn) w h p = (
  (omega arith, tt),
  over-insn true (λ j. one_step_less (next j)) post i insn (w insn refl)
      (λ j. over-less (next j) (h j)) p,
)

-- what doesn't name the steps that are left is one of both kinds
over-either : (bound : Option ℕ) (F : Form) → IsOver 32 F [] → IsWithin (is_some bound) 32 F []
over-either None F h = h
over-either (Some bound) F h = within-more true 32 F [] h

-- ---- closing

-- n of k words are bound
over-alls : (n m k : ℕ) (F : Form) (G : List VarSort) → k ≡ n + m → IsOver 0 F (words k G) → IsOver 0 (alls n F) (words m G)
over-alls zero m k F G e h = let same : k ≡ m = omega (arith, e) in subst (λ j. IsOver 0 F (words j G)) same h
over-alls (suc n) m k F G e h = over-alls n (suc m) k F G (omega (arith, e)) h

over-named : (front : Front) (F : Form) → IsWithin (has_steps front) (reg_count front 32) F []
    → IsOver 0 (subst_form F machine_names) (far 31 front)
over-named front F h =
    subst (λ E. IsOver 0 E (far 31 front)) (sym (subst-names F)) (named_form-over front 32 F [] h)

over-close : (bound : Option ℕ) (F : Form) → IsWithin (is_some bound) 32 F []
    → IsOver 0 (close bound F) []
over-close None F h =
    over-alls 31 0 31 (subst_form F machine_names) (OfMem ∷ []) refl (over-named Machine F h)
over-close (Some bound) F h =
    over-alls 31 0 31 (subst_form F machine_names) (OfMem ∷ OfWord ∷ []) refl
    (over-named Counted F h)

-- ---- the condition

module _ (c : AnnotatedCode) (is : IsAnnotated c)
    (over : All (λ p. IsWithin (is_some c.bound) 31 p.1 []) c.invs) where
  abbrev counts : Bool
  counts = is_some c.bound

  over-invs : (i : ℕ) (F : Form) → invariant_at c.invs i ≡ Some F → IsWithin counts 32 F []
  over-invs i F at = wider counts F (over-inv counts c.invs over i F at)

  at-index : (next : ℕ → Form) (i : ℕ) → ((j : ℕ) → IsWithin counts 32 (next j) [])
      → IsWithin counts 32 (condition_at c.bound next c.post i (slice_get c.code i)) []
  at-index next i h =
      over-condition_at c.bound next c.post i (slice_get c.code i) (is.code.encoded i) h
      (over-either c.bound c.post is.post)

  over-wp_within : (n i : ℕ) → IsWithin counts 32 (wp_within c n i) []
  over-wp_within zero i = over-else counts (invariant_at c.invs i) FFalse (over-invs i) tt
  over-wp_within (suc n) i =
      over-else counts (invariant_at c.invs i)
      (condition_at c.bound (wp_within c n) c.post i (slice_get c.code i)) (over-invs i)
      (at-index (wp_within c n) i (over-wp_within n))

  over-body : (i : ℕ) → IsWithin counts 32 (body c i) []
  over-body i = at-index (wp c) i (over-wp_within (length c.code))

  over-parts : (ps : List (ℕ × Form)) → All (λ p. IsWithin counts 31 p.1 []) ps
      → IsOver 0 (inv_parts c ps) []
  over-parts [] h = tt
  over-parts (p ∷ ps) h =
      let first = All-head (λ (q : ℕ × Form). IsWithin counts 31 q.1 []) p ps h in (
        over-close c.bound (FImp p.1 (body c p.0)) (wider counts p.1 first, over-body p.0),
        over-parts ps (All-tail (λ (q : ℕ × Form). IsWithin counts 31 q.1 []) p ps h),
      )

  pub condition-closed : IsOver 0 (condition c) []
  condition-closed = (
    over-close c.bound (FImp c.pre (entered c.bound (wp c 0))) (
      over-either c.bound c.pre is.pre,
      over-entered c.bound (wp c 0) is.bound (over-wp_within (length c.code) 0),
    ),
    over-parts c.invs over,
  )
