-- Code whose condition is true in every structure is safe.
use Rattle.std.proofs.Common.{◌≡◌, ℕ, zero, suc, ◌+◌, ◌-◌, ◌%◌, ◌<◌, ◌≤◌, ◌^◌, eqb, List, [], ◌∷◌, length, get_or, slice_get, Option, Some, None, refl, sym, ◌∙◌, ap, subst, arith, inl, inr}
use Rattle.std.proofs.lemmas.Bool.{cases_Bool, eqb-true, ltb-true}
use Rattle.std.proofs.lemmas.Option.{none-some, same_Some, slice_get-get_or}
use Rattle.word_ops.specs.Rights.{Rights}
use Rattle.word_ops.specs.declared.Op.TheVariants.{Sub}
use Rattle.alpha_words.specs.declared.insn.Insn.{Insn}
use Rattle.alpha_words.specs.declared.insn.Insn.TheVariants.{Ret}
use Rattle.alpha_cfg.specs.Machine.{State, IsState, insn_outcome, step_of, ends_with, run_of}
use Rattle.alpha_cfg.specs.declared.outcome.Step.{Step}
use Rattle.alpha_cfg.specs.declared.outcome.Step.TheVariants.{Moved, Returned, Blocked}
use Rattle.alpha_cfg.specs.declared.outcome.Outcome.{Outcome}
use Rattle.alpha_cfg.specs.declared.outcome.Outcome.TheVariants as outcomes
use Rattle.alpha_cfg.proofs.States.{IsAt, insn_outcome-keeps, insn_outcome-rights}
use Rattle.formula_tree.specs.Formulas.{ELeft, ELit, EOp, Form, FImp}
use Rattle.formula_tree.specs.Truth.{Valuation, IsTrueIn, nowhere, IsValid}
use Rattle.formula_tree.proofs.Meaning.{subst-truth}
use Rattle.policy_set.specs.Satisfies.{Satisfies}
use Rattle.vcgen.specs.Assignments.{for_left}
use Rattle.vcgen.specs.Conditions.{AnnotatedCode, one_step_less, counted_condition, condition_at, invariant_at, wp, body, close, entered, inv_parts, condition}
use Rattle.vcgen.specs.Safety.{IsBound, IsStepCount, IsAnnotated, IsGoodEnd, IsSafe, IsReturn, ReturnsWithin, Holds, all_steps, steps_after, IsGoodStep, IsGoodRun}
use Rattle.vcgen.proofs.Substitutions.{length-unchanged}
use Rattle.vcgen.proofs.Values.{for_left-value}
use Rattle.vcgen.proofs.Conditions.{inv_cases, wp-other, wp-annotated}
use Rattle.vcgen.proofs.BoundValues.{IgnoresBound, ignores-closed, ignores-imp, ignores-pre, ignores-wp, ignores-body, ignores-entered}
use Rattle.vcgen.proofs.Closing.{close-true}
use Rattle.vcgen.proofs.Outcomes.{Leaves, IsTrueOf, IsTrueAt, insn-leaves}
use Rattle.vcgen.proofs.StepCounts.{true-left}

-- ---- the part of an invariant

part-at : (c : AnnotatedCode) (R : Rights) (ps : List (ℕ × Form)) (i : ℕ) (F : Form) → invariant_at ps i ≡ Some F → IsTrueIn R (inv_parts c ps) nowhere [] → IsTrueIn R (close c.bound (FImp F (body c i))) nowhere []
part-at c R [] i F at t = absurd (none-some F at)
part-at c R (p ∷ ps) i F at t =
    elim (cases_Bool (eqb p.0 i)) [
      | inl e ↦
          let same : p.1 ≡ F = same_Some p.1 F (rw e at at) in
          let here : p.0 ≡ i = eqb-true p.0 i e in
          subst (λ j. IsTrueIn R (close c.bound (FImp F (body c j))) nowhere []) here (subst (λ G. IsTrueIn R (close c.bound (FImp G (body c p.0))) nowhere []) same t.0)
      | inr e ↦ part-at c R ps i F (rw e at at) t.1
    ]

-- ---- steps that are left

-- where steps are counted, some are left
abbrev pub SomeLeft : Option ℕ → ℕ → Type 0
SomeLeft None left = Unit {0}
SomeLeft (Some bound) left = 0 < left

some-left : (bound : Option ℕ) (next : ℕ → Form) (post : Form) (i left : ℕ) (s : State) (o : Option Insn) → IsTrueOf (condition_at bound next post i o) left s → SomeLeft bound left
some-left None next post i left s o t = tt
some-left (Some b) next post i left s None t = absurd t
some-left (Some b) next post i left s (Some insn) t = ltb-true 0 left t.0

step-count : (bound : Option ℕ) (left : ℕ) → IsStepCount bound left → IsStepCount bound (steps_after bound 1 left)
step-count None left h = h
step-count (Some b) left h = omega (arith, h)

true-less : (R : Rights) (F : Form) (v : Valuation) → length v.regs ≡ 31 → 0 < v.left → v.left < 2 ^ 64 → IsTrueIn R (one_step_less F) v [] → IsTrueIn R F (record v { left = v.left - 1 }) []
true-less R F v len some few t =
    let less : (v.left + (2 ^ 64 - 1)) % 2 ^ 64 ≡ v.left - 1 = omega (arith, some, few) in
    let same = for_left-value (EOp Sub ELeft (ELit 1)) v [] len ∙ ap (λ n. record v { left = n }) less in
    subst (λ (u : Valuation). IsTrueIn R F u []) same ((subst-truth R F (for_left (EOp Sub ELeft (ELit 1))) v [] length-unchanged).0 t)

-- ---- the start

none-left : (bound : Option ℕ) → IsStepCount bound 0
none-left None = refl
none-left (Some b) = omega arith

all-few : (bound : Option ℕ) → IsBound bound → IsStepCount bound (all_steps bound)
all-few None h = refl
all-few (Some b) h = h

entered-true : (bound : Option ℕ) (G : Form) (R : Rights) (v : Valuation) → length v.regs ≡ 31 → v.left ≡ 0 → IsTrueIn R (entered bound G) v [] → IsTrueIn R G (record v { left = all_steps bound }) []
entered-true None G R v len e t = subst (λ n. IsTrueIn R G (record v { left = n }) []) e t
entered-true (Some b) G R v len e t = subst (λ (u : Valuation). IsTrueIn R G u []) (for_left-value (ELit b) v [] len) ((subst-truth R G (for_left (ELit b)) v [] length-unchanged).0 t)

-- ---- one step

-- what a step keeps
abbrev Keeps : List Insn → State → Step × State → Type 0
Keeps code s (step, t) = IsAt (length code) t × (t.rights ≡ s.rights)

keeps : (code : List Insn) (s : State) (p : Step × State) → IsAt (length code) p.1 → p.1.rights ≡ s.rights → Keeps code s p
keeps code s (step, t) is same = (is, same)

leaves-weaker : (code : List Insn) (s : State) (on more end : State → Type 0) → ((t : State) → IsAt (length code) t → t.rights ≡ s.rights → on t → more t) → (p : Step × State) → Keeps code s p → Leaves on end p → Leaves more end p
leaves-weaker code s on more end f (Moved, t) k h = f t k.0 k.1 h
leaves-weaker code s on more end f (Returned, t) k h = h
leaves-weaker code s on more end f (Blocked i a b, t) k h = absurd h

counted-leaves : (code : List Insn) (bound : Option ℕ) (next : ℕ → Form) (post : Form) (left : ℕ) (s : State) (insn : Insn) → length s.regs ≡ 31 → IsStepCount bound left → Keeps code s (insn_outcome insn s) →
    IsTrueOf (counted_condition bound next post s.index insn) left s → Leaves (IsTrueAt next (steps_after bound 1 left)) (IsTrueOf post left) (insn_outcome insn s)
counted-leaves code None next post left s insn len few kept t = insn-leaves next post left s len insn t
counted-leaves code (Some b) next post left s insn len few kept t =
    let less : ℕ → Form = λ j. one_step_less (next j) in
    let now : State → Valuation = λ u. record { regs = u.regs; memory = u.memory; left = left } in
    leaves-weaker code s (IsTrueAt less left) (IsTrueAt next (left - 1)) (IsTrueOf post left) (λ u is same h. true-less u.rights (next u.index) (now u) is.state.regs.count (ltb-true 0 left t.0) few h) (insn_outcome insn s) kept
    (insn-leaves less post left s len insn t.1)

module _ (c : AnnotatedCode) (is : IsAnnotated c) (valid : IsValid (condition c)) where
  -- what has to hold before its instruction is true at each index, annotated or not
  body-true : (s : State) (left : ℕ) → Holds c s left → IsTrueOf (body c s.index) left s
  body-true s left h =
      elim (inv_cases c.invs s.index) [
        | inl free ↦ subst (λ F. IsTrueOf F left s) (wp-other c is s.index h.within free) h.here
        | inr kept ↦
            let F : Form = kept.0 in
            let ignores : IgnoresBound (FImp F (body c s.index)) = ignores-imp F (body c s.index) (ignores-closed F (is.invs s.index F kept.1)) (ignores-body c is s.index) in
            close-true s.rights c.bound (FImp F (body c s.index)) (record { regs = s.regs; memory = s.memory; left = left }) ignores h.state.regs h.state.memory h.few (part-at c s.rights c.invs s.index F kept.1 (valid s.rights h.state.rights).1)
            (subst (λ G. IsTrueOf G left s) (wp-annotated c is s.index F kept.1) h.here)
      ]

  -- what holds after a step from a state at which it holds
  abbrev Goes : State → ℕ → State → Type 0
  Goes s left t = Holds c t (steps_after c.bound 1 left) × (t.rights ≡ s.rights)

  some-here : (s : State) (left : ℕ) → Holds c s left → SomeLeft c.bound left
  some-here s left h = some-left c.bound (wp c) c.post s.index left s (slice_get c.code s.index) (body-true s left h)

  step-leaves : (s : State) (left : ℕ) → Holds c s left → Leaves (Goes s left) (IsTrueOf c.post left) (step_of c.code s)
  step-leaves s left h =
      let insn : Insn = get_or c.code s.index Ret in
      let at : slice_get c.code s.index ≡ Some insn = slice_get-get_or c.code s.index Ret h.within in
      let kept : Keeps c.code s (insn_outcome insn s) =
      keeps c.code s (insn_outcome insn s) (insn_outcome-keeps c.code insn s is.code at (is.code.encoded s.index insn at) (record { index = h.within; state = h.state })) (insn_outcome-rights insn s)
      in
      let here : IsTrueOf (counted_condition c.bound (wp c) c.post s.index insn) left s = subst (λ o. IsTrueOf (condition_at c.bound (wp c) c.post s.index o) left s) at (body-true s left h) in
      rw at (leaves-weaker c.code s (IsTrueAt (wp c) (steps_after c.bound 1 left)) (Goes s left) (IsTrueOf c.post left) (λ t ok same on. (record { within = ok.index; state = ok.state; few = step-count c.bound left h.few; here = on }, same)) (insn_outcome insn s) kept
      (counted-leaves c.code c.bound (wp c) c.post left s insn h.state.regs.count h.few kept here))

  -- the postcondition says nothing of the steps that are left
  post-satisfied : (s : State) (left : ℕ) → IsTrueOf c.post left s → Satisfies s.rights s.regs s.memory c.post
  post-satisfied s left t =
      true-left s.rights 32 c.post [] (record { regs = s.regs; memory = s.memory; left = left })
      0 [] is.post t

  good-step : (s : State) (left : ℕ) (p : Step × State) → Leaves (Goes s left) (IsTrueOf c.post left) p → IsGoodStep c s left p
  good-step s left (Moved, t) h = h
  good-step s left (Returned, t) h = post-satisfied t left h
  good-step s left (Blocked i k a, t) h = absurd h

  pub steps-good : (s : State) (left : ℕ) → Holds c s left → IsGoodStep c s left (step_of c.code s)
  steps-good s left h = good-step s left (step_of c.code s) (step-leaves s left h)

  -- ---- runs

  -- one step more in front of a good run
  good-more : (n : ℕ) (s t : State) (left more : ℕ) → t.rights ≡ s.rights → steps_after c.bound n more ≡ steps_after c.bound (suc n) left → (q : Outcome × State) → IsGoodRun c t n more q → IsGoodRun c s (suc n) left q
  good-more n s t left more same count (outcomes.OutOfSteps, u) h = (subst (λ k. Holds c u k) count h.0, h.1 ∙ same)
  good-more n s t left more same count (outcomes.Returned word, u) h = h
  good-more n s t left more same count (outcomes.Blocked i k a, u) h = absurd h

  count-after : (bound : Option ℕ) (n left : ℕ) → steps_after bound n (steps_after bound 1 left) ≡ steps_after bound (suc n) left
  count-after None n left = refl
  count-after (Some b) n left = omega arith

  count-none : (bound : Option ℕ) (left : ℕ) → left ≡ steps_after bound 0 left
  count-none None left = refl
  count-none (Some b) left = omega arith

  good-run : (n : ℕ) (s : State) (left : ℕ) → ((t : State) (k : ℕ) → Holds c t k → IsGoodRun c t n k (run_of c.code n t)) → (p : Step × State) → Leaves (Goes s left) (IsTrueOf c.post left) p → IsGoodRun c s (suc n) left (ends_with p.0 p.1 (run_of c.code n p.1))
  good-run n s left go (Moved, t) h = good-more n s t left (steps_after c.bound 1 left) h.1 (count-after c.bound n left) (run_of c.code n t) (go t (steps_after c.bound 1 left) h.0)
  good-run n s left go (Returned, t) h = post-satisfied t left h
  good-run n s left go (Blocked i k a, t) h = absurd h

  pub runs-good : (n : ℕ) (s : State) (left : ℕ) → Holds c s left → IsGoodRun c s n left (run_of c.code n s)
  runs-good zero s left h = (subst (λ k. Holds c s k) (count-none c.bound left) h, refl)
  runs-good (suc n) s left h = good-run n s left (λ t k on. runs-good n t k on) (step_of c.code s) (step-leaves s left h)

  good-end : (s : State) (n left : ℕ) (q : Outcome × State) → IsGoodRun c s n left q → IsGoodEnd c.post q
  good-end s n left (outcomes.OutOfSteps, t) h = tt
  good-end s n left (outcomes.Returned word, t) h = h
  good-end s n left (outcomes.Blocked i k a, t) h = absurd h

  ends : (n : ℕ) (s : State) (left : ℕ) → ((t : State) → Goes s left t → IsReturn (run_of c.code n t).0) → (p : Step × State) → Leaves (Goes s left) (IsTrueOf c.post left) p → IsReturn (ends_with p.0 p.1 (run_of c.code n p.1)).0
  ends n s left go (Moved, t) h = go t h
  ends n s left go (Returned, t) h = tt
  ends n s left go (Blocked i k a, t) h = absurd h

  runs-end : (b : ℕ) → c.bound ≡ Some b → (n : ℕ) (s : State) (left : ℕ) → left ≤ n → Holds c s left → IsReturn (run_of c.code n s).0
  runs-end b bounded zero s left least h = let some : 0 < left = subst (λ o. SomeLeft o left) bounded (some-here s left h) in absurd (omega (arith, some, least))
  runs-end b bounded (suc n) s left least h =
      let some : 0 < left = subst (λ o. SomeLeft o left) bounded (some-here s left h) in
      let e : steps_after c.bound 1 left ≡ left - 1 = ap (λ o. steps_after o 1 left) bounded in
      ends n s left (λ t on. runs-end b bounded n t (steps_after c.bound 1 left) (omega (arith, e, least, some)) on.0) (step_of c.code s) (step-leaves s left h)

  -- ---- the start

  pub holds-start : (s : State) → IsState s → s.index ≡ 0 → Satisfies s.rights s.regs s.memory c.pre → Holds c s (all_steps c.bound)
  holds-start s ok first pre =
      let start : Valuation = record { regs = s.regs; memory = s.memory; left = 0 } in
      let F : Form = FImp c.pre (entered c.bound (wp c 0)) in
      let ignores : IgnoresBound F = ignores-imp c.pre (entered c.bound (wp c 0)) (ignores-pre c is) (ignores-entered c.bound (wp c 0) (ignores-wp c is 0)) in
      let at_start : IsTrueIn s.rights (entered c.bound (wp c 0)) start [] = close-true s.rights c.bound F start ignores ok.regs ok.memory (none-left c.bound) (valid s.rights ok.rights).0 pre in
      let here : IsTrueOf (wp c 0) (all_steps c.bound) s = entered-true c.bound (wp c 0) s.rights start ok.regs.count refl at_start in
      record { within = omega (arith, first, is.code.nonempty); state = ok; few = all-few c.bound is.bound; here = subst (λ i. IsTrueOf (wp c i) (all_steps c.bound) s) (sym first) here }

  pub condition-safe : IsSafe c.code c.pre c.post
  condition-safe s ok first pre n = good-end s n (all_steps c.bound) (run_of c.code n s) (runs-good n s (all_steps c.bound) (holds-start s ok first pre))

  pub condition-returns : (bound : ℕ) → c.bound ≡ Some bound → ReturnsWithin bound c.code c.pre
  condition-returns b bounded s ok first pre n enough =
      let e : all_steps c.bound ≡ b = ap all_steps bounded in runs-end b bounded n s (all_steps c.bound) (omega (arith, e, enough)) (holds-start s ok first pre)
