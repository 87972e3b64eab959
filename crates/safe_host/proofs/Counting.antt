-- Runs that go on after one another, and their steps.
use Rattle.std.proofs.Common.{◌≡◌, ℕ, zero, suc, ◌+◌, ◌<◌, ◌≤◌, List, Option, IsSome, true, false, refl, sym, ◌∙◌, ap, subst, arith}
use Rattle.word_ops.specs.Rights.{Rights}
use Rattle.alpha_words.specs.declared.insn.Insn.{Insn}
use Rattle.alpha_cfg.specs.Machine.{State, step_of, ends_with, run_of}
use Rattle.alpha_cfg.proofs.Joining.{moved-on, run-behind}
use Rattle.alpha_cfg.specs.declared.outcome.Step.{Step}
use Rattle.alpha_cfg.specs.declared.outcome.Step.TheVariants as steps
use Rattle.alpha_cfg.specs.declared.outcome.Outcome.{Outcome}
use Rattle.alpha_cfg.specs.declared.outcome.Outcome.TheVariants as outcomes
use Rattle.vcgen.specs.Safety.{IsReturn, steps_after}
use Rattle.host_steps.specs.declared.ended.Ended.{Ended}
use Rattle.host_steps.specs.declared.ended.Ended.TheVariants as ended
use Rattle.host_steps.proofs.Counted.{steps_after-none, steps_after-more, rest-after}
use Rattle.safe_host.specs.Hosts.{HostView, state_under, RightsFit, FitWhileLeft}
use Rattle.safe_host.specs.Runs.{IsRun, outcome_of, goes_on_after}
use Rattle.safe_host.specs.Counts.{steps_behind, steps_of, MakesSteps}

-- ---- the machine

-- its steps
pub steps-behind : (code : List Insn) (k n : ℕ) (s u : State) → run_of code k s ≡ (outcomes.OutOfSteps, u) → steps_of code (k + n) s ≡ k + steps_of code n u
steps-behind code zero n s u e =
    let none : 0 + n ≡ n = omega arith in
    let none_of : steps_of code n u ≡ 0 + steps_of code n u = omega arith in
    ap (λ m. steps_of code m s) none ∙ ap (steps_of code n) (ap (λ q. q.1) e) ∙ none_of
steps-behind code (suc k) n s u e =
    let p = step_of code s in
    let m = moved-on p (run_of code k p.1) u e in
    let one : suc k + n ≡ suc (k + n) = omega arith in
    let one_of : suc (k + steps_of code n u) ≡ suc k + steps_of code n u = omega arith in
    ap (λ j. steps_of code j s) one ∙ ap (λ (q : Step). suc (steps_behind q (steps_of code (k + n) p.1))) m.0 ∙ ap suc (steps-behind code k n p.1 u m.1) ∙ one_of

-- a run that returns at once
returned-at : (p : Step × State) (on : Outcome × State) (word : ℕ) (u : State) → ends_with p.0 p.1 (outcomes.OutOfSteps, p.1) ≡ (outcomes.Returned word, u) → ends_with p.0 p.1 on ≡ (outcomes.Returned word, u)
returned-at (steps.Moved, t) on word u e = let wrong : outcomes.OutOfSteps ≡ outcomes.Returned word = ap (λ q. q.0) e in cc
returned-at (steps.Returned, t) on word u e = e
returned-at (steps.Blocked index kind a, t) on word u e = let wrong : outcomes.Blocked index kind a ≡ outcomes.Returned word = ap (λ q. q.0) e in cc

pub run-returned-at : (code : List Insn) (n word : ℕ) (s u : State) → run_of code 1 s ≡ (outcomes.Returned word, u) → run_of code (suc n) s ≡ (outcomes.Returned word, u)
run-returned-at code n word s u e = let p = step_of code s in returned-at p (run_of code n p.1) word u e

one-step : (p : Step × State) (k word : ℕ) (u : State) → ends_with p.0 p.1 (outcomes.OutOfSteps, p.1) ≡ (outcomes.Returned word, u) → suc (steps_behind p.0 k) ≡ 1
one-step (steps.Moved, t) k word u e = let wrong : outcomes.OutOfSteps ≡ outcomes.Returned word = ap (λ q. q.0) e in cc
one-step (steps.Returned, t) k word u e = refl
one-step (steps.Blocked index kind a, t) k word u e = refl

pub steps-returned-at : (code : List Insn) (n word : ℕ) (s u : State) → run_of code 1 s ≡ (outcomes.Returned word, u) → steps_of code (suc n) s ≡ 1
steps-returned-at code n word s u e = let p = step_of code s in one-step p (steps_of code n p.1) word u e

-- ---- the host

-- a return is no want of steps
not-out : (word : ℕ) → ended.Returned word ≡ ended.OutOfSteps → (A : Type 0) → A
not-out word e A = absurd (subst (λ (r : Ended). is-return r) e tt)
  where
    is-return : Ended → Type 0
    is-return (ended.Returned w) = Unit {0}
    is-return ended.OutOfSteps = ⊥

-- the host after so many steps, none of them a return
pub record HasMade (old : HostView) (count : ℕ) (now : HostView) : Type 0 where
  pub run : IsRun old count ended.OutOfSteps now
  pub accepted : now.accepted ≡ old.accepted
  pub region : now.region ≡ old.region
  pub live : now.live ≡ true

-- none are made yet; where steps are bounded, some are left, so that this isn't a whole run
pub made-none : (h : HostView) → h.live ≡ true → FitWhileLeft h → HasMade h 0 h
made-none h live while_left = record {
  run = λ left r f. record {
    same = refl;
    fits = λ _. subst (λ k. RightsFit h k r) (sym (steps_after-none h.accepted.bound left)) f;
    returns = λ counted enough.
        let some : 0 < left = while_left counted left r f in absurd (omega (arith, some, enough));
  };
  accepted = refl;
  region = refl;
  live = live;
}

module _ (old : HostView) (count : ℕ) (now : HostView) (made : HasMade old count now) where
  abbrev then_left : ℕ → ℕ
  then_left left = steps_after old.accepted.bound count left

  code-is : now.accepted.code ≡ old.accepted.code
  code-is = ap (λ a. a.code) made.accepted

  bound-is : now.accepted.bound ≡ old.accepted.bound
  bound-is = ap (λ a. a.bound) made.accepted

  -- under rights that fit, the host is where the machine is
  at : (left : ℕ) (r : Rights) → RightsFit old left r
      → run_of old.accepted.code count (state_under old r) ≡ (outcomes.OutOfSteps, state_under now r)
  at left r f = (made.run left r f).same

  now-fits : (left : ℕ) (r : Rights) → RightsFit old left r → RightsFit now (then_left left) r
  now-fits left r f = (made.run left r f).fits refl

  module _ (result : Ended) (new : HostView) (run : IsRun now 1 result new) where
    behind : (left : ℕ) (r : Rights) → RightsFit old left r
        → run_of old.accepted.code 1 (state_under now r) ≡ (outcome_of result, state_under new r)
    behind left r f =
        ap (λ (l : List Insn). run_of l 1 (state_under now r)) (sym code-is)
        ∙ (run (then_left left) r (now-fits left r f)).same

    then-fits : (left : ℕ) (r : Rights) → RightsFit old left r → result ≡ ended.OutOfSteps
        → RightsFit new (steps_after old.accepted.bound (count + 1) left) r
    then-fits left r f out =
        let one : steps_after now.accepted.bound 1 (then_left left)
        ≡ steps_after old.accepted.bound (count + 1) left =
        ap (λ b. steps_after b 1 (then_left left)) bound-is
        ∙ steps_after-more old.accepted.bound count 1 left in
        subst (λ k. RightsFit new k r) one
        ((run (then_left left) r (now-fits left r f)).fits out)

    then-returns : (left : ℕ) (r : Rights) → RightsFit old left r → IsSome old.accepted.bound
        → left ≤ count + 1 → IsReturn (outcome_of result)
    then-returns left r f counted enough =
        (run (then_left left) r (now-fits left r f)).returns
        (subst (λ (b : Option ℕ). IsSome b) (sym bound-is) counted)
        (rest-after old.accepted.bound count 1 left counted enough)

    -- one step more
    pub more : result ≡ ended.OutOfSteps → new.accepted ≡ now.accepted
        → new.region ≡ now.region → new.live ≡ goes_on_after result → HasMade old (count + 1) new
    more out accepted region live = record {
      run = λ left r f. record {
        same = run-behind old.accepted.code count 1 (state_under old r) (state_under now r)
            (at left r f) ∙ behind left r f
            ∙ ap (λ (e : Ended). (outcome_of e, state_under new r)) out;
        fits = λ _. then-fits left r f out;
        returns = λ counted enough.
            subst (λ (e : Ended). IsReturn (outcome_of e)) out
            (then-returns left r f counted enough);
      };
      accepted = accepted ∙ made.accepted;
      region = region ∙ made.region;
      live = live ∙ ap goes_on_after out;
    }

    module _ (budget rest word : ℕ) (all : budget ≡ count + suc rest)
        (back : result ≡ ended.Returned word) where
      returns-here : (left : ℕ) (r : Rights) → RightsFit old left r
          → run_of old.accepted.code 1 (state_under now r)
          ≡ (outcomes.Returned word, state_under new r)
      returns-here left r f =
          behind left r f ∙ ap (λ (e : Ended). (outcome_of e, state_under new r)) back

      -- the run that ends with this return
      pub ends-run : IsRun old budget result new
      ends-run left r f = record {
        same = ap (λ n. run_of old.accepted.code n (state_under old r)) all
            ∙ run-behind old.accepted.code count (suc rest) (state_under old r)
            (state_under now r) (at left r f)
            ∙ run-returned-at old.accepted.code rest word (state_under now r) (state_under new r)
            (returns-here left r f)
            ∙ ap (λ (e : Ended). (outcome_of e, state_under new r)) (sym back);
        fits = λ out.
            let wrong : ended.Returned word ≡ ended.OutOfSteps = sym back ∙ out in
            not-out word wrong (RightsFit new (steps_after old.accepted.bound budget left) r);
        returns = λ _ _. subst (λ (e : Ended). IsReturn (outcome_of e)) (sym back) tt;
      }

      pub ends-steps : MakesSteps old budget (count + 1)
      ends-steps left r f = sym (
          ap (λ n. steps_of old.accepted.code n (state_under old r)) all
          ∙ steps-behind old.accepted.code count (suc rest) (state_under old r)
          (state_under now r) (at left r f)
          ∙ ap (λ n. count + n) (steps-returned-at old.accepted.code rest word
          (state_under now r) (state_under new r) (returns-here left r f)))

  -- the whole budget was made
  pub out-steps : MakesSteps old count count
  out-steps left r f =
      let code = old.accepted.code in
      let none : count ≡ count + 0 = omega arith in
      let none_of : count + 0 ≡ count = omega arith in
      sym (ap (λ n. steps_of code n (state_under old r)) none
      ∙ steps-behind code count 0 (state_under old r) (state_under now r) (at left r f) ∙ none_of)

-- what ends a run is a return
pub returned-word : (result : Ended) → goes_on_after result ≡ false → (word : ℕ) × (result ≡ ended.Returned word)
returned-word (ended.Returned word) e = (word, refl)
returned-word ended.OutOfSteps e = (0, cc)
