-- Runs one behind the other.
use Rattle.std.proofs.Common.{◌≡◌, ℕ, zero, suc, ◌+◌, List, slice_index, refl, sym, ◌∙◌, ap, arith}
use Rattle.alpha_words.specs.declared.insn.Insn.{Insn}
use Rattle.alpha_cfg.specs.declared.outcome.Step.{Step}
use Rattle.alpha_cfg.specs.declared.outcome.Step.TheVariants as steps
use Rattle.alpha_cfg.specs.declared.outcome.Outcome.{Outcome}
use Rattle.alpha_cfg.specs.declared.outcome.Outcome.TheVariants as outcomes
use Rattle.alpha_cfg.specs.Machine.{State, step_of, ends_with, run_of}
use Rattle.alpha_cfg.specs.Isolation.{RunsJoin}

-- a step that the run went on after
pub moved-on : (p : Step × State) (on : Outcome × State) (u : State) → ends_with p.0 p.1 on ≡ (outcomes.OutOfSteps, u) → (p.0 ≡ steps.Moved) × (on ≡ (outcomes.OutOfSteps, u))
moved-on (steps.Moved, t) on u e = (refl, e)
moved-on (steps.Returned, t) on u e = let wrong : outcomes.Returned (slice_index t.regs 0) ≡ outcomes.OutOfSteps = ap (λ q. q.0) e in (cc, cc)
moved-on (steps.Blocked index kind a, t) on u e = let wrong : outcomes.Blocked index kind a ≡ outcomes.OutOfSteps = ap (λ q. q.0) e in (cc, cc)

-- a run behind one that was out of steps
pub run-behind : (code : List Insn) (k n : ℕ) (s u : State) → run_of code k s ≡ (outcomes.OutOfSteps, u) → run_of code (k + n) s ≡ run_of code n u
run-behind code zero n s u e =
    let none : 0 + n ≡ n = omega arith in
    ap (λ m. run_of code m s) none ∙ ap (run_of code n) (ap (λ q. q.1) e)
run-behind code (suc k) n s u e =
    let p = step_of code s in
    let m = moved-on p (run_of code k p.1) u e in
    let one : suc k + n ≡ suc (k + n) = omega arith in
    ap (λ j. run_of code j s) one ∙ ap (λ (q : Step). ends_with q p.1 (run_of code (k + n) p.1)) m.0 ∙ run-behind code k n p.1 u m.1

pub runs_join : (code : List Insn) (n k : ℕ) (s t : State) → RunsJoin code n k s t
runs_join code n k s t e = sym (run-behind code n k s t e)
