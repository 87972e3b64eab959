-- How many steps a run makes.
use Rattle.std.proofs.Common.{◌≡◌, ℕ, zero, suc, ◌≤◌, List, Bool, true, false, refl, sym, ap, arith, true≢false}
use Rattle.alpha_words.specs.declared.insn.Insn.{Insn}
use Rattle.alpha_cfg.specs.declared.outcome.Step.{Step}
use Rattle.alpha_cfg.specs.declared.outcome.Step.TheVariants as steps
use Rattle.alpha_cfg.specs.declared.outcome.Outcome.{Outcome}
use Rattle.alpha_cfg.specs.declared.outcome.Outcome.TheVariants as outcomes
use Rattle.alpha_cfg.specs.Machine.{State, step_of, ends_with, run_of}
use Rattle.safe_host.specs.Counts.{steps_behind, steps_of, StepsAre, StepsCount}

-- whether a run is out of steps
abbrev is_out : Outcome → Bool
is_out outcomes.OutOfSteps = true
is_out (outcomes.Returned word) = false
is_out (outcomes.Blocked index kind addr) = false

out : (p : Outcome × State) (t : State) → p ≡ (outcomes.OutOfSteps, t) → is_out p.0 ≡ true
out p t e = ap (λ (q : Outcome × State). is_out q.0) e

-- what is counted where a step is made first, of what it leads to
record IsCounted (code : List Insn) (n : ℕ) (step : Step) (u : State) : Type 0 where
  few : suc (steps_behind step (steps_of code n u)) ≤ suc n
  same : ends_with step u (run_of code (steps_behind step (steps_of code n u)) u) ≡ ends_with step u (run_of code n u)
  all : (t : State) → ends_with step u (run_of code n u) ≡ (outcomes.OutOfSteps, t) → suc (steps_behind step (steps_of code n u)) ≡ suc n

count_step : (code : List Insn) (n : ℕ) → ((s : State) → StepsAre code n s) → (step : Step) (u : State) → IsCounted code n step u
count_step code n more steps.Moved u =
    let h : StepsAre code n u = more u in
    let few : steps_of code n u ≤ n = h.few in
    record { few = omega arith; same = h.same; all = λ t e. ap suc (h.all t e) }
count_step code n more steps.Returned u = record { few = omega arith; same = refl; all = λ t e. absurd (true≢false (sym (out _ t e))) }
count_step code n more (steps.Blocked index kind addr) u = record { few = omega arith; same = refl; all = λ t e. absurd (true≢false (sym (out _ t e))) }

count : (code : List Insn) (n : ℕ) (s : State) → StepsAre code n s
count code zero s = record { few = omega arith; same = refl; all = λ t e. refl }
count code (suc n) s =
    let h = count_step code n (count code n) (step_of code s).0 (step_of code s).1 in
    record { few = h.few; same = h.same; all = h.all }

pub steps_count : StepsCount
steps_count code n s = count code n s
