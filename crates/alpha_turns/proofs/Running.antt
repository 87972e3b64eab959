-- Runs of an agent, one behind the other.
use Rattle.std.proofs.Common.{◌≡◌, ℕ, zero, suc, ◌+◌, true, false, List, Some, None, if◌then◌else◌, refl, sym, ◌∙◌, ap, arith, true≢false}
use Rattle.alpha_words.specs.declared.insn.Insn.{Insn}
use Rattle.alpha_cfg.specs.declared.outcome.Step.{Step}
use Rattle.alpha_cfg.specs.declared.outcome.Step.TheVariants as steps
use Rattle.alpha_cfg.specs.declared.outcome.Outcome.{Outcome}
use Rattle.alpha_cfg.specs.declared.outcome.Outcome.TheVariants as outcomes
use Rattle.alpha_cfg.specs.Machine.{State, step_of, ends_with, run_of}
use Rattle.alpha_cfg.proofs.Joining.{run-behind}
use Rattle.alpha_turns.specs.Turns.{Agent, may_go_on, left_by, run_on, answer_from}

-- ---- a run that ended is the same with more steps

ended-step : (code : List Insn) (n k : ℕ) → ((s : State) → may_go_on (run_of code n s).0 ≡ false → run_of code (n + k) s ≡ run_of code n s) →
    (step : Step) (u : State) →
    may_go_on (ends_with step u (run_of code n u)).0 ≡ false → ends_with step u (run_of code (n + k) u) ≡ ends_with step u (run_of code n u)
ended-step code n k more steps.Moved u e = more u e
ended-step code n k more steps.Returned u e = refl
ended-step code n k more (steps.Blocked index kind addr) u e = refl

suc-plus : (n k : ℕ) → suc n + k ≡ suc (n + k)
suc-plus n k = omega arith

pub ended : (code : List Insn) (n k : ℕ) (s : State) → may_go_on (run_of code n s).0 ≡ false → run_of code (n + k) s ≡ run_of code n s
ended code zero k s e = absurd (true≢false e)
ended code (suc n) k s e = ap (λ x. run_of code x s) (suc-plus n k) ∙ ended-step code n k (ended code n k) (step_of code s).0 (step_of code s).1 e

-- ---- both budgets

-- the run that goes on from where a run is, where it may
goes_on : List Insn → ℕ → Outcome × State → Outcome × State
goes_on code k run = if may_go_on run.0 then run_of code k run.1 else run

-- it is the run with both budgets
joins : (code : List Insn) (k : ℕ) (run both : Outcome × State) → ((u : State) → run ≡ (outcomes.OutOfSteps, u) → both ≡ run_of code k u) →
    (may_go_on run.0 ≡ false → both ≡ run) →
    (if may_go_on run.0 then run_of code k run.1 else run) ≡ both
joins code k (outcomes.OutOfSteps, u) both on over = sym (on u refl)
joins code k (outcomes.Returned word, u) both on over = sym (over refl)
joins code k (outcomes.Blocked index kind addr, u) both on over = sym (over refl)

pub both_budgets : (code : List Insn) (n k : ℕ) (s : State) →
    (if may_go_on (run_of code n s).0 then run_of code k (run_of code n s).1 else run_of code n s) ≡ run_of code (n + k) s
both_budgets code n k s = joins code k (run_of code n s) (run_of code (n + k) s) (λ u e. run-behind code n k s u e) (ended code n k s)

-- a run of what a run left
run_on-left : (agent : Agent) (k : ℕ) (run : Outcome × State) →
    run_on k (left_by agent run) ≡ left_by agent (if may_go_on run.0 then run_of agent.code k run.1 else run)
run_on-left agent k (outcomes.OutOfSteps, u) = refl
run_on-left agent k (outcomes.Returned word, u) = refl
run_on-left agent k (outcomes.Blocked index kind addr, u) = refl

joined-at : (code : List Insn) (s : State) (n k : ℕ) (outcome : Outcome) →
    run_on k (run_on n (record { code = code; state = s; outcome = outcome })) ≡ run_on (n + k) (record { code = code; state = s; outcome = outcome })
joined-at code s n k outcomes.OutOfSteps =
    let agent : Agent = record { code = code; state = s; outcome = outcomes.OutOfSteps } in
    run_on-left agent k (run_of code n s) ∙ ap (left_by agent) (both_budgets code n k s)
joined-at code s n k (outcomes.Returned word) = refl
joined-at code s n k (outcomes.Blocked index kind addr) = refl

pub joined : (n k : ℕ) (agent : Agent) → run_on k (run_on n agent) ≡ run_on (n + k) agent
joined n k agent = joined-at agent.code agent.state n k agent.outcome

-- ---- no steps

none-at : (code : List Insn) (s : State) (outcome : Outcome) →
    run_on 0 (record { code = code; state = s; outcome = outcome }) ≡ record { code = code; state = s; outcome = outcome }
none-at code s outcomes.OutOfSteps = refl
none-at code s (outcomes.Returned word) = refl
none-at code s (outcomes.Blocked index kind addr) = refl

pub no_steps : (agent : Agent) → run_on 0 agent ≡ agent
no_steps agent = none-at agent.code agent.state agent.outcome

-- ---- what a turn answers

answer-left : (agent : Agent) (k : ℕ) (run both : Outcome × State) → (if may_go_on run.0 then run_of agent.code k run.1 else run) ≡ both →
    answer_from k (left_by agent run) ≡ (if may_go_on run.0 then Some both.0 else None)
answer-left agent k (outcomes.OutOfSteps, u) both e = ap (λ (p : Outcome × State). Some p.0) e
answer-left agent k (outcomes.Returned word, u) both e = refl
answer-left agent k (outcomes.Blocked index kind addr, u) both e = refl

answer-at : (code : List Insn) (s : State) (n k : ℕ) (outcome : Outcome) → may_go_on outcome ≡ true →
    answer_from k (run_on n (record { code = code; state = s; outcome = outcome })) ≡
    (if may_go_on (run_of code n s).0 then Some (run_of code (n + k) s).0 else None)
answer-at code s n k outcomes.OutOfSteps e =
    let agent : Agent = record { code = code; state = s; outcome = outcomes.OutOfSteps } in
    answer-left agent k (run_of code n s) (run_of code (n + k) s) (both_budgets code n k s)
answer-at code s n k (outcomes.Returned word) e = absurd (true≢false (sym e))
answer-at code s n k (outcomes.Blocked index kind addr) e = absurd (true≢false (sym e))

pub answer : (n k : ℕ) (agent : Agent) → may_go_on agent.outcome ≡ true →
    answer_from k (run_on n agent) ≡ (if may_go_on (run_of agent.code n agent.state).0 then Some (run_of agent.code (n + k) agent.state).0 else None)
answer n k agent e = answer-at agent.code agent.state n k agent.outcome e
