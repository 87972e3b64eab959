-- Runs by their first step.
use Rattle.std.proofs.Common.{◌≡◌, ℕ, suc, List, slice_index, refl, subst}
use Rattle.alpha_words.specs.declared.insn.Insn.{Insn}
use Rattle.alpha_cfg.specs.Machine.{State, step_of, ends_with, run_of}
use Rattle.alpha_cfg.specs.declared.outcome.Step.{Step}
use Rattle.alpha_cfg.specs.declared.outcome.Step.TheVariants as steps
use Rattle.alpha_cfg.specs.declared.outcome.Outcome.{Outcome}
use Rattle.alpha_cfg.specs.declared.outcome.Outcome.TheVariants as outcomes
use Rattle.host_steps.specs.Stepping.{IsUnblocked, EndsUnblocked}

pub run-moved : (code : List Insn) (n m : ℕ) (s u : State) → n ≡ suc m → (steps.Moved, u) ≡ step_of code s → run_of code m u ≡ run_of code n s
run-moved code n m s u left moved = rw (left, ← moved) refl

pub run-returned : (code : List Insn) (n m : ℕ) (s u : State) → n ≡ suc m → (steps.Returned, u) ≡ step_of code s →
    (outcomes.Returned (slice_index u.regs 0), u) ≡ run_of code n s
run-returned code n m s u left returned = rw (left, ← returned) refl

pub ends-unblocked : (p : Step × State) (on : Outcome × State) → EndsUnblocked (ends_with p.0 p.1 on).0 → IsUnblocked p.0
ends-unblocked (steps.Moved, u) on h = tt
ends-unblocked (steps.Returned, u) on h = tt
ends-unblocked (steps.Blocked index kind a, u) on h = h

-- the first step of a run that isn't blocked
pub run-unblocked : (code : List Insn) (n m : ℕ) (s : State) → n ≡ suc m → EndsUnblocked (run_of code n s).0 → IsUnblocked (step_of code s).0
run-unblocked code n m s left h = ends-unblocked (step_of code s) (run_of code m (step_of code s).1) (subst (λ k. EndsUnblocked (run_of code k s).0) left h)
