-- A run changes no address that may not be stored to.
use Rattle.std.proofs.Common.{◌≡◌, ℕ, zero, suc, ◌+◌, Bool, true, false, List, slice_get, Option, Some, None, if◌then◌else◌, refl, sym, ◌∙◌, ap, true≢false}
use Rattle.word_ops.specs.Memory.{read, write}
use Rattle.word_ops.specs.Rights.{Rights, allowed}
use Rattle.word_ops.specs.Registers.{read_reg, write_reg}
use Rattle.word_ops.proofs.Memories.{read-write_other}
use Rattle.alpha_words.specs.declared.insn.Insn.{Insn}
use Rattle.alpha_cfg.specs.Actions.{Action, action_of}
use Rattle.alpha_cfg.specs.Actions as actions
use Rattle.alpha_cfg.specs.Flow.{jump_of}
use Rattle.alpha_cfg.specs.declared.outcome.Kind.{Kind}
use Rattle.alpha_cfg.specs.declared.outcome.Kind.TheVariants.{Load, Store}
use Rattle.alpha_cfg.specs.declared.outcome.Step.{Step}
use Rattle.alpha_cfg.specs.declared.outcome.Step.TheVariants as steps
use Rattle.alpha_cfg.specs.declared.outcome.Outcome.{Outcome}
use Rattle.alpha_cfg.specs.Machine.{State, address_of, passes, access_outcome, state_at, action_outcome, step_at, step_of, ends_with, run_of, aligned}
use Rattle.alpha_cfg.proofs.States.{insn_outcome-rights}
use Rattle.alpha_cfg.specs.Isolation.{ChangesWritable}

module _ (q : ℕ) where
  -- the word at q is the same
  abbrev Same : State → State → Type 0
  Same s t = read t.memory q ≡ read s.memory q

  access-same : (kind : Kind) (may : Bool) (a : ℕ) (s u : State) → (may ≡ true → Same s u) → Same s (access_outcome kind may a s u).1
  access-same kind true a s u same = same refl
  access-same kind false a s u same = refl

  state_at-same : (s : State) (to : Option ℕ) → Same s (state_at s to)
  state_at-same s None = refl
  state_at-same s (Some j) = refl

  action-same : (e : Action) (jump : Option ℕ) (s : State) → allowed s.rights.writes q ≡ false → Same s (action_outcome e jump s).1
  action-same (actions.Compute to word) jump s not_may = refl
  action-same (actions.Load to base disp) jump s not_may =
      let a = address_of s.regs base disp in
      access-same Load (allowed s.rights.reads a) a s (record s { index = s.index + 1; regs = write_reg s.regs to (read s.memory a) }) (λ may_be. refl)
  action-same (actions.LoadAround to base disp) jump s not_may =
      let a = aligned (address_of s.regs base disp) in
      access-same Load (allowed s.rights.reads a) a s (record s { index = s.index + 1; regs = write_reg s.regs to (read s.memory a) }) (λ may_be. refl)
  action-same (actions.Store from base disp) jump s not_may =
      let a = address_of s.regs base disp in
      let word = read_reg s.regs from in
      access-same Store (allowed s.rights.writes a) a s (record s { index = s.index + 1; memory = write s.memory a word })
      (λ may_be. read-write_other s.memory a word q (λ e. true≢false (sym may_be ∙ ap (λ x. allowed s.rights.writes x) (sym e) ∙ not_may)))
  action-same (actions.Branching test) jump s not_may = state_at-same s (if passes s.regs test then jump else Some (s.index + 1))
  action-same actions.Return jump s not_may = refl

  step-same : (insn : Option Insn) (s : State) → allowed s.rights.writes q ≡ false → Same s (step_at insn s).1
  step-same None s not_may = refl
  step-same (Some insn) s not_may = action-same (action_of insn) (jump_of s.index insn) s not_may

  step-rights : (insn : Option Insn) (s : State) → (step_at insn s).1.rights ≡ s.rights
  step-rights None s = refl
  step-rights (Some insn) s = insn_outcome-rights insn s

  ends-same : (step : Step) (u : State) (on : Outcome × State) → Same u on.1 → Same u (ends_with step u on).1
  ends-same steps.Moved u on same = same
  ends-same steps.Returned u on same = refl
  ends-same (steps.Blocked index kind addr) u on same = refl

  run-same : (code : List Insn) (n : ℕ) (s : State) → allowed s.rights.writes q ≡ false → Same s (run_of code n s).1
  run-same code zero s not_may = refl
  run-same code (suc n) s not_may =
      let u : State = (step_of code s).1 in
      let still : allowed u.rights.writes q ≡ false = ap (λ (r : Rights). allowed r.writes q) (step-rights (slice_get code s.index) s) ∙ not_may in
      ends-same (step_of code s).0 u (run_of code n u) (run-same code n u still) ∙ step-same (slice_get code s.index) s not_may

pub changes_writable : (code : List Insn) (n : ℕ) (s : State) → ChangesWritable code n s
changes_writable code n s a not_may = run-same a code n s not_may
