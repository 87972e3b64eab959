-- Steps and runs that aren't blocked are the same whatever the rights, where these lie in the arena from a base on.
use Rattle.std.proofs.Common.{◌≡◌, ℕ, zero, suc, ◌+◌, ◌-◌, ◌/◌, ◌<◌, true, false, Bool, List, get_or, slice_get, Option, Some, None}
use Rattle.std.proofs.Common.{refl, sym, ◌∙◌, ap, subst, arith}
use Rattle.word_ops.specs.Rights.{Rights, allowed}
use Rattle.word_ops.specs.Memory.{read, write}
use Rattle.word_ops.specs.Registers.{read_reg, write_reg}
use Rattle.word_ops.proofs.Spans.{allowed-from}
use Rattle.alpha_words.specs.declared.insn.Insn.{Insn}
use Rattle.alpha_cfg.specs.Actions.{Action, action_of}
use Rattle.alpha_cfg.specs.Actions as actions
use Rattle.alpha_cfg.specs.Flow.{jump_of}
use Rattle.alpha_cfg.specs.Machine.{State, address_of, access_outcome, state_at, action_outcome, step_at, step_of, ends_with, run_of, aligned}
use Rattle.alpha_cfg.specs.declared.outcome.Kind.{Kind}
use Rattle.alpha_cfg.specs.declared.outcome.Kind.TheVariants.{Load, Store}
use Rattle.alpha_cfg.specs.declared.outcome.Step.{Step}
use Rattle.alpha_cfg.specs.declared.outcome.Step.TheVariants as steps
use Rattle.reference_machine.specs.Agents.{IsInArena, AreInArena, IsPlace}
use Rattle.reference_machine.proofs.Places.{IsPlace-allowed}
use Rattle.host_steps.specs.Stepping.{arena_rights, IsUnblocked, EndsUnblocked}
use Rattle.host_steps.proofs.Runs.{ends-unblocked}

-- ---- an access that isn't blocked is allowed

allowed-unblocked : (kind : Kind) (b : Bool) (a : ℕ) (s u : State) → IsUnblocked (access_outcome kind b a s u).0 → b ≡ true
allowed-unblocked kind true a s u h = refl
allowed-unblocked kind false a s u h = absurd h

-- all of the arena lies in it
pub arena_in : (base : ℕ) → AreInArena base (arena_rights base).reads
arena_in base span h = one h.0 h.1 h.2 where
  one : (k : ℕ) → k < 1 → get_or (arena_rights base).reads k span ≡ span → IsInArena base span
  one zero lt e = subst (IsInArena base) e (record { from = omega arith; aligned = omega arith; to = omega arith })
  one (suc k) lt e = absurd (omega arith)

-- ---- the rights

-- a state under rights
abbrev pub with_rights : Rights → State → State
with_rights r s = record s { rights = r }

-- the same where all of the arena is allowed
abbrev pub open_all : ℕ → State → State
open_all base s = with_rights (arena_rights base) s

-- the state at a step's or a run's end under rights
abbrev pub under : {A : Type 0} → Rights → A × State → A × State
under r p = (p.0, with_rights r p.1)

allowed-arena : (base : ℕ) (spans : List (ℕ × ℕ)) (a : ℕ) → AreInArena base spans → allowed spans a ≡ true → allowed (arena_rights base).reads a ≡ true
allowed-arena base spans a inside t =
    let p : IsPlace base a = IsPlace-allowed base spans a inside t in
    allowed-from (arena_rights base).reads a ((base, 8194), (0, omega arith, refl), ((a - base) / 8, p.to, omega (arith, p.from, p.aligned)))

module _ (base : ℕ) (r : Rights) (reads : AreInArena base r.reads) (writes : AreInArena base r.writes) where
  access-same : (kind : Kind) (spans : List (ℕ × ℕ)) (a : ℕ) (s u : State) → AreInArena base spans →
      IsUnblocked (access_outcome kind (allowed spans a) a (with_rights r s) (with_rights r u)).0 →
      access_outcome kind (allowed spans a) a (with_rights r s) (with_rights r u)
      ≡ under r (access_outcome kind (allowed (arena_rights base).reads a) a (open_all base s) (open_all base u))
  access-same kind spans a s u inside h =
      let t : allowed spans a ≡ true = allowed-unblocked kind (allowed spans a) a (with_rights r s) (with_rights r u) h in
      let all : allowed (arena_rights base).reads a ≡ true = allowed-arena base spans a inside t in
      ap (λ b. access_outcome kind b a (with_rights r s) (with_rights r u)) t
      ∙ sym (ap (λ b. under r (access_outcome kind b a (open_all base s) (open_all base u))) all)

  state-same : (o : Option ℕ) (s : State) → state_at (with_rights r s) o ≡ with_rights r (state_at (open_all base s) o)
  state-same None s = refl
  state-same (Some i) s = refl

  action-same : (e : Action) (jump : Option ℕ) (s : State) → IsUnblocked (action_outcome e jump (with_rights r s)).0 →
      action_outcome e jump (with_rights r s) ≡ under r (action_outcome e jump (open_all base s))
  action-same (actions.Compute to word) jump s h = refl
  action-same (actions.Load to at disp) jump s h =
      let a = address_of s.regs at disp in
      access-same Load r.reads a s (record s { index = s.index + 1; regs = write_reg s.regs to (read s.memory a) }) reads h
  action-same (actions.LoadAround to at disp) jump s h =
      let a = aligned (address_of s.regs at disp) in
      access-same Load r.reads a s (record s { index = s.index + 1; regs = write_reg s.regs to (read s.memory a) }) reads h
  action-same (actions.Store from at disp) jump s h =
      let a = address_of s.regs at disp in
      access-same Store r.writes a s (record s { index = s.index + 1; memory = write s.memory a (read_reg s.regs from) }) writes h
  action-same (actions.Branching test) jump s h = ap (λ t. (steps.Moved, t)) (state-same _ s)
  action-same actions.Return jump s h = refl

  step-same-at : (o : Option Insn) (s : State) → IsUnblocked (step_at o (with_rights r s)).0 →
      step_at o (with_rights r s) ≡ under r (step_at o (open_all base s))
  step-same-at None s h = refl
  step-same-at (Some insn) s h = action-same (action_of insn) (jump_of s.index insn) s h

  step-same : (code : List Insn) (s : State) → IsUnblocked (step_of code (with_rights r s)).0 →
      step_of code (with_rights r s) ≡ under r (step_of code (open_all base s))
  step-same code s h = step-same-at (slice_get code s.index) s h

-- a step keeps the rights
step-keeps : (base : ℕ) (code : List Insn) (s : State) → IsUnblocked (step_of code (open_all base s)).0 →
    (step_of code (open_all base s)).1 ≡ open_all base (step_of code (open_all base s)).1
step-keeps base code s h = ap (λ p. p.1) (step-same base (arena_rights base) (arena_in base) (arena_in base) code s h)

module _ (base : ℕ) (r : Rights) (reads : AreInArena base r.reads) (writes : AreInArena base r.writes) (code : List Insn) where
  run-goes-on : (n : ℕ) (p : Step × State) → p.1 ≡ open_all base p.1 →
      (EndsUnblocked (run_of code n (with_rights r p.1)).0 → run_of code n (with_rights r p.1) ≡ under r (run_of code n (open_all base p.1))) →
      EndsUnblocked (ends_with p.0 (with_rights r p.1) (run_of code n (with_rights r p.1))).0 →
      ends_with p.0 (with_rights r p.1) (run_of code n (with_rights r p.1)) ≡ under r (ends_with p.0 p.1 (run_of code n p.1))
  run-goes-on n (steps.Moved, u) kept on h = on h ∙ ap (λ t. under r (run_of code n t)) (sym kept)
  run-goes-on n (steps.Returned, u) kept on h = refl
  run-goes-on n (steps.Blocked index kind a, u) kept on h = absurd h

  -- a run that isn't blocked is the same where all of the arena is allowed
  pub run-same : (n : ℕ) (s : State) → EndsUnblocked (run_of code n (with_rights r s)).0 →
      run_of code n (with_rights r s) ≡ under r (run_of code n (open_all base s))
  run-same zero s h = refl
  run-same (suc n) s h =
      let mine : Step × State = step_of code (with_rights r s) in
      let all : Step × State = step_of code (open_all base s) in
      let first : IsUnblocked mine.0 = ends-unblocked mine (run_of code n mine.1) h in
      let e : mine ≡ under r all = step-same base r reads writes code s first in
      let kept : all.1 ≡ open_all base all.1 = step-keeps base code s (subst (λ (p : Step × State). IsUnblocked p.0) e first) in
      ap (λ (p : Step × State). ends_with p.0 p.1 (run_of code n p.1)) e
      ∙ run-goes-on n all kept (run-same n all.1) (subst (λ (p : Step × State). EndsUnblocked (ends_with p.0 p.1 (run_of code n p.1)).0) e h)
