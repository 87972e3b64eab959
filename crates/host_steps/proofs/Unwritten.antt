-- A run leaves each word that its rights don't allow to store.
use Rattle.std.proofs.Common.{◌≡◌, ℕ, zero, suc, ◌+◌, true, false, Bool, List, slice_get, if◌then◌else◌, Option, Some, None, refl, sym, ◌∙◌, ap}
use Rattle.std.proofs.lemmas.Bool.{true≢false}
use Rattle.word_ops.specs.Rights.{Rights, allowed}
use Rattle.word_ops.specs.Memory.{Memory, read, write}
use Rattle.word_ops.specs.Registers.{read_reg, write_reg}
use Rattle.word_ops.proofs.Memories.{read-write_other}
use Rattle.alpha_words.specs.declared.insn.Insn.{Insn}
use Rattle.alpha_cfg.specs.Actions.{Action, action_of}
use Rattle.alpha_cfg.specs.Actions as actions
use Rattle.alpha_cfg.specs.Flow.{jump_of}
use Rattle.alpha_cfg.specs.Machine.{State, passes, address_of, access_outcome, state_at, action_outcome, step_at, step_of, ends_with, run_of, aligned}
use Rattle.alpha_cfg.specs.declared.outcome.Kind.{Kind}
use Rattle.alpha_cfg.specs.declared.outcome.Kind.TheVariants.{Load, Store}
use Rattle.alpha_cfg.specs.declared.outcome.Step.{Step}
use Rattle.alpha_cfg.specs.declared.outcome.Step.TheVariants as steps
use Rattle.alpha_cfg.specs.declared.outcome.Outcome.{Outcome}

-- what a step or a run leaves of a state: its rights, and the word at an address
record IsLeft (a : ℕ) (s u : State) : Type 0 where
  rights : u.rights ≡ s.rights
  word : read u.memory a ≡ read s.memory a

module _ (a : ℕ) where
  access-left : (kind : Kind) (b : Bool) (x : ℕ) (s u : State) → (b ≡ true → IsLeft a s u) → IsLeft a s (access_outcome kind b x s u).1
  access-left kind true x s u h = h refl
  access-left kind false x s u h = record { rights = refl; word = refl }

  state-left : (o : Option ℕ) (s : State) → IsLeft a s (state_at s o)
  state-left None s = record { rights = refl; word = refl }
  state-left (Some i) s = record { rights = refl; word = refl }

  -- a store that is allowed is at another address
  apart : (spans : List (ℕ × ℕ)) (x : ℕ) → allowed spans a ≡ false → allowed spans x ≡ true → a ≡ x → ⊥
  apart spans x closed allows same = true≢false (sym allows ∙ ap (allowed spans) (sym same) ∙ closed)

  action-left : (e : Action) (jump : Option ℕ) (s : State) → allowed s.rights.writes a ≡ false → IsLeft a s (action_outcome e jump s).1
  action-left (actions.Compute to word) jump s closed = record { rights = refl; word = refl }
  action-left (actions.Load to base disp) jump s closed =
      let x = address_of s.regs base disp in
      let u : State = record s { index = s.index + 1; regs = write_reg s.regs to (read s.memory x) } in
      access-left Load (allowed s.rights.reads x) x s u (λ _. record { rights = refl; word = refl })
  action-left (actions.LoadAround to base disp) jump s closed =
      let x = aligned (address_of s.regs base disp) in
      let u : State = record s { index = s.index + 1; regs = write_reg s.regs to (read s.memory x) } in
      access-left Load (allowed s.rights.reads x) x s u (λ _. record { rights = refl; word = refl })
  action-left (actions.Store from base disp) jump s closed =
      let x = address_of s.regs base disp in
      let word = read_reg s.regs from in
      let u : State = record s { index = s.index + 1; memory = write s.memory x word } in
      access-left Store (allowed s.rights.writes x) x s u
      (λ allows. record { rights = refl; word = read-write_other s.memory x word a (apart s.rights.writes x closed allows) })
  action-left (actions.Branching test) jump s closed = state-left (if passes s.regs test then jump else Some (s.index + 1)) s
  action-left actions.Return jump s closed = record { rights = refl; word = refl }

  step-left-at : (o : Option Insn) (s : State) → allowed s.rights.writes a ≡ false → IsLeft a s (step_at o s).1
  step-left-at None s closed = record { rights = refl; word = refl }
  step-left-at (Some insn) s closed = action-left (action_of insn) (jump_of s.index insn) s closed

  step-left : (code : List Insn) (s : State) → allowed s.rights.writes a ≡ false → IsLeft a s (step_of code s).1
  step-left code s closed = step-left-at (slice_get code s.index) s closed

  run-goes-on : (p : Step × State) (on : Outcome × State) (m : Memory) → read on.1.memory a ≡ read p.1.memory a →
      read p.1.memory a ≡ read m a →
      read (ends_with p.0 p.1 on).1.memory a ≡ read m a
  run-goes-on (steps.Moved, u) on m later first = later ∙ first
  run-goes-on (steps.Returned, u) on m later first = first
  run-goes-on (steps.Blocked index kind x, u) on m later first = first

  -- the word at an address that may not be stored is left
  pub run-left : (code : List Insn) (n : ℕ) (s : State) → allowed s.rights.writes a ≡ false →
      read (run_of code n s).1.memory a ≡ read s.memory a
  run-left code zero s closed = refl
  run-left code (suc n) s closed =
      let p : Step × State = step_of code s in
      let first : IsLeft a s p.1 = step-left code s closed in
      let still : allowed p.1.rights.writes a ≡ false = ap (λ (r : Rights). allowed r.writes a) first.rights ∙ closed in
      run-goes-on p (run_of code n p.1) s.memory (run-left code n p.1 still) first.word
