-- A run depends on registers and on a part of memory in which all lies that may be loaded, and does the same to it.
use Rattle.std.proofs.Common.{◌≡◌, ℕ, zero, suc, ◌+◌, Bool, true, false, List, slice_get, Option, Some, None, if◌then◌else◌, refl, sym, ◌∙◌, ap}
use Rattle.std.proofs.Common.{subst, inl, inr}
use Rattle.std.proofs.lemmas.Bool.{cases_eq}
use Rattle.word_ops.specs.Memory.{Memory, read, write}
use Rattle.word_ops.specs.Rights.{Rights, allowed}
use Rattle.word_ops.specs.Registers.{read_reg, write_reg}
use Rattle.word_ops.proofs.Memories.{read-write_other, read-write_same}
use Rattle.alpha_words.specs.declared.insn.Insn.{Insn}
use Rattle.alpha_cfg.specs.Actions.{Action, action_of}
use Rattle.alpha_cfg.specs.Actions as actions
use Rattle.alpha_cfg.specs.Flow.{jump_of}
use Rattle.alpha_cfg.specs.declared.outcome.Kind.TheVariants.{Load, Store}
use Rattle.alpha_cfg.specs.declared.outcome.Step.{Step}
use Rattle.alpha_cfg.specs.declared.outcome.Step.TheVariants as steps
use Rattle.alpha_cfg.specs.Machine.{State, address_of, aligned, passes, access_outcome, state_at, action_outcome, step_at, step_of, ends_with, run_of}
use Rattle.alpha_turns.specs.Parts.{LooksAlikeIn}

-- the state with another memory
abbrev pub with_memory : State → Memory → State
with_memory s l = record s { memory = l }

-- the state behind a load, and behind a store
abbrev loaded : State → ℕ → ℕ → State
loaded s ra word = record s { index = s.index + 1; regs = write_reg s.regs ra word }

abbrev stored : State → ℕ → ℕ → State
stored s a word = record s { index = s.index + 1; memory = write s.memory a word }

module _ (part : ℕ → Bool) (rights : Rights) (within : (a : ℕ) → allowed rights.reads a ≡ true → part a ≡ true) where
  -- ends that differ in memories alone, which look alike
  pub record Alike {A : Type 0} (p q : A × State) : Type 0 where
    pub first : p.0 ≡ q.0
    pub other : Memory
    pub is : q.1 ≡ with_memory p.1 other
    pub rights_are : p.1.rights ≡ rights
    pub looks : LooksAlikeIn part p.1.memory other

  alike_write : (m l : Memory) (a word : ℕ) → LooksAlikeIn part m l → LooksAlikeIn part (write m a word) (write l a word)
  alike_write m l a word looks b may_be = elim (cases_eq b a) [
    | inl e ↦ ap (λ x. read (write m a word) x) e ∙ read-write_same m a word ∙ sym (read-write_same l a word) ∙ ap (λ x. read (write l a word) x) (sym e)
    | inr apart ↦ read-write_other m a word b apart ∙ looks b may_be ∙ sym (read-write_other l a word b apart)
  ]

  load_alike : (may : Bool) (a ra : ℕ) (s : State) (l : Memory) → s.rights ≡ rights → allowed s.rights.reads a ≡ may → LooksAlikeIn part s.memory l →
      Alike (access_outcome Load may a s (loaded s ra (read s.memory a))) (access_outcome Load may a (with_memory s l) (loaded (with_memory s l) ra (read l a)))
  load_alike true a ra s l are may_be looks =
      let h : part a ≡ true = within a (ap (λ (r : Rights). allowed r.reads a) (sym are) ∙ may_be) in
      record { first = refl; other = l; is = ap (λ w. with_memory (loaded s ra w) l) (sym (looks a h)); rights_are = are; looks = looks }
  load_alike false a ra s l are may_be looks = record { first = refl; other = l; is = refl; rights_are = are; looks = looks }

  store_alike : (may : Bool) (a word : ℕ) (s : State) (l : Memory) → s.rights ≡ rights → LooksAlikeIn part s.memory l →
      Alike (access_outcome Store may a s (stored s a word)) (access_outcome Store may a (with_memory s l) (stored (with_memory s l) a word))
  store_alike true a word s l are looks =
      record { first = refl; other = write l a word; is = refl; rights_are = are; looks = alike_write s.memory l a word looks }
  store_alike false a word s l are looks = record { first = refl; other = l; is = refl; rights_are = are; looks = looks }

  state_at_alike : (to : Option ℕ) (s : State) (l : Memory) → s.rights ≡ rights → LooksAlikeIn part s.memory l →
      Alike (steps.Moved, state_at s to) (steps.Moved, state_at (with_memory s l) to)
  state_at_alike None s l are looks = record { first = refl; other = l; is = refl; rights_are = are; looks = looks }
  state_at_alike (Some j) s l are looks = record { first = refl; other = l; is = refl; rights_are = are; looks = looks }

  action_alike : (e : Action) (jump : Option ℕ) (s : State) (l : Memory) → s.rights ≡ rights → LooksAlikeIn part s.memory l →
      Alike (action_outcome e jump s) (action_outcome e jump (with_memory s l))
  action_alike (actions.Compute to word) jump s l are looks = record { first = refl; other = l; is = refl; rights_are = are; looks = looks }
  action_alike (actions.Load to base disp) jump s l are looks =
      let a = address_of s.regs base disp in
      load_alike (allowed s.rights.reads a) a to s l are refl looks
  action_alike (actions.LoadAround to base disp) jump s l are looks =
      let a = aligned (address_of s.regs base disp) in
      load_alike (allowed s.rights.reads a) a to s l are refl looks
  action_alike (actions.Store from base disp) jump s l are looks =
      let a = address_of s.regs base disp in
      store_alike (allowed s.rights.writes a) a (read_reg s.regs from) s l are looks
  action_alike (actions.Branching test) jump s l are looks = state_at_alike (if passes s.regs test then jump else Some (s.index + 1)) s l are looks
  action_alike actions.Return jump s l are looks = record { first = refl; other = l; is = refl; rights_are = are; looks = looks }

  step_alike : (insn : Option Insn) (s : State) (l : Memory) → s.rights ≡ rights → LooksAlikeIn part s.memory l →
      Alike (step_at insn s) (step_at insn (with_memory s l))
  step_alike None s l are looks = record { first = refl; other = l; is = refl; rights_are = are; looks = looks }
  step_alike (Some insn) s l are looks = action_alike (action_of insn) (jump_of s.index insn) s l are looks

  -- the end of a run that begins with a step
  module _ (code : List Insn) (n : ℕ)
      (more : (s : State) (l : Memory) → s.rights ≡ rights → LooksAlikeIn part s.memory l → Alike (run_of code n s) (run_of code n (with_memory s l))) where
    ends_alike : (step : Step) (u : State) (l : Memory) → u.rights ≡ rights → LooksAlikeIn part u.memory l →
        Alike (ends_with step u (run_of code n u)) (ends_with step (with_memory u l) (run_of code n (with_memory u l)))
    ends_alike steps.Moved u l are looks = more u l are looks
    ends_alike steps.Returned u l are looks = record { first = refl; other = l; is = refl; rights_are = are; looks = looks }
    ends_alike (steps.Blocked index kind addr) u l are looks = record { first = refl; other = l; is = refl; rights_are = are; looks = looks }

    both_alike : (p q : Step × State) → Alike p q → Alike (ends_with p.0 p.1 (run_of code n p.1)) (ends_with q.0 q.1 (run_of code n q.1))
    both_alike p q h =
        let first = ends_with p.0 p.1 (run_of code n p.1) in
        let after : State = with_memory p.1 h.other in
        subst (λ (t : State). Alike first (ends_with q.0 t (run_of code n t))) (sym h.is)
        (subst (λ (step : Step). Alike first (ends_with step after (run_of code n after))) h.first
        (ends_alike p.0 p.1 h.other h.rights_are h.looks))

  pub run_alike : (code : List Insn) (n : ℕ) (s : State) (l : Memory) → s.rights ≡ rights → LooksAlikeIn part s.memory l →
      Alike (run_of code n s) (run_of code n (with_memory s l))
  run_alike code zero s l are looks = record { first = refl; other = l; is = refl; rights_are = are; looks = looks }
  run_alike code (suc n) s l are looks =
      both_alike code n (run_alike code n) (step_of code s) (step_of code (with_memory s l)) (step_alike (slice_get code s.index) s l are looks)
