-- A run depends on registers and on what may be loaded.
use Rattle.std.proofs.Common.{◌≡◌, ℕ, zero, suc, ◌+◌, Bool, true, false, List, slice_get, Option, Some, None, if◌then◌else◌, refl, sym, ◌∙◌, ap, subst, inl, inr}
use Rattle.std.proofs.lemmas.Bool.{cases_eq}
use Rattle.word_ops.specs.Memory.{Memory, read, write}
use Rattle.word_ops.specs.Rights.{Rights, allowed}
use Rattle.word_ops.specs.Registers.{read_reg, write_reg}
use Rattle.word_ops.proofs.Memories.{read-write_other, read-write_same}
use Rattle.alpha_words.specs.declared.insn.Insn.{Insn}
use Rattle.alpha_cfg.specs.Actions.{Action, action_of}
use Rattle.alpha_cfg.specs.Actions as actions
use Rattle.alpha_cfg.specs.Flow.{jump_of}
use Rattle.alpha_cfg.specs.declared.outcome.Kind.TheVariants.{Load, Store}
use Rattle.alpha_cfg.specs.declared.outcome.Step.{Step}
use Rattle.alpha_cfg.specs.declared.outcome.Step.TheVariants as steps
use Rattle.alpha_cfg.specs.Machine.{State, address_of, passes, access_outcome, state_at, action_outcome, step_at, step_of, ends_with, run_of, aligned}
use Rattle.alpha_cfg.specs.Isolation.{LooksAlike, DependsOnReadable}

-- the state with another memory
abbrev with_mem : State → Memory → State
with_mem s l = record s { memory = l }

-- ends that differ in memories alone, which look alike
record Alike (rights : Rights) {A : Type 0} (p q : A × State) : Type 0 where
  first : p.0 ≡ q.0
  other : Memory
  is : q.1 ≡ with_mem p.1 other
  rights_are : p.1.rights ≡ rights
  looks : LooksAlike rights p.1.memory other

alike_write : (rights : Rights) (m l : Memory) (a word : ℕ) → LooksAlike rights m l → LooksAlike rights (write m a word) (write l a word)
alike_write rights m l a word looks b may_be = elim (cases_eq b a) [
  | inl e ↦ ap (λ x. read (write m a word) x) e ∙ read-write_same m a word ∙ sym (read-write_same l a word) ∙ ap (λ x. read (write l a word) x) (sym e)
  | inr apart ↦ read-write_other m a word b apart ∙ looks b may_be ∙ sym (read-write_other l a word b apart)
]

load_alike : (may : Bool) (a ra : ℕ) (s : State) (l : Memory) → allowed s.rights.reads a ≡ may → LooksAlike s.rights s.memory l →
    Alike s.rights (access_outcome Load may a s (record s { index = s.index + 1; regs = write_reg s.regs ra (read s.memory a) })) (access_outcome Load may a (with_mem s l) (record (with_mem s l) { index = s.index + 1; regs = write_reg s.regs ra (read l a) }))
load_alike true a ra s l may_be looks = record { first = refl; other = l; is = ap (λ w. record s { index = s.index + 1; regs = write_reg s.regs ra w; memory = l }) (sym (looks a may_be)); rights_are = refl; looks = looks }
load_alike false a ra s l may_be looks = record { first = refl; other = l; is = refl; rights_are = refl; looks = looks }

store_alike : (may : Bool) (a word : ℕ) (s : State) (l : Memory) → LooksAlike s.rights s.memory l →
    Alike s.rights (access_outcome Store may a s (record s { index = s.index + 1; memory = write s.memory a word })) (access_outcome Store may a (with_mem s l) (record (with_mem s l) { index = s.index + 1; memory = write l a word }))
store_alike true a word s l looks = record { first = refl; other = write l a word; is = refl; rights_are = refl; looks = alike_write s.rights s.memory l a word looks }
store_alike false a word s l looks = record { first = refl; other = l; is = refl; rights_are = refl; looks = looks }

state_at_alike : (to : Option ℕ) (s : State) (l : Memory) → LooksAlike s.rights s.memory l → Alike s.rights (steps.Moved, state_at s to) (steps.Moved, state_at (with_mem s l) to)
state_at_alike None s l looks = record { first = refl; other = l; is = refl; rights_are = refl; looks = looks }
state_at_alike (Some j) s l looks = record { first = refl; other = l; is = refl; rights_are = refl; looks = looks }

action_alike : (e : Action) (jump : Option ℕ) (s : State) (l : Memory) → LooksAlike s.rights s.memory l → Alike s.rights (action_outcome e jump s) (action_outcome e jump (with_mem s l))
action_alike (actions.Compute to word) jump s l looks = record { first = refl; other = l; is = refl; rights_are = refl; looks = looks }
action_alike (actions.Load to base disp) jump s l looks = load_alike (allowed s.rights.reads (address_of s.regs base disp)) (address_of s.regs base disp) to s l refl looks
action_alike (actions.LoadAround to base disp) jump s l looks =
    let a = aligned (address_of s.regs base disp) in
    load_alike (allowed s.rights.reads a) a to s l refl looks
action_alike (actions.Store from base disp) jump s l looks = store_alike (allowed s.rights.writes (address_of s.regs base disp)) (address_of s.regs base disp) (read_reg s.regs from) s l looks
action_alike (actions.Branching test) jump s l looks = state_at_alike (if passes s.regs test then jump else Some (s.index + 1)) s l looks
action_alike actions.Return jump s l looks = record { first = refl; other = l; is = refl; rights_are = refl; looks = looks }

step_alike : (insn : Option Insn) (s : State) (l : Memory) → LooksAlike s.rights s.memory l → Alike s.rights (step_at insn s) (step_at insn (with_mem s l))
step_alike None s l looks = record { first = refl; other = l; is = refl; rights_are = refl; looks = looks }
step_alike (Some insn) s l looks = action_alike (action_of insn) (jump_of s.index insn) s l looks

-- the end of a run that begins with a step
module _ (code : List Insn) (n : ℕ) (rights : Rights) (more : (s : State) (l : Memory) → LooksAlike s.rights s.memory l → Alike s.rights (run_of code n s) (run_of code n (with_mem s l))) where
  ends_alike : (step : Step) (u : State) (l : Memory) → u.rights ≡ rights → LooksAlike rights u.memory l → Alike rights (ends_with step u (run_of code n u)) (ends_with step (with_mem u l) (run_of code n (with_mem u l)))
  ends_alike steps.Moved u l are looks = subst (λ r. LooksAlike r u.memory l → Alike r (run_of code n u) (run_of code n (with_mem u l))) are (more u l) looks
  ends_alike steps.Returned u l are looks = record { first = refl; other = l; is = refl; rights_are = are; looks = looks }
  ends_alike (steps.Blocked index kind addr) u l are looks = record { first = refl; other = l; is = refl; rights_are = are; looks = looks }

  both_alike : (p q : Step × State) → Alike rights p q → Alike rights (ends_with p.0 p.1 (run_of code n p.1)) (ends_with q.0 q.1 (run_of code n q.1))
  both_alike p q h =
      subst (λ (t : State). Alike rights (ends_with p.0 p.1 (run_of code n p.1)) (ends_with q.0 t (run_of code n t))) (sym h.is)
      (subst (λ (step : Step). Alike rights (ends_with p.0 p.1 (run_of code n p.1)) (ends_with step (with_mem p.1 h.other) (run_of code n (with_mem p.1 h.other)))) h.first
      (ends_alike p.0 p.1 h.other h.rights_are h.looks))

run_alike : (code : List Insn) (n : ℕ) (s : State) (l : Memory) → LooksAlike s.rights s.memory l → Alike s.rights (run_of code n s) (run_of code n (with_mem s l))
run_alike code zero s l looks = record { first = refl; other = l; is = refl; rights_are = refl; looks = looks }
run_alike code (suc n) s l looks = both_alike code n s.rights (run_alike code n) (step_of code s) (step_of code (with_mem s l)) (step_alike (slice_get code s.index) s l looks)

pub depends_on_readable : (code : List Insn) (n : ℕ) (s : State) → DependsOnReadable code n s
depends_on_readable code n s l looks =
    let h : Alike s.rights (run_of code n s) (run_of code n (with_mem s l)) = run_alike code n s l looks in
    record {
      outcome = h.first;
      index = ap (λ (t : State). t.index) (sym h.is);
      regs = ap (λ (t : State). t.regs) (sym h.is);
      memory = λ a may_be. h.looks a may_be ∙ ap (λ (t : State). read t.memory a) (sym h.is);
    }
