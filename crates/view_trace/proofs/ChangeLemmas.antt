-- A step changes at most the register that its action writes.
use Rattle.std.proofs.Common.{◌≡◌, ℕ, zero, suc, ◌+◌, ◌==◌, Bool, true, false, if◌then◌else◌, eq-eqb}
use Rattle.std.proofs.Common.{List, [], ◌∷◌, slice_index, slice_set, Option, Some, None, refl, sym, ap, ◌∙◌, arith, ℤ}
use Rattle.word_ops.specs.Registers.{read_reg, write_reg}
use Rattle.word_ops.specs.Rights.{allowed}
use Rattle.alpha_words.specs.declared.memory.MemoryOp.{MemoryOp}
use Rattle.alpha_words.specs.MemoryOps.{memory_kind}
use Rattle.alpha_words.proofs.EachMemoryOp.{each_memory_op_same}
use Rattle.alpha_cfg.specs.Actions.{Action, memory_action}
use Rattle.alpha_cfg.specs.Actions as actions
use Rattle.alpha_cfg.specs.Machine.{State, state_at, access_outcome, action_outcome, address_of, aligned, passes}
use Rattle.alpha_cfg.specs.declared.outcome.Kind.{Kind}
use Rattle.alpha_cfg.specs.declared.outcome.Kind.TheVariants.{Load, Store}
use Rattle.view_trace.specs.Changes.{change_text, word_text}
use Rattle.view_trace.specs.Inside.Written.{register_written, memory_written, word_change}

-- ---- lists of words

-- words that stay
pub change_text-same : (n : ℕ) (regs : List ℕ) → change_text n regs regs ≡ []
change_text-same n [] = refl
change_text-same n (x ∷ regs) = rw (eq-eqb x x refl) (change_text-same (n + 1) regs)

first_change : (b : Bool) (n m word : ℕ) (same : List ℕ) → same ≡ [] → n ≡ m
    → (if b then same else word_text n word) ≡ (if b then [] else word_text m word)
first_change true n m word same e h = e
first_change false n m word same e h = ap (λ k. word_text k word) h

-- one word that is written
pub change_text-set : (n : ℕ) (regs : List ℕ) (r word : ℕ) → change_text n regs (slice_set regs r word)
    ≡ word_change (n + r) (slice_index regs r) (slice_index (slice_set regs r word) r)
change_text-set n [] r word = refl
change_text-set n (x ∷ regs) zero word =
    first_change (x == word) n (n + 0) word (change_text (n + 1) regs regs) (change_text-same (n + 1) regs) (omega arith)
change_text-set n (x ∷ regs) (suc r) word =
    rw (eq-eqb x x refl) (change_text-set (n + 1) regs r word
    ∙ ap (λ k. word_change k (slice_index regs r) (slice_index (slice_set regs r word) r)) (omega arith))

-- ---- registers

-- what is said of all registers is what is said of this one
abbrev pub IsChangeOf : ℕ → List ℕ → List ℕ → Type 0
IsChangeOf r old new = change_text 0 old new ≡ word_change r (read_reg old r) (read_reg new r)

no_change : (r x : ℕ) → word_change r x x ≡ []
no_change r x = rw (eq-eqb x x refl) refl

kept : (r : ℕ) (regs : List ℕ) → IsChangeOf r regs regs
kept r regs = change_text-same 0 regs ∙ sym (no_change r (read_reg regs r))

by_test : (b : Bool) (regs : List ℕ) (r word : ℕ) → change_text 0 regs (if b then regs else slice_set regs r word)
    ≡ word_change r (if b then 0 else slice_index regs r)
    (if b then 0 else slice_index (if b then regs else slice_set regs r word) r)
by_test true regs r word = change_text-same 0 regs
by_test false regs r word =
    change_text-set 0 regs r word
    ∙ ap (λ k. word_change k (slice_index regs r) (slice_index (slice_set regs r word) r)) (omega arith)

written : (regs : List ℕ) (r word : ℕ) → IsChangeOf r regs (write_reg regs r word)
written regs r word = by_test (r == 31) regs r word

-- ---- steps

-- of an access, blocked or not
accessed : (kind : Kind) (may : Bool) (a r : ℕ) (s u : State) → IsChangeOf r s.regs u.regs
    → IsChangeOf r s.regs (access_outcome kind may a s u).1.regs
accessed kind true a r s u h = h
accessed kind false a r s u h = kept r s.regs

led : (r : ℕ) (s : State) (to : Option ℕ) → IsChangeOf r s.regs (state_at s to).regs
led r s None = kept r s.regs
led r s (Some j) = kept r s.regs

-- of an action
pub changed : (action : Action) (jump : Option ℕ) (s : State)
    → IsChangeOf (register_written action) s.regs (action_outcome action jump s).1.regs
changed (actions.Compute to word) jump s = written s.regs to _
changed (actions.Load to base disp) jump s =
    let a = address_of s.regs base disp in accessed Load (allowed s.rights.reads a) a to s _ (written s.regs to _)
changed (actions.LoadAround to base disp) jump s =
    let a = aligned (address_of s.regs base disp) in accessed Load (allowed s.rights.reads a) a to s _ (written s.regs to _)
changed (actions.Store from base disp) jump s =
    let a = address_of s.regs base disp in accessed Store (allowed s.rights.writes a) a 31 s _ (kept 31 s.regs)
changed (actions.Branching test) jump s = led 31 s (if passes s.regs test then jump else Some (s.index + 1))
changed actions.Return jump s = kept 31 s.regs

-- ---- instructions

-- of the memory format
pub memory-written : (op : MemoryOp) (ra rb : ℕ) (disp : ℤ) → register_written (memory_action op ra rb disp) ≡ memory_written (memory_kind op) ra
memory-written op ra rb disp =
    each_memory_op_same (λ o. register_written (memory_action o ra rb disp)) (λ o. memory_written (memory_kind o) ra) refl op
