-- The code of a program stores nothing, so its runs leave memory as it was.
use Rattle.std.proofs.Common.{◌≡◌, ℕ, zero, suc, ◌+◌, Bool, true, false, ◌&&◌, if◌then◌else◌, List, [], ◌∷◌, ◌++◌, slice_get, Option, Some, None}
use Rattle.std.proofs.Common.{refl, sym, ap, ◌∙◌}
use Rattle.std.proofs.lemmas.Bool.{and_from}
use Rattle.std.proofs.lemmas.Option.{same_Some}
use Rattle.alpha_words.specs.declared.insn.Insn.{Insn}
use Rattle.alpha_cfg.specs.declared.outcome.Kind.{Kind}
use Rattle.alpha_cfg.specs.declared.outcome.Kind.TheVariants.{Load}
use Rattle.alpha_cfg.specs.declared.outcome.Step.{Step}
use Rattle.alpha_cfg.specs.declared.outcome.Step.TheVariants as steps
use Rattle.alpha_cfg.specs.declared.outcome.Outcome.{Outcome}
use Rattle.alpha_cfg.specs.Actions.{Action, action_of}
use Rattle.alpha_cfg.specs.Actions as actions
use Rattle.alpha_cfg.specs.Flow.{jump_of}
use Rattle.alpha_cfg.specs.Machine.{State, address_of, aligned, passes, access_outcome, state_at, action_outcome, step_at, step_of, ends_with, run_of}
use Rattle.word_ops.specs.Memory.{read}
use Rattle.word_ops.specs.Rights.{allowed}
use Rattle.word_ops.specs.Registers.{write_reg}
use Rattle.bpf_words.specs.declared.insn.Bpf.{Bpf}
use Rattle.bpf_words.specs.declared.insn.BpfOp.{BpfOp}
use Rattle.bpf_words.specs.declared.insn.BpfOp.TheVariants as ops
use Rattle.bpf_words.specs.declared.insn.BpfTest.TheVariants as tests
use Rattle.bpf_words.specs.Programs.{bpf_op}
use Rattle.bpf_code.specs.Blocks.{straight_code, end_code, end_place, filled, block_code, block_of, blocks_from, bpf_code}

-- the action stores nothing
abbrev keeps : Action → Bool
keeps (actions.Store from base disp) = false
keeps _ = true

-- no instruction stores
abbrev pub all_keep : List Insn → Bool
all_keep [] = true
all_keep (insn ∷ rest) = keeps (action_of insn) && all_keep rest

-- ---- runs of such code

and-first : (a b : Bool) → (a && b) ≡ true → a ≡ true
and-first true b e = refl
and-first false b e = absurd cc

and-second : (a b : Bool) → (a && b) ≡ true → b ≡ true
and-second true b e = e
and-second false b e = absurd cc

kept-at : (l : List Insn) (i : ℕ) (insn : Insn) → all_keep l ≡ true → slice_get l i ≡ Some insn → keeps (action_of insn) ≡ true
kept-at [] i insn k e = absurd cc
kept-at (first ∷ rest) zero insn k e =
    ap (λ z. keeps (action_of z)) (same_Some insn first (sym e)) ∙ and-first (keeps (action_of first)) (all_keep rest) k
kept-at (first ∷ rest) (suc i) insn k e = kept-at rest i insn (and-second (keeps (action_of first)) (all_keep rest) k) e

-- the memory is the same
abbrev Same : State → State → Type 0
Same s t = t.memory ≡ s.memory

access-same : (kind : Kind) (may : Bool) (a : ℕ) (s u : State) → Same s u → Same s (access_outcome kind may a s u).1
access-same kind true a s u same = same
access-same kind false a s u same = refl

state_at-same : (s : State) (to : Option ℕ) → Same s (state_at s to)
state_at-same s None = refl
state_at-same s (Some j) = refl

action-same : (e : Action) (jump : Option ℕ) (s : State) → keeps e ≡ true → Same s (action_outcome e jump s).1
action-same (actions.Compute to word) jump s k = refl
action-same (actions.Load to base disp) jump s k =
    let a = address_of s.regs base disp in
    access-same Load (allowed s.rights.reads a) a s (record s { index = s.index + 1; regs = write_reg s.regs to (read s.memory a) }) refl
action-same (actions.LoadAround to base disp) jump s k =
    let a = aligned (address_of s.regs base disp) in
    access-same Load (allowed s.rights.reads a) a s (record s { index = s.index + 1; regs = write_reg s.regs to (read s.memory a) }) refl
action-same (actions.Store from base disp) jump s k = absurd cc
action-same (actions.Branching test) jump s k = state_at-same s (if passes s.regs test then jump else Some (s.index + 1))
action-same actions.Return jump s k = refl

step-same : (o : Option Insn) (s : State) → ((insn : Insn) → o ≡ Some insn → keeps (action_of insn) ≡ true) → Same s (step_at o s).1
step-same None s k = refl
step-same (Some insn) s k = action-same (action_of insn) (jump_of s.index insn) s (k insn refl)

ends-same : (step : Step) (u : State) (on : Outcome × State) → Same u on.1 → Same u (ends_with step u on).1
ends-same steps.Moved u on same = same
ends-same steps.Returned u on same = refl
ends-same (steps.Blocked index kind addr) u on same = refl

pub run-same : (code : List Insn) (n : ℕ) (s : State) → all_keep code ≡ true → (run_of code n s).1.memory ≡ s.memory
run-same code zero s k = refl
run-same code (suc n) s k =
    let u : State = (step_of code s).1 in
    ends-same (step_of code s).0 u (run_of code n u) (run-same code n u k)
    ∙ step-same (slice_get code s.index) s (λ insn e. kept-at code s.index insn k e)

-- ---- the code of a program

keep-append : (l k : List Insn) → all_keep l ≡ true → all_keep k ≡ true → all_keep (l ++ k) ≡ true
keep-append [] k h g = g
keep-append (x ∷ l) k h g =
    and_from (keeps (action_of x)) (all_keep (l ++ k)) (and-first (keeps (action_of x)) (all_keep l) h)
    (keep-append l k (and-second (keeps (action_of x)) (all_keep l) h) g)

keep-filled : (n : ℕ) (l : List Insn) → all_keep l ≡ true → all_keep (filled n l) ≡ true
keep-filled zero l h = refl
keep-filled (suc n) [] h = keep-filled n [] refl
keep-filled (suc n) (x ∷ l) h =
    and_from (keeps (action_of x)) (all_keep (filled n l)) (and-first (keeps (action_of x)) (all_keep l) h)
    (keep-filled n l (and-second (keeps (action_of x)) (all_keep l) h))

keep-straight : (op : BpfOp) (k : ℕ) → all_keep (straight_code op k) ≡ true
keep-straight (ops.Jump tests.Jeq) k = refl
keep-straight (ops.Jump tests.Jgt) k = refl
keep-straight (ops.Jump tests.Jge) k = refl
keep-straight (ops.Jump tests.Jset) k = refl
keep-straight op k = refl

keep-end : (at i : ℕ) (b : Bpf) (op : BpfOp) → all_keep (end_code at i b op) ≡ true
keep-end at i b ops.Ret = refl
keep-end at i b ops.RetA = refl
keep-end at i b op = refl

keep-block : (i : ℕ) (b : Bpf) (o : Option BpfOp) → all_keep (block_of i b o) ≡ true
keep-block i b None = keep-filled 20 [] refl
keep-block i b (Some op) =
    keep-filled 20 (block_code i b op)
    (keep-append (straight_code op b.k) (end_code (end_place i op b.k) i b op) (keep-straight op b.k) (keep-end (end_place i op b.k) i b op))

keep-blocks : (i : ℕ) (program : List Bpf) → all_keep (blocks_from i program) ≡ true
keep-blocks i [] = refl
keep-blocks i (b ∷ rest) =
    keep-append (block_of i b (bpf_op b.code)) (blocks_from (suc i) rest) (keep-block i b (bpf_op b.code)) (keep-blocks (suc i) rest)

pub code-keeps : (program : List Bpf) → all_keep (bpf_code program) ≡ true
unfolding bpf_code
code-keeps program = keep-blocks 0 program
