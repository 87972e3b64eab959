-- Calls that may be made are never stuck, and end in time.
use Rattle.std.proofs.Common.{◌≡◌, ◌⊎◌, ℕ, zero, suc, ◌+◌, ◌-◌, ◌*◌, ◌<◌, ◌≤◌, Bool, true, false, cond, ◌&&◌, List, [], ◌∷◌, ◌++◌, length, slice_get}
use Rattle.std.proofs.Common.{slice_index, Option, Some, None, length-append, refl, sym, ap, ◌∙◌, subst, arith, inl, inr}
use Rattle.std.proofs.lemmas.Bool.{cases_lt, cases_Bool}
use Rattle.std.proofs.lemmas.Option.{slice_get_within, slice_get_past}
use Rattle.alpha_words.specs.declared.insn.Insn.{Insn}
use Rattle.alpha_cfg.specs.declared.outcome.Kind.{Kind}
use Rattle.alpha_cfg.specs.declared.outcome.Kind.TheVariants as kinds
use Rattle.alpha_cfg.specs.declared.outcome.Step.{Step}
use Rattle.alpha_cfg.specs.declared.outcome.Step.TheVariants as moves
use Rattle.alpha_cfg.specs.declared.outcome.Outcome.{Outcome}
use Rattle.alpha_cfg.specs.declared.outcome.Outcome.TheVariants as ends
use Rattle.alpha_cfg.specs.Flow.{IsCode, jump_of}
use Rattle.alpha_cfg.specs.Machine.{State, IsState, insn_outcome, step_at, ends_with, run_of}
use Rattle.alpha_cfg.proofs.States.{IsAt, insn_outcome-keeps}
use Rattle.x86_machine.specs.declared.outcome.X86Step.{X86Step}
use Rattle.x86_machine.specs.declared.outcome.X86Step.TheVariants as steps
use Rattle.x86_machine.specs.declared.outcome.X86Outcome.{X86Outcome}
use Rattle.x86_machine.specs.declared.outcome.X86Outcome.TheVariants as outcomes
use Rattle.x86_machine.specs.Machine.{X86, x86_step, x86_ends_with, x86_run}
use Rattle.native_steps.specs.Places.{Places}
use Rattle.native_steps.specs.Agreement.{Call, IsLent}
use Rattle.native_code.specs.declared.insn.NativeInsn.{NativeInsn}
use Rattle.native_code.specs.Heads.{is_loop_head, if_moved, arrivals, fuel_of}
use Rattle.native_code.specs.Lives.{Lean, IsLean}
use Rattle.native_code.specs.Blocks.{plain, spent_code, block_at, RDX}
use Rattle.native_code.specs.Layout.{native_length, placed_from, front_code, whole_code, offset_of, native_insns, native_text}
use Rattle.native_code.specs.Calls.{ArePlacesOf, spend, IsCallEnd, AgreesAt}
use Rattle.native_code.specs.Ends.{IsAllowedRun, IsSafeCall, ReturnsAs, RunsOut, IsSafeEnd, SafeCalls, LeavesWithin, EndingCalls, ReturningCalls}
use Rattle.native_code.proofs.Texts.{block, gap}
use Rattle.native_code.proofs.Heading.{heads}
use Rattle.native_code.proofs.Reaching.{Reaches, reached}
use Rattle.native_code.proofs.Fitting.{plain-count, entry-count}
use Rattle.native_code.proofs.Called.{begins}
use Rattle.native_code.proofs.Following.{sum-is, nothing, no-unit, return-spent, LeavesIn, takes, state-after, lent-after, steps-on, ends-so}
use Rattle.native_code.proofs.Following.{wanted-size, missing, spends}

-- ---- flags

and-both : (m h : Bool) → (m && h) ≡ true → (m ≡ true) × (h ≡ true)
and-both true h e = (refl, e)
and-both false h e = absurd cc

one-unit : (b : Bool) → b ≡ true → ◌≡◌ {A = ℕ} (cond b 1 0) 1
one-unit b e = ap (λ c. cond c 1 0) e

not-unit : (b : Bool) → cond b 0 1 ≤ 1
not-unit true = omega arith
not-unit false = omega arith

-- ---- runs that went on, and runs that left

early-by : (q : X86Step × X86) (text : List ℕ) (c n : ℕ) (y : X86) →
    ((u : X86) → x86_run text c u ≡ (outcomes.OutOfSteps, y) → (z : X86) × (x86_run text n u ≡ (outcomes.OutOfSteps, z))) →
    x86_ends_with q.0 q.1 (x86_run text c q.1) ≡ (outcomes.OutOfSteps, y) →
    (z : X86) × (x86_ends_with q.0 q.1 (x86_run text n q.1) ≡ (outcomes.OutOfSteps, z))
early-by (steps.Moved, u) text c n y on e = on u e
early-by (steps.Left, u) text c n y on e = let wrong : outcomes.Left ≡ outcomes.OutOfSteps = ap (λ (q : X86Outcome × X86). q.0) e in absurd cc
early-by (steps.Stuck, u) text c n y on e = let wrong : outcomes.Stuck ≡ outcomes.OutOfSteps = ap (λ (q : X86Outcome × X86). q.0) e in absurd cc

-- a run of fewer steps went on too
early : (c n : ℕ) (text : List ℕ) (x y : X86) → n ≤ c → x86_run text c x ≡ (outcomes.OutOfSteps, y) →
    (z : X86) × (x86_run text n x ≡ (outcomes.OutOfSteps, z))
early zero zero text x y low e = (x, refl)
early (suc c) zero text x y low e = (x, refl)
early zero (suc n) text x y low e = absurd (omega (arith, low))
early (suc c) (suc n) text x y low e = early-by (x86_step text x) text c n y (λ u f. early c n text u y (omega (arith, low)) f) e

left-by : (q : X86Step × X86) (text : List ℕ) (c n : ℕ) (y : X86) (P : X86Outcome × X86 → Type 0) →
    ((u : X86) → x86_run text c u ≡ (outcomes.Left, y) → P (x86_run text n u)) → P (outcomes.Left, y) →
    x86_ends_with q.0 q.1 (x86_run text c q.1) ≡ (outcomes.Left, y) →
    P (x86_ends_with q.0 q.1 (x86_run text n q.1))
left-by (steps.Moved, u) text c n y P on left e = on u e
left-by (steps.Left, u) text c n y P on left e = subst P (sym e) left
left-by (steps.Stuck, u) text c n y P on left e = let wrong : outcomes.Stuck ≡ outcomes.Left = ap (λ (q : X86Outcome × X86). q.0) e in absurd cc

-- what holds of runs that went on, and of the end, holds of every run of a call that left
after-left : (c n : ℕ) (text : List ℕ) (x y : X86) (P : X86Outcome × X86 → Type 0) → x86_run text c x ≡ (outcomes.Left, y) →
    ((z : X86) → P (outcomes.OutOfSteps, z)) → P (outcomes.Left, y) →
    P (x86_run text n x)
after-left zero n text x y P e on left = let wrong : outcomes.OutOfSteps ≡ outcomes.Left = ap (λ (q : X86Outcome × X86). q.0) e in absurd cc
after-left (suc c) zero text x y P e on left = on x
after-left (suc c) (suc n) text x y P e on left = left-by (x86_step text x) text c n y P (λ u f. after-left c n text u y P f on left) left e

-- what holds of runs that went on, and of all from a later state, holds of every run
from-reached : {count : ℕ} (n : ℕ) (text : List ℕ) (x y : X86) (P : X86Outcome × X86 → Type 0) → Reaches text count x y →
    ((z : X86) → P (outcomes.OutOfSteps, z)) → ((k : ℕ) → count + k ≡ n → P (x86_run text k y)) →
    P (x86_run text n x)
from-reached {count = count} n text x y P r on later = elim (cases_lt n count) [
  | inl low ↦
      let z = early count n text x y (omega (arith, low)) (reached text x y r) in
      subst P (sym z.1) (on z.0)
  | inr high ↦
      let sum : count + (n - count) ≡ n = omega (arith, high) in
      subst (λ m. P (x86_run text m x)) sum (subst P (sym (r.runs (n - count))) (later (n - count) sum))
]

-- two ends of one run are the same
one-end : (c n : ℕ) (text : List ℕ) (x y z : X86) → x86_run text c x ≡ (outcomes.Left, y) → x86_run text n x ≡ (outcomes.Left, z) → z ≡ y
one-end c n text x y z e f =
    let same : (x86_run text n x).0 ≡ outcomes.Left → (x86_run text n x).1 ≡ y =
    after-left c n text x y (λ q. q.0 ≡ outcomes.Left → q.1 ≡ y) e (λ u wrong. absurd cc) (λ left. refl) in
    ap (λ (q : X86Outcome × X86). q.1) (sym f) ∙ same (ap (λ (q : X86Outcome × X86). q.0) f)

-- ---- one step of the Alpha code, and a run behind it

module _ (code : List Insn) (s : State) (insn : Insn) (here : slice_get code s.index ≡ Some insn) where
  abbrev at_head : Bool
  at_head = is_loop_head code s.index

  stepped : (q : Step × State) → insn_outcome insn s ≡ q → (n : ℕ) → run_of code (suc n) s ≡ ends_with q.0 q.1 (run_of code n q.1)
  stepped q e n =
      ap (λ (o : Option Insn). let r = step_at o s in ends_with r.0 r.1 (run_of code n r.1)) here
      ∙ ap (λ (r : Step × State). ends_with r.0 r.1 (run_of code n r.1)) e

  arrived : (q : Step × State) → insn_outcome insn s ≡ q → (n : ℕ) → arrivals code (suc n) s ≡ cond at_head 1 0 + if_moved q.0 (arrivals code n q.1)
  arrived q e n =
      ap (λ (o : Option Insn). let r = step_at o s in cond at_head 1 0 + if_moved r.0 (arrivals code n r.1)) here
      ∙ ap (λ (r : Step × State). cond at_head 1 0 + if_moved r.0 (arrivals code n r.1)) e

  -- it isn't blocked
  unblocked : (index : ℕ) (kind : Kind) (addr : ℕ) (u : State) → insn_outcome insn s ≡ (moves.Blocked index kind addr, u) →
      ((n : ℕ) → IsAllowedRun (run_of code n s).0) → ⊥
  unblocked index kind addr u e allowed =
      subst (λ (r : Outcome × State). IsAllowedRun r.0) (stepped (moves.Blocked index kind addr, u) e 0) (allowed 1)

  allowed-after : (u : State) → insn_outcome insn s ≡ (moves.Moved, u) → ((n : ℕ) → IsAllowedRun (run_of code n s).0) →
      (n : ℕ) → IsAllowedRun (run_of code n u).0
  allowed-after u e allowed n = subst (λ (r : Outcome × State). IsAllowedRun r.0) (stepped (moves.Moved, u) e n) (allowed (suc n))

-- there is an instruction
outside-not : (code : List Insn) (s : State) → slice_get code s.index ≡ None → ((n : ℕ) → IsAllowedRun (run_of code n s).0) → ⊥
outside-not code s none allowed =
    subst (λ (r : Outcome × State). IsAllowedRun r.0)
    (ap (λ (o : Option Insn). let q = step_at o s in ends_with q.0 q.1 (run_of code 0 q.1)) none) (allowed 1)

-- ---- never stuck

module _ (p : Places) (lean : Lean) (metered : Bool) (code : List Insn) (ok : IsCode code) (lives : IsLean lean code) (of : ArePlacesOf p lean code) where
  abbrev text : List ℕ
  text = native_text p lean metered code

  -- every run of at most n steps, from so far before the end of the code, ends well: a step of the Alpha code may be none of native code
  abbrev SafeAll : ℕ → ℕ → Type 0
  SafeAll n d =
      (m : ℕ) → m ≤ n → (call : Call) (s : State) (x : X86) → IsState s → IsLent call s.rights → AgreesAt p lean metered code call s x →
      ((k : ℕ) → IsAllowedRun (run_of code k s).0) → length code ≤ d + s.index →
      IsSafeEnd metered code call s (x86_run text m x)

  module _ (n d : ℕ) (less : (b : ℕ) → suc b ≡ n → (e : ℕ) → SafeAll b e) (near_by : (e : ℕ) → suc e ≡ d → SafeAll n e) (m : ℕ) (low : m ≤ n) (call : Call)
      (s : State) (x : X86) (state : IsState s) (lent : IsLent call s.rights) (a : AgreesAt p lean metered code call s x)
      (allowed : (k : ℕ) → IsAllowedRun (run_of code k s).0) (far : length code ≤ d + s.index) (insn : Insn) (here : slice_get code s.index ≡ Some insn)
    where
      abbrev units : ℕ
      units = cond (metered && is_loop_head code s.index) 1 0

      -- the end of the rest is one of the whole
      later-return : (u : State) (y : X86) → insn_outcome insn s ≡ (moves.Moved, u) → units ≤ call.fuel → ReturnsAs metered code (spend call units) u y →
          ReturnsAs metered code call s y
      later-return u y e enough r =
          let count : fuel_of metered code (suc r.steps) s ≡ units + fuel_of metered code r.steps u =
          ap (λ k. cond metered k 0) (arrived code s insn here (moves.Moved, u) e r.steps)
          ∙ sum-is metered (is_loop_head code s.index) (arrivals code r.steps u) in
          let rest-is : fuel_of metered code r.steps u ≤ call.fuel - units = r.enough in
          record {
            steps = suc r.steps;
            word = r.word;
            state = r.state;
            run = stepped code s insn here (moves.Moved, u) e r.steps ∙ r.run;
            enough = omega (arith, count, rest-is, enough);
            end = return-spent call (call.fuel - units) r.word 0 r.state y r.end;
          }

      later-out : (u : State) (y : X86) → insn_outcome insn s ≡ (moves.Moved, u) → units ≤ call.fuel → RunsOut metered code (spend call units) u y →
          RunsOut metered code call s y
      later-out u y e enough r =
          let count = arrived code s insn here (moves.Moved, u) e (suc r.steps) in
          let same : units ≡ cond (is_loop_head code s.index) 1 0 = ap (λ b. cond (b && is_loop_head code s.index) 1 0) r.counted in
          let rest-is : call.fuel - units < arrivals code (suc r.steps) u = r.more in
          record {
            counted = r.counted;
            steps = suc r.steps;
            more = omega (arith, count, same, rest-is, enough);
            end =
                return-spent call (call.fuel - units) 0 1 (run_of code (suc r.steps) s).1 y
                (subst (λ (q : Outcome × State). IsCallEnd (spend call units) 0 1 q.1 y) (sym (stepped code s insn here (moves.Moved, u) e r.steps)) r.end);
          }

      later : (u : State) → insn_outcome insn s ≡ (moves.Moved, u) → units ≤ call.fuel → (q : X86Outcome × X86) →
          IsSafeEnd metered code (spend call units) u q →
          IsSafeEnd metered code call s q
      later u e enough (outcomes.OutOfSteps, y) h = tt
      later u e enough (outcomes.Left, y) h = elim h [ inl r ↦ inl (later-return u y e enough r) | inr r ↦ inr (later-out u y e enough r) ]
      later u e enough (outcomes.Stuck, y) h = absurd h

      safe-dry : takes p lean metered code ok lives of call s x state lent a ≡ true → call.fuel ≡ 0 → IsSafeEnd metered code call s (x86_run text m x)
      safe-dry wanted none =
          let l = missing p lean metered code ok lives of call s x state lent a insn here wanted none in
          let both = and-both metered (is_loop_head code s.index) wanted in
          let count = arrived code s insn here (insn_outcome insn s) refl 0 in
          let one = one-unit (is_loop_head code s.index) both.1 in
          after-left l.count m text x l.end (IsSafeEnd metered code call s) l.left (λ z. tt)
          (inr (record { counted = both.0; steps = 0; more = omega (arith, count, one, none); end = l.returns }))

      -- the rest: there are fewer steps, or the index is nearer to the end
      rest : (u : State) (y : X86) (count k : ℕ) → insn_outcome insn s ≡ (moves.Moved, u) → (1 ≤ count) ⊎ (s.index < u.index) → count + k ≡ m →
          AgreesAt p lean metered code (spend call units) u y →
          IsSafeEnd metered code (spend call units) u (x86_run text k y)
      rest u y count k e on sum after =
          let state-then = state-after p lean metered code ok lives of call s x state lent a insn here u e in
          let lent-then = lent-after p lean metered code ok lives of call s x state lent a insn here (call.fuel - units) u e in
          let allowed-then = allowed-after code s insn here u e allowed in
          elim on [
            | inl some ↦
                less (n - 1) (omega (arith, sum, some, low)) (length code) k (omega (arith, sum, some, low)) (spend call units) u y state-then lent-then after
                allowed-then (omega arith)
            | inr further ↦
                let inside = slice_get_within code s.index insn here in
                near_by (d - 1) (omega (arith, inside, far)) k (omega (arith, sum, low)) (spend call units) u y state-then lent-then after allowed-then
                (omega (arith, further, far, inside))
          ]

      safe-by : (q : Step × State) → insn_outcome insn s ≡ q → units ≤ call.fuel → IsSafeEnd metered code call s (x86_run text m x)
      safe-by (moves.Moved, u) e enough =
          let r = steps-on p lean metered code ok lives of call s x state lent a insn here u enough e in
          from-reached m text x r.end (IsSafeEnd metered code call s) r.reaches (λ z. tt)
          (λ k sum. later u e enough (x86_run text k r.end) (rest u r.end r.count k e r.on sum r.agrees_then))
      safe-by (moves.Returned, u) e enough =
          let r = ends-so p lean metered code ok lives of call s x state lent a insn here u enough e in
          let l = r.leaves in
          let count : fuel_of metered code 1 s ≡ units + cond metered 0 0 =
          ap (λ k. cond metered k 0) (arrived code s insn here (moves.Returned, u) e 0) ∙ sum-is metered (is_loop_head code s.index) 0 in
          let none = nothing metered in
          after-left l.count m text x l.end (IsSafeEnd metered code call s) l.left (λ z. tt)
          (inl (record {
            steps = 1;
            word = slice_index u.regs 0;
            state = u;
            run = stepped code s insn here (moves.Returned, u) e 0;
            enough = omega (arith, count, none, enough);
            end = l.returns;
          }))
      safe-by (moves.Blocked index kind addr, u) e enough = absurd (unblocked code s insn here index kind addr u e allowed)

      safe-insn : IsSafeEnd metered code call s (x86_run text m x)
      safe-insn = elim (cases_lt call.fuel units) [
        | inl dry ↦ elim (cases_Bool (metered && is_loop_head code s.index)) [
          | inl wanted ↦
              let one : units ≡ 1 = ap (λ b. cond b 1 0) wanted in
              safe-dry wanted (omega (arith, dry, one))
          | inr other ↦ let u = no-unit (metered && is_loop_head code s.index) other in absurd (omega (arith, dry, u))
        ]
        | inr enough ↦ safe-by (insn_outcome insn s) refl enough
      ]

  safe-at : (o : Option Insn) (n d : ℕ) → ((b : ℕ) → suc b ≡ n → (e : ℕ) → SafeAll b e) → ((e : ℕ) → suc e ≡ d → SafeAll n e) → (m : ℕ) → m ≤ n →
      (call : Call) (s : State) (x : X86) → IsState s → IsLent call s.rights → AgreesAt p lean metered code call s x →
      ((k : ℕ) → IsAllowedRun (run_of code k s).0) → length code ≤ d + s.index → slice_get code s.index ≡ o →
      IsSafeEnd metered code call s (x86_run text m x)
  safe-at None n d less near_by m low call s x state lent a allowed far here = absurd (outside-not code s here allowed)
  safe-at (Some insn) n d less near_by m low call s x state lent a allowed far here =
      safe-insn n d less near_by m low call s x state lent a allowed far insn here

  safe-near : (n : ℕ) → ((b : ℕ) → suc b ≡ n → (e : ℕ) → SafeAll b e) → (d : ℕ) → SafeAll n d
  safe-near n less zero = λ m low call s x state lent a allowed far.
      safe-at (slice_get code s.index) n zero less (λ e wrong. absurd (omega (arith, wrong))) m low call s x state lent a allowed far refl
  safe-near n less (suc d) = λ m low call s x state lent a allowed far.
      safe-at (slice_get code s.index) n (suc d) less
      (λ e same. let is : d ≡ e = omega (arith, same) in subst (λ k. SafeAll n k) is (safe-near n less d)) m low call s x state lent a allowed far refl

  safe-all : (n d : ℕ) → SafeAll n d
  safe-all zero d = safe-near zero (λ b wrong e. absurd (omega (arith, wrong))) d
  safe-all (suc n) d = safe-near (suc n) (λ b same e. let is : n ≡ b = omega (arith, same) in subst (λ k. SafeAll k e) is (safe-all n e)) d

pub safe : SafeCalls
safe = λ p lean metered code call s x h n.
    let e = begins p lean metered code call s x h.is_code h.lives h.places.places h.state h.lent h.begins in
    from-reached n (native_text p lean metered code) x e.end (IsSafeEnd metered code call s) e.reaches (λ z. tt)
    (λ k sum. safe-all p lean metered code h.is_code h.lives h.places k (length code) k (omega arith) call s e.end h.state h.lent e.agrees h.allowed
    (omega arith))

-- ---- where blocks begin, in instructions

placed-count : (offset : ℕ → ℕ) (at : ℕ) (l : List NativeInsn) → length (placed_from offset at l) ≡ length l
placed-count offset at [] = refl
placed-count offset at (i ∷ rest) = ap suc (placed-count offset (at + native_length i) rest)

suc-times : (b w : ℕ) → suc b * w ≡ b * w + w
suc-times b w = omega arith

module _ (p : Places) (lean : Lean) (metered : Bool) (code : List Insn) where
  -- the instructions in front of a block
  abbrev before : ℕ → ℕ
  before k = length (front_code p lean metered code k)

  before-next : (k : ℕ) → before (suc k) ≡ before k + length (block p lean metered code k) + length (gap p lean metered code k)
  before-next k =
      length-append (front_code p lean metered code k ++ block p lean metered code k) (gap p lean metered code k)
      ∙ ap (λ n. n + length (gap p lean metered code k)) (length-append (front_code p lean metered code k) (block p lean metered code k))

  before-later : (n k : ℕ) → k ≤ n → before k ≤ before n
  before-later zero k h = let none : k ≡ 0 = omega (arith, h) in let same : before k ≡ before 0 = ap before none in omega (arith, same)
  before-later (suc n) k h = elim (cases_lt n k) [
    | inl above ↦ let one : k ≡ suc n = omega (arith, h, above) in let same : before k ≡ before (suc n) = ap before one in omega (arith, same)
    | inr below ↦ let rest = before-later n k below in let next = before-next n in omega (arith, rest, next)
  ]

  -- all instructions
  abbrev all : ℕ
  all = length (native_insns p lean metered code)

  all-is : before (length code) + length (spent_code p) ≤ all
  all-is =
      let n : ℕ = length code in
      let none : slice_get code n ≡ None = slice_get_past code n (omega arith) in
      let last : length (block p lean metered code n) ≡ length (plain (spent_code p)) = ap (λ o. length (block_at p lean metered code n o)) none in
      let same = plain-count (spent_code p) in
      let next = before-next n in
      let whole : all ≡ before (suc n) = placed-count (offset_of p lean metered code) 0 (whole_code p lean metered code) in
      omega (arith, last, same, next, whole)

-- ---- so many steps at most

leave-later : {k : ℕ} (text : List ℕ) (x y : X86) (m n : ℕ) → Reaches text k x y → k + m ≤ n → LeavesWithin text m y → LeavesWithin text n x
leave-later {k = k} text x y m n r sum l = record {
  count = k + l.count;
  within = let w = l.within in omega (arith, sum, w);
  end = l.end;
  left = r.runs l.count ∙ l.left;
}

leaves-less : (p : Places) (lean : Lean) (metered : Bool) (code : List Insn) (ok : IsCode code) (lives : IsLean lean code) (of : ArePlacesOf p lean code)
    (call : Call) (word why most n : ℕ) (t : State) (x : X86) → most ≤ n → LeavesIn p lean metered code ok lives of call word why t x most →
    LeavesWithin (native_text p lean metered code) n x
leaves-less p lean metered code ok lives of call word why most n t x h l =
    record { count = l.count; within = let w = l.within in omega (arith, h, w); end = l.end; left = l.left }

-- ---- in time, if fuel is counted

module _ (p : Places) (lean : Lean) (code : List Insn) (ok : IsCode code) (lives : IsLean lean code) (of : ArePlacesOf p lean code) where
  abbrev metered_text : List ℕ
  metered_text = native_text p lean true code

  abbrev whole : ℕ
  whole = all p lean true code

  abbrev start : ℕ → ℕ
  start = before p lean true code

  -- how often the run may come to a loop head, and to the end of the text
  abbrev rounds : Call → State → ℕ
  rounds call s = call.fuel + cond (is_loop_head code s.index) 0 1

  -- with so many rounds, from so far before the end, the call ends
  abbrev AllLeave : ℕ → ℕ → Type 0
  AllLeave a d =
      (call : Call) (s : State) (x : X86) (m : ℕ) → IsState s → IsLent call s.rights → AgreesAt p lean true code call s x →
      ((k : ℕ) → IsAllowedRun (run_of code k s).0) → rounds call s ≤ a → length code ≤ d + s.index → a * whole + whole ≤ m + start s.index →
      LeavesWithin metered_text m x

  module _ (a d : ℕ) (less : (b : ℕ) → suc b ≡ a → (e : ℕ) → AllLeave b e) (near_by : (e : ℕ) → suc e ≡ d → AllLeave a e) (call : Call) (s : State) (x : X86)
      (m : ℕ) (state : IsState s) (lent : IsLent call s.rights) (agrees : AgreesAt p lean true code call s x)
      (allowed : (k : ℕ) → IsAllowedRun (run_of code k s).0) (few : rounds call s ≤ a) (far : length code ≤ d + s.index)
      (room : a * whole + whole ≤ m + start s.index) (insn : Insn) (here : slice_get code s.index ≡ Some insn)
    where
      abbrev head : Bool
      head = is_loop_head code s.index

      abbrev unit : ℕ
      unit = cond head 1 0

      abbrev here_size : ℕ
      here_size = length (block p lean true code s.index) + length (gap p lean true code s.index)

      inside : s.index < length code
      inside = slice_get_within code s.index insn here

      -- the block is in front of the last
      block-room : start s.index + here_size + length (spent_code p) ≤ whole
      block-room =
          let next = before-next p lean true code s.index in
          let low = inside in
          let last = before-later p lean true code (length code) (suc s.index) (omega (arith, low)) in
          let sum = all-is p lean true code in
          omega (arith, next, last, sum)

      -- there are steps enough for it
      fits : here_size + length (spent_code p) ≤ m
      fits = let b = block-room in omega (arith, b, room)

      -- what is left of the rounds
      rounds-left : unit ≤ call.fuel → call.fuel - unit + 1 ≤ a
      rounds-left enough = elim (cases_Bool head) [
        | inl is ↦
            let one = one-unit head is in
            let none : ◌≡◌ {A = ℕ} (cond head 0 1) 0 = ap (λ b. cond b 0 1) is in
            omega (arith, one, none, few, enough)
        | inr other ↦
            let none = no-unit head other in
            let one : ◌≡◌ {A = ℕ} (cond head 0 1) 1 = ap (λ b. cond b 0 1) other in
            omega (arith, one, none, few)
      ]

      -- an index that is no loop head is further on
      further : (j : ℕ) → (j ≡ suc s.index) ⊎ (jump_of s.index insn ≡ Some j) → is_loop_head code j ≡ false → s.index < j
      further j next other = elim next [
        | inl e ↦ omega (arith, e)
        | inr leads ↦ elim (cases_lt s.index j) [
          | inl low ↦ low
          | inr back ↦
              let is : is_loop_head code j ≡ true = (heads code j).1 (record { from = s.index; back = back; insn = insn; here = here; leads = leads }) in
              let wrong : true ≡ false = sym is ∙ other in absurd cc
        ]
      ]

      index-after : (u : State) → insn_outcome insn s ≡ (moves.Moved, u) → u.index < length code
      index-after u e =
          let is : IsAt (length code) s = record { index = inside; state = state } in
          let k : IsAt (length code) (insn_outcome insn s).1 = insn_outcome-keeps code insn s ok here (ok.encoded s.index insn here) is in
          subst (λ (q : Step × State). q.1.index < length code) e k.index

      -- the rest, by whether the next index is a loop head
      rest-leaves : (u : State) (y : X86) (k n : ℕ) → unit ≤ call.fuel → k ≤ here_size → k + n ≡ m → insn_outcome insn s ≡ (moves.Moved, u) →
          (u.index ≡ suc s.index) ⊎ (jump_of s.index insn ≡ Some u.index) → AgreesAt p lean true code (spend call unit) u y →
          LeavesWithin metered_text n y
      rest-leaves u y k n enough small sum e next after =
          let left = rounds-left enough in
          let gap = block-room in
          let state-then = state-after p lean true code ok lives of call s x state lent agrees insn here u e in
          let lent-then = lent-after p lean true code ok lives of call s x state lent agrees insn here (call.fuel - unit) u e in
          let allowed-then = allowed-after code s insn here u e allowed in
          elim (cases_Bool (is_loop_head code u.index)) [
            | inl is ↦
                let b : ℕ = a - 1 in
                let one : suc b ≡ a = omega (arith, left) in
                let none : ◌≡◌ {A = ℕ} (cond (is_loop_head code u.index) 0 1) 0 = ap (λ v. cond v 0 1) is in
                let split : a * whole ≡ b * whole + whole = ap (λ v. v * whole) (sym one) ∙ suc-times b whole in
                less b one (length code) (spend call unit) u y n state-then lent-then after allowed-then (omega (arith, left, none, one)) (omega arith)
                (omega (arith, room, gap, small, sum, split))
            | inr other ↦
                let on = further u.index next other in
                let one : ◌≡◌ {A = ℕ} (cond (is_loop_head code u.index) 0 1) 1 = ap (λ v. cond v 0 1) other in
                let low = index-after u e in
                let back : suc (d - 1) ≡ d = omega (arith, far, on, low) in
                let later = before-later p lean true code u.index (suc s.index) (omega (arith, on)) in
                let next-start = before-next p lean true code s.index in
                near_by (d - 1) back (spend call unit) u y n state-then lent-then after allowed-then (omega (arith, left, one)) (omega (arith, far, on))
                (omega (arith, room, small, sum, later, next-start))
          ]

      leave-by : (q : Step × State) → insn_outcome insn s ≡ q → unit ≤ call.fuel → LeavesWithin metered_text m x
      leave-by (moves.Moved, u) e enough =
          let r = steps-on p lean true code ok lives of call s x state lent agrees insn here u enough e in
          let small : r.count ≤ here_size = r.few in
          let enough-steps = fits in
          leave-later metered_text x r.end (m - r.count) m r.reaches (omega (arith, small, enough-steps))
          (rest-leaves u r.end r.count (m - r.count) enough small (omega (arith, small, enough-steps)) e r.next r.agrees_then)
      leave-by (moves.Returned, u) e enough =
          let r = ends-so p lean true code ok lives of call s x state lent agrees insn here u enough e in
          let small : r.most ≤ here_size = r.few in
          let enough-steps = fits in
          leaves-less p lean true code ok lives of call (slice_index u.regs 0) 0 r.most m u x (omega (arith, small, enough-steps)) r.leaves
      leave-by (moves.Blocked index kind addr, u) e enough = absurd (unblocked code s insn here index kind addr u e allowed)

      leave-insn : LeavesWithin metered_text m x
      leave-insn = elim (cases_lt call.fuel unit) [
        | inl dry ↦ elim (cases_Bool head) [
          | inl is ↦
              let one = one-unit head is in
              let two : 2 ≤ here_size = wanted-size p lean true code ok lives of call s x state lent agrees insn here is in
              let enough-steps = fits in
              leaves-less p lean true code ok lives of call 0 1 (2 + length (spent_code p)) m s x (omega (arith, two, enough-steps))
              (missing p lean true code ok lives of call s x state lent agrees insn here is (omega (arith, dry, one)))
          | inr other ↦ let none = no-unit head other in absurd (omega (arith, dry, none))
        ]
        | inr enough ↦ leave-by (insn_outcome insn s) refl enough
      ]

  leave-at : (o : Option Insn) (a d : ℕ) → ((b : ℕ) → suc b ≡ a → (e : ℕ) → AllLeave b e) → ((e : ℕ) → suc e ≡ d → AllLeave a e) →
      (call : Call) (s : State) (x : X86) (m : ℕ) → IsState s → IsLent call s.rights → AgreesAt p lean true code call s x →
      ((k : ℕ) → IsAllowedRun (run_of code k s).0) → rounds call s ≤ a → length code ≤ d + s.index → a * whole + whole ≤ m + start s.index →
      slice_get code s.index ≡ o → LeavesWithin metered_text m x
  leave-at None a d less near_by call s x m state lent agrees allowed few far room here = absurd (outside-not code s here allowed)
  leave-at (Some insn) a d less near_by call s x m state lent agrees allowed few far room here =
      leave-insn a d less near_by call s x m state lent agrees allowed few far room insn here

  leave-near : (a : ℕ) → ((b : ℕ) → suc b ≡ a → (e : ℕ) → AllLeave b e) → (d : ℕ) → AllLeave a d
  leave-near a less zero = λ call s x m state lent agrees allowed few far room.
      leave-at (slice_get code s.index) a zero less (λ e wrong. absurd (omega (arith, wrong))) call s x m state lent agrees allowed few far room refl
  leave-near a less (suc d) = λ call s x m state lent agrees allowed few far room.
      leave-at (slice_get code s.index) a (suc d) less
      (λ e same. let is : d ≡ e = omega (arith, same) in subst (λ k. AllLeave a k) is (leave-near a less d)) call s x m state lent agrees allowed few far room
      refl

  leave-all : (a d : ℕ) → AllLeave a d
  leave-all zero d = leave-near zero (λ b wrong e. absurd (omega (arith, wrong))) d
  leave-all (suc a) d = leave-near (suc a) (λ b same e. let is : a ≡ b = omega (arith, same) in subst (λ k. AllLeave k e) is (leave-all a e)) d

-- how a call ended that left
module _ (p : Places) (lean : Lean) (code : List Insn) (call : Call) (s : State) (x : X86) (h : IsSafeCall p lean code call s x) (most : ℕ)
    (l : LeavesWithin (native_text p lean true code) most x)
  where
    out-from : slice_index l.end.regs RDX ≡ 1 → (n : ℕ) × (call.fuel < arrivals code n s)
    out-from one =
        let q : IsSafeEnd true code call s (outcomes.Left, l.end) = subst (IsSafeEnd true code call s) l.left (safe p lean true code call s x h l.count) in
        elim q [
          | inl r ↦ let none : slice_index l.end.regs RDX ≡ 0 = r.end.why_is in absurd (omega (arith, none, one))
          | inr r ↦ (suc r.steps, r.more)
        ]

    out-to : (n : ℕ) → call.fuel < arrivals code n s → slice_index l.end.regs RDX ≡ 1
    out-to n more =
        let e = begins p lean true code call s x h.is_code h.lives h.places.places h.state h.lent h.begins in
        let v = (spends p lean code call n s e.end h.is_code h.lives h.places h.state h.lent e.agrees more).2 in
        let left : x86_run (native_text p lean true code) (e.count + v.count) x ≡ (outcomes.Left, v.end) = e.reaches.runs v.count ∙ v.left in
        let same : v.end ≡ l.end = one-end l.count (e.count + v.count) (native_text p lean true code) x l.end v.end l.left left in
        ap (λ (y : X86). slice_index y.regs RDX) (sym same) ∙ v.returns.why_is

pub ends-in-time : EndingCalls
ends-in-time = λ p lean code call s x h.
    let e = begins p lean true code call s x h.is_code h.lives h.places.places h.state h.lent h.begins in
    let w : ℕ = all p lean true code in
    let a : ℕ = call.fuel + 1 in
    let first : ℕ = before p lean true code 0 in
    let at_start : before p lean true code s.index ≡ first = ap (before p lean true code) h.begins.start in
    let entry = e.few in
    let low = before-later p lean true code (length code) 0 (omega arith) in
    let sum = all-is p lean true code in
    let most = not-unit (is_loop_head code s.index) in
    let m : ℕ = a * w + w - first in
    let l =
    leave-all p lean code h.is_code h.lives h.places a (length code) call s e.end m h.state h.lent e.agrees h.allowed (omega (arith, most)) (omega arith)
    (omega (arith, at_start, low, sum)) in
    let two : call.fuel + 2 ≡ suc a = omega arith in
    let split : (call.fuel + 2) * w ≡ a * w + w = ap (λ k. k * w) two ∙ suc-times a w in
    let leaves =
    leave-later (native_text p lean true code) x e.end m ((call.fuel + 2) * w) e.reaches (omega (arith, entry, low, sum, split)) l in
    record {
      leaves = leaves;
      out = (
        out-from p lean code call s x h ((call.fuel + 2) * w) leaves,
        λ n. out-to p lean code call s x h ((call.fuel + 2) * w) leaves n.0 n.1,
      );
    }

-- ---- in time, if the Alpha run returns

module _ (p : Places) (lean : Lean) (code : List Insn) (ok : IsCode code) (lives : IsLean lean code) (of : ArePlacesOf p lean code) where
  abbrev plain_text : List ℕ
  plain_text = native_text p lean false code

  -- where a run of n steps returns, the call ends
  abbrev AllReturn : ℕ → Type 0
  AllReturn n =
      (call : Call) (s t : State) (x : X86) (word : ℕ) → IsState s → IsLent call s.rights → AgreesAt p lean false code call s x →
      run_of code n s ≡ (ends.Returned word, t) →
      LeavesWithin plain_text (10 * n + 26) x

  module _ (n : ℕ) (rest : AllReturn n) (call : Call) (s t : State) (x : X86) (word : ℕ) (state : IsState s) (lent : IsLent call s.rights)
      (agrees : AgreesAt p lean false code call s x) (run : run_of code (suc n) s ≡ (ends.Returned word, t))
    where
      return-by : (insn : Insn) → slice_get code s.index ≡ Some insn → (q : Step × State) → insn_outcome insn s ≡ q →
          LeavesWithin plain_text (10 * suc n + 26) x
      return-by insn here (moves.Moved, u) e =
          let r = steps-on p lean false code ok lives of call s x state lent agrees insn here u (omega arith) e in
          let brief = r.brief in
          leave-later plain_text x r.end (10 * n + 26) (10 * suc n + 26) r.reaches (omega (arith, brief))
          (rest (spend call 0) u t r.end word (state-after p lean false code ok lives of call s x state lent agrees insn here u e)
          (lent-after p lean false code ok lives of call s x state lent agrees insn here (call.fuel - 0) u e) r.agrees_then
          (sym (stepped code s insn here (moves.Moved, u) e n) ∙ run))
      return-by insn here (moves.Returned, u) e =
          let r = ends-so p lean false code ok lives of call s x state lent agrees insn here u (omega arith) e in
          let brief = r.brief in
          leaves-less p lean false code ok lives of call (slice_index u.regs 0) 0 r.most (10 * suc n + 26) u x (omega (arith, brief)) r.leaves
      return-by insn here (moves.Blocked index kind addr, u) e =
          let wrong : ends.Blocked index kind addr ≡ ends.Returned word =
          ap (λ (q : Outcome × State). q.0) (sym (stepped code s insn here (moves.Blocked index kind addr, u) e n) ∙ run) in absurd cc

      return-at : (o : Option Insn) → slice_get code s.index ≡ o → LeavesWithin plain_text (10 * suc n + 26) x
      return-at None here =
          let none : run_of code (suc n) s ≡ (ends.Blocked s.index kinds.Load 0, s) =
          ap (λ (o : Option Insn). let q = step_at o s in ends_with q.0 q.1 (run_of code n q.1)) here in
          let wrong : ends.Blocked s.index kinds.Load 0 ≡ ends.Returned word = ap (λ (q : Outcome × State). q.0) (sym none ∙ run) in absurd cc
      return-at (Some insn) here = return-by insn here (insn_outcome insn s) refl

  return-none : AllReturn 0
  return-none = λ call s t x word state lent agrees run.
      let wrong : ends.OutOfSteps ≡ ends.Returned word = ap (λ (q : Outcome × State). q.0) run in absurd cc

  return-all : (n : ℕ) → AllReturn n
  return-all zero = return-none
  return-all (suc n) = λ call s t x word state lent agrees run.
      return-at n (return-all n) call s t x word state lent agrees run (slice_get code s.index) refl

pub returns-in-time : ReturningCalls
returns-in-time = λ p lean code call s t x n word h run.
    let e = begins p lean false code call s x h.is_code h.lives h.places.places h.state h.lent h.begins in
    let l = return-all p lean code h.is_code h.lives h.places n call s t e.end word h.state h.lent e.agrees run in
    let entry = entry-count p h.places.places lean in
    let brief = e.brief in
    leave-later (native_text p lean false code) x e.end (10 * n + 26) (10 * n + 100) e.reaches (omega (arith, entry, brief)) l
