-- Native code follows every Alpha run for which the fuel is enough, and ends where it isn't.
use Rattle.std.proofs.Common.{◌≡◌, ◌⊎◌, ℕ, zero, suc, ◌+◌, ◌-◌, ◌<◌, ◌≤◌, Bool, true, false, cond, ◌&&◌, List, [], ◌∷◌, length, slice_get, slice_index}
use Rattle.std.proofs.Common.{Option, Some, None, refl, sym, ap, ◌∙◌, subst, arith, inl, inr}
use Rattle.std.proofs.lemmas.Bool.{cases_eq, cases_Bool}
use Rattle.std.proofs.lemmas.Option.{slice_get_within, slice_get_past}
use Rattle.word_ops.specs.Memory.{read}
use Rattle.word_ops.specs.Rights.{Rights}
use Rattle.alpha_words.specs.declared.insn.Insn.{Insn}
use Rattle.alpha_cfg.specs.declared.outcome.Step.{Step}
use Rattle.alpha_cfg.specs.declared.outcome.Step.TheVariants as moves
use Rattle.alpha_cfg.specs.declared.outcome.Outcome.{Outcome}
use Rattle.alpha_cfg.specs.declared.outcome.Outcome.TheVariants as ends
use Rattle.alpha_cfg.specs.Actions.{action_of}
use Rattle.alpha_cfg.specs.Flow.{IsCode, jump_of}
use Rattle.alpha_cfg.specs.Machine.{State, IsState, insn_outcome, step_at, ends_with, run_of}
use Rattle.alpha_cfg.proofs.States.{IsAt, insn_outcome-keeps, insn_outcome-rights}
use Rattle.x86_words.specs.declared.insn.X86Insn.{X86Insn}
use Rattle.x86_words.specs.declared.insn.X86Insn.TheVariants.{MovZero}
use Rattle.x86_machine.specs.declared.outcome.X86Outcome.TheVariants as outcomes
use Rattle.x86_machine.specs.Machine.{X86, x86_run}
use Rattle.native_steps.specs.Places.{Places, RAX}
use Rattle.native_steps.specs.Straight.{total_length}
use Rattle.native_steps.specs.Agreement.{Call, IsLent, Agrees}
use Rattle.native_steps.proofs.Frames.{wrote, wrote-same, wrote-reads, agrees-same}
use Rattle.native_steps.proofs.Encodable.{straight}
use Rattle.native_code.specs.Heads.{is_loop_head, if_moved, arrivals, fuel_of}
use Rattle.native_code.specs.declared.insn.NativeInsn.{NativeInsn}
use Rattle.native_code.specs.Lives.{Lean, form_at, IsLean}
use Rattle.native_code.specs.Blocks.{form_code, form_end, fuel_code, block_at, exit_code, spent_code}
use Rattle.native_code.specs.Layout.{code_length, placed_from, offset_of, native_text}
use Rattle.native_code.specs.Calls.{ArePlacesOf, spend, IsCallEnd, IsPrepared, AgreesAt, Comes, Leaves, Follows, SimulatesRuns, Spends}
use Rattle.native_code.proofs.Texts.{Lies, lies-as, lies-back, placed-plain, block-lies, block, gap}
use Rattle.native_code.proofs.Reaching.{Reaches, reach-none, reach-both, reach-one, reached}
use Rattle.native_code.proofs.Leaving.{leaves}
use Rattle.native_code.proofs.Heading.{head-inside}
use Rattle.native_code.proofs.Stepping.{agrees-fuel, Charged, charged, Spent, spent, Moves, moves-on}
use Rattle.native_code.proofs.Stepping.{returns-so, middle, taking, taking-most, IsNext, block-count, charging-lies, near}
use Rattle.native_code.proofs.Fitting.{form-end-count}
use Rattle.native_code.proofs.Forms.{ready-as, joined-no-head}

-- ---- units

-- what a step takes and what the rest takes
pub sum-is : (m h : Bool) (a : ℕ) → cond m (cond h 1 0 + a) 0 ≡ cond (m && h) 1 0 + cond m a 0
sum-is true h a = refl
sum-is false h a = omega arith

pub nothing : (m : Bool) → ◌≡◌ {A = ℕ} (cond m 0 0) 0
nothing true = refl
nothing false = refl

pub no-unit : (b : Bool) → b ≡ false → ◌≡◌ {A = ℕ} (cond b 1 0) 0
no-unit b e = ap (λ c. cond c 1 0) e

pub unit-most : (b : Bool) → cond b 1 0 ≤ 1
unit-most true = omega arith
unit-most false = omega arith

-- no unit where there is no loop head
both-false : (m h : Bool) → h ≡ false → (m && h) ≡ false
both-false true h e = e
both-false false h e = refl

-- an index of the code has an instruction
missing-insn : (code : List Insn) (i : ℕ) → i < length code → slice_get code i ≡ None → ⊥
missing-insn [] i low e = omega (arith, low)
missing-insn (x ∷ rest) zero low e = absurd cc
missing-insn (x ∷ rest) (suc i) low e = missing-insn rest i (omega (arith, low)) e

-- ---- the caller's side

pub lent-spent : (call : Call) (f : ℕ) (rights : Rights) → IsLent call rights → IsLent (record call { fuel = f }) rights
lent-spent call f rights h = record { span = h.span; unread = h.unread; unwritten = h.unwritten }

pub return-spent : (call : Call) (f word why : ℕ) (s : State) (y : X86) → IsCallEnd (record call { fuel = f }) word why s y → IsCallEnd call word why s y
return-spent call f word why s y h = record { word_is = h.word_is; why_is = h.why_is; kept = h.kept; memory = h.memory }

module _ (p : Places) (lean : Lean) (metered : Bool) (code : List Insn) (ok : IsCode code) (lives : IsLean lean code) (of : ArePlacesOf p lean code) where
  abbrev text : List ℕ
  text = native_text p lean metered code

  abbrev offset : ℕ → ℕ
  offset = offset_of p lean metered code

  -- ---- steps before

  come-by : {k : ℕ} (call : Call) (t : State) (x y : X86) → Reaches text k x y → AgreesAt p lean metered code call t y → Comes p lean metered code call t x
  come-by {k = k} call t x y r a = record { count = k; end = y; runs = reached text x y r; agrees = a }

  leave-by : {k : ℕ} (call : Call) (f word why : ℕ) (t : State) (x y : X86) → Reaches text k x y →
      Leaves p lean metered code (record call { fuel = f }) word why t y →
      Leaves p lean metered code call word why t x
  leave-by {k = k} call f word why t x y r l = record {
    count = k + l.count;
    end = l.end;
    left = r.runs l.count ∙ l.left;
    returns = return-spent call f word why t l.end l.returns;
  }

  come-on : {n : ℕ} (call : Call) (k f total : ℕ) (t : State) (x y : X86) → total ≡ k + f → Reaches text n x y →
      Comes p lean metered code (spend (spend call k) f) t y →
      Comes p lean metered code (spend call total) t x
  come-on {n = n} call k f total t x y sum r c =
      let less : call.fuel - k - f ≡ call.fuel - total = omega (arith, sum) in
      record {
        count = n + c.count;
        end = c.end;
        runs = r.runs c.count ∙ c.runs;
        agrees = subst (λ n. AgreesAt p lean metered code (record call { fuel = n }) t c.end) less c.agrees;
      }

  onward : {n : ℕ} (call : Call) (k f total : ℕ) (r : Outcome × State) (x y : X86) → total ≡ k + f → Reaches text n x y →
      Follows p lean metered code (spend call k) f r y →
      Follows p lean metered code call total r x
  onward call k f total (ends.OutOfSteps, t) x y sum r h = come-on call k f total t x y sum r h
  onward call k f total (ends.Returned word, t) x y sum r h = leave-by call (call.fuel - k) word 0 t x y r h
  onward call k f total (ends.Blocked index kind addr, t) x y sum r h = tt

  -- no more than so many steps end the call
  pub record LeavesIn (call : Call) (word why : ℕ) (t : State) (x : X86) (most : ℕ) : Type 0 where
    pub count : ℕ
    pub within : count ≤ most
    pub end : X86
    pub left : x86_run text count x ≡ (outcomes.Left, end)
    pub returns : IsCallEnd call word why t end

  as-leaves : (call : Call) (word why : ℕ) (t : State) (x : X86) (most : ℕ) → LeavesIn call word why t x most → Leaves p lean metered code call word why t x
  as-leaves call word why t x most l = record { count = l.count; end = l.end; left = l.left; returns = l.returns }

  -- an end is the same for a state with the same memory
  leave-seen : (call : Call) (word why : ℕ) (s seen : State) (x : X86) (most : ℕ) → seen.memory ≡ s.memory → LeavesIn call word why seen x most →
      LeavesIn call word why s x most
  leave-seen call word why s seen x most same l = record {
    count = l.count;
    within = l.within;
    end = l.end;
    left = l.left;
    returns = record {
      word_is = l.returns.word_is;
      why_is = l.returns.why_is;
      kept = l.returns.kept;
      memory = λ a free. l.returns.memory a free ∙ ap (λ m. read m a) same;
    };
  }

  leave-in : {k : ℕ} (call : Call) (f word why most all : ℕ) (t : State) (x y : X86) → Reaches text k x y → k + most ≤ all →
      LeavesIn (record call { fuel = f }) word why t y most →
      LeavesIn call word why t x all
  leave-in {k = k} call f word why most all t x y r sum l = record {
    count = k + l.count;
    within = let w = l.within in omega (arith, sum, w);
    end = l.end;
    left = r.runs l.count ∙ l.left;
    returns = return-spent call f word why t l.end l.returns;
  }

  -- the last block ends the call
  spent-leaves : (call : Call) (f : ℕ) (s : State) (x : X86) → IsLent call s.rights → x.at ≡ offset (length code) → Agrees p (record call { fuel = f }) s x →
      LeavesIn (record call { fuel = f }) 0 1 s x (length (spent_code p))
  spent-leaves call f s x lent at_end agrees =
      let n : ℕ = length code in
      let none : slice_get code n ≡ None = slice_get_past code n (omega arith) in
      let is : placed_from offset (offset n) (block p lean metered code n) ≡ spent_code p =
      ap (λ o. placed_from offset (offset n) (block_at p lean metered code n o)) none ∙ placed-plain offset (offset n) (spent_code p) in
      let lies : Lies text x.at (spent_code p) =
      subst (λ k. Lies text k (spent_code p)) (sym at_end)
      (lies-as text (offset n) (placed_from offset (offset n) (block p lean metered code n)) (spent_code p) is
      (block-lies p lean metered code n (omega arith))) in
      let y : X86 = wrote x (x.at + 6) x.flags RAX 0 in
      let zero-is = straight (MovZero RAX 0) (omega arith, omega arith) refl refl in
      let to-y : Reaches text 1 x y = reach-one text x y (MovZero RAX 0) (exit_code p 1) zero-is.insn lies refl in
      let place : x.at + total_length (MovZero RAX 0 ∷ []) ≡ y.at = omega arith in
      let behind : Lies text y.at (exit_code p 1) =
      subst (λ k. Lies text k (exit_code p 1)) place (lies-back text x.at (MovZero RAX 0 ∷ []) (exit_code p 1) lies) in
      let call_then : Call = record call { fuel = f } in
      let y-agrees : Agrees p call_then s y =
      agrees-same p call_then s x y of.places agrees (wrote-same x (x.at + 6) x.flags RAX 0 agrees.machine (omega arith) (omega arith)) in
      let l =
      leaves p call_then s of.places (lent-spent call f s.rights lent) y y-agrees text 0 1 (omega arith)
      (wrote-reads x (x.at + 6) x.flags RAX 0 agrees.machine (omega arith)) behind in
      record {
        count = 1 + l.count;
        within = let a = l.all in omega (arith, a);
        end = l.end;
        left = to-y.runs l.count ∙ l.left;
        returns = l.returns;
      }

  -- ---- one step

  module _ (call : Call) (s : State) (x : X86) (state : IsState s) (lent : IsLent call s.rights) (agrees : AgreesAt p lean metered code call s x) where
    abbrev head : Bool
    head = is_loop_head code s.index

    abbrev pub takes : Bool
    takes = metered && head

    abbrev seen : State
    seen = agrees.seen

    -- the state that is seen has the same rights
    lent-seen : (f : ℕ) → IsLent (record call { fuel = f }) seen.rights
    lent-seen f = lent-spent call f seen.rights (subst (IsLent call) (sym agrees.same.rights) lent)

    -- the block's first part is done
    module _ (insn : Insn) (here : slice_get code s.index ≡ Some insn) where
      -- the instructions of the block, and of the padding behind it
      abbrev pub size : ℕ
      size = length (block p lean metered code s.index) + length (gap p lean metered code s.index)

      charged-here : cond takes 1 0 ≤ call.fuel → Charged p lean metered code ok lives of call seen x takes
      charged-here enough =
          let first : List NativeInsn = fuel_code p lean metered code s.index in
          let lies : Lies text x.at (placed_from offset x.at first) =
          subst (λ n. Lies text n (placed_from offset n first)) (sym agrees.at) (charging-lies p lean metered code ok lives of s.index insn here) in
          let n = near p lean metered code ok lives of s.index insn here in
          let a = agrees.at in
          charged p lean metered code ok lives of takes call seen x agrees.agrees (omega (arith, n, a)) lies enough

      -- a joined branch takes none, so its flags stay
      ready-charged : (c : Charged p lean metered code ok lives of call seen x takes) → IsPrepared (form_at lean s.index) code s c.end
      ready-charged c =
          ready-as (form_at lean s.index) code s x c.end
          (λ jump e. c.flags (both-false metered head (joined-no-head lean code lives s.index insn jump here e))) agrees.ready

      at-middle : (c : Charged p lean metered code ok lives of call seen x takes) → c.end.at ≡ middle p lean metered code ok lives of s.index insn here
      at-middle c = c.at ∙ ap (λ n. n + code_length (fuel_code p lean metered code s.index)) agrees.at

      pub state-after : (u : State) → insn_outcome insn s ≡ (moves.Moved, u) → IsState u
      state-after u e =
          let is : IsAt (length code) s = record { index = slice_get_within code s.index insn here; state = state } in
          let k : IsAt (length code) (insn_outcome insn s).1 = insn_outcome-keeps code insn s ok here (ok.encoded s.index insn here) is in
          subst (λ (q : Step × State). IsState q.1) e k.state

      pub lent-after : (f : ℕ) (u : State) → insn_outcome insn s ≡ (moves.Moved, u) → IsLent (record call { fuel = f }) u.rights
      lent-after f u e =
          let same : s.rights ≡ u.rights = sym (insn_outcome-rights insn s) ∙ ap (λ (q : Step × State). q.1.rights) e in
          lent-spent call f u.rights (subst (IsLent call) same lent)

      -- the sequence, and what follows it
      abbrev insns : List X86Insn
      insns = form_code p (form_at lean s.index) (action_of insn)

      abbrev ending : List NativeInsn
      ending = form_end p (form_at lean s.index) (action_of insn) (jump_of s.index insn)

      sizes : size ≡ length (taking p lean metered code ok lives of takes) + (length insns + length ending) + length (gap p lean metered code s.index)
      sizes = ap (λ n. n + length (gap p lean metered code s.index)) (block-count p lean metered code ok lives of s.index insn here)

      pub wanted-size : takes ≡ true → 2 ≤ size
      wanted-size wanted =
          let two : length (taking p lean metered code ok lives of takes) ≡ 2 = ap (λ b. length (taking p lean metered code ok lives of b)) wanted in
          let all = sizes in
          omega (arith, two, all)

      -- steps lead to the next block: there is one, or the index is further on
      pub record StepsOn (u : State) : Type 0 where
        pub count : ℕ
        pub on : (1 ≤ count) ⊎ (s.index < u.index)
        pub few : count ≤ size
        pub brief : count ≤ 10
        pub end : X86
        pub reaches : Reaches text count x end
        pub next : IsNext p lean metered code ok lives of s.index insn here u.index
        pub agrees_then : AgreesAt p lean metered code (spend call (cond takes 1 0)) u end

      pub steps-on : (u : State) → cond takes 1 0 ≤ call.fuel → insn_outcome insn s ≡ (moves.Moved, u) → StepsOn u
      steps-on u enough e =
          let c = charged-here enough in
          let spent_call : Call = spend call (cond takes 1 0) in
          let m : Moves p lean metered code ok lives of s.index insn here spent_call u c.end =
          moves-on p lean metered code ok lives of s.index insn here spent_call s seen c.end state agrees.same (lent-seen (call.fuel - cond takes 1 0)) refl
          (at-middle c) c.agrees (ready-charged c) u e in
          let charge : ℕ = length (taking p lean metered code ok lives of takes) in
          let two = taking-most p lean metered code ok lives of takes in
          let few = m.few in
          let brief = m.brief in
          let all = sizes in
          record {
            count = charge + m.count;
            on = elim m.on [ inl some ↦ inl (omega (arith, some)) | inr far ↦ inr far ];
            few = omega (arith, few, all);
            brief = omega (arith, brief, two);
            end = m.end;
            reaches = reach-both text x c.end m.end c.reaches m.reaches;
            next = m.next;
            agrees_then = m.agrees;
          }

      -- a return ends the call
      pub record EndsHere (u : State) : Type 0 where
        pub most : ℕ
        pub few : most ≤ size
        pub brief : most ≤ 36
        pub leaves : LeavesIn call (slice_index u.regs 0) 0 u x most

      pub ends-so : (u : State) → cond takes 1 0 ≤ call.fuel → insn_outcome insn s ≡ (moves.Returned, u) → EndsHere u
      ends-so u enough e =
          let c = charged-here enough in
          let spent_call : Call = spend call (cond takes 1 0) in
          let r =
          returns-so p lean metered code ok lives of s.index insn here spent_call s seen c.end state agrees.same (lent-seen (call.fuel - cond takes 1 0)) refl
          (at-middle c) c.agrees (ready-charged c) u e in
          let last : ℕ = length ending in
          let l : LeavesIn spent_call (slice_index s.regs 0) 0 s c.end last =
          record { count = r.0.count; within = let a = r.0.all in omega (arith, a); end = r.0.end; left = r.0.left; returns = r.0.returns } in
          let most : ℕ = length (taking p lean metered code ok lives of takes) + last in
          let two = taking-most p lean metered code ok lives of takes in
          let short = form-end-count p of.places (form_at lean s.index) (action_of insn) (jump_of s.index insn) in
          let all = sizes in
          record {
            most = most;
            few = omega (arith, all);
            brief = omega (arith, two, short);
            leaves =
                subst (λ (v : State). LeavesIn call (slice_index v.regs 0) 0 v x most) (sym r.1)
                (leave-in call (call.fuel - cond takes 1 0) (slice_index s.regs 0) 0 last most s x c.end c.reaches (omega arith) l);
          }

      -- the unit that is wanted here is missing
      pub missing : takes ≡ true → call.fuel ≡ 0 → LeavesIn call 0 1 s x (2 + length (spent_code p))
      missing wanted none =
          let first : List NativeInsn = fuel_code p lean metered code s.index in
          let lies : Lies text x.at (placed_from offset x.at first) =
          subst (λ k. Lies text k (placed_from offset k first)) (sym agrees.at) (charging-lies p lean metered code ok lives of s.index insn here) in
          let near_by = near p lean metered code ok lives of s.index insn here in
          let start = agrees.at in
          let sp : Spent p lean metered code ok lives of call seen x =
          spent p lean metered code ok lives of call seen x agrees.agrees (omega (arith, near_by, start))
          (subst (λ b. Lies text x.at (placed_from offset x.at (taking p lean metered code ok lives of b))) wanted lies) none in
          leave-in call sp.fuel 0 1 (length (spent_code p)) (2 + length (spent_code p)) s x sp.end sp.reaches (omega arith)
          (leave-seen (record call { fuel = sp.fuel }) 0 1 s seen sp.end (length (spent_code p)) agrees.same.memory
          (spent-leaves call sp.fuel seen sp.end (subst (IsLent call) (sym agrees.same.rights) lent) sp.at sp.agrees))

  -- ---- runs

  -- the units of a run that begins with a step
  abbrev total : ℕ → State → Step × State → ℕ
  total n s q = cond metered (cond (is_loop_head code s.index) 1 0 + if_moved q.0 (arrivals code n q.1)) 0

  -- every run of at most n steps is followed
  abbrev FollowsAll : ℕ → Type 0
  FollowsAll n =
      (call : Call) (s : State) (x : X86) → IsState s → IsLent call s.rights → AgreesAt p lean metered code call s x → fuel_of metered code n s ≤ call.fuel →
      Follows p lean metered code call (fuel_of metered code n s) (run_of code n s) x

  follow-none : FollowsAll zero
  follow-none = λ call s x state lent a enough.
      let none = nothing metered in
      let same : call.fuel ≡ call.fuel - cond metered 0 0 = omega (arith, none) in
      come-by (spend call (cond metered 0 0)) s x x (reach-none text x)
      (record {
        at = a.at;
        seen = a.seen;
        same = a.same;
        agrees = agrees-fuel p call (call.fuel - cond metered 0 0) a.seen x a.agrees (a.agrees.fuel ∙ same);
        ready = a.ready;
      })

  module _ (n : ℕ) (rest : FollowsAll n) (call : Call) (s : State) (x : X86) (state : IsState s) (lent : IsLent call s.rights)
      (a : AgreesAt p lean metered code call s x)
    where
      by-step : (insn : Insn) → slice_get code s.index ≡ Some insn → (q : Step × State) → insn_outcome insn s ≡ q → total n s q ≤ call.fuel →
          Follows p lean metered code call (total n s q) (ends_with q.0 q.1 (run_of code n q.1)) x
      by-step insn here (moves.Moved, u) e most =
          let sum = sum-is metered (is_loop_head code s.index) (arrivals code n u) in
          let units : ℕ = cond (metered && is_loop_head code s.index) 1 0 in
          let most-is : cond metered (cond (is_loop_head code s.index) 1 0 + arrivals code n u) 0 ≤ call.fuel = most in
          let left : cond metered (arrivals code n u) 0 ≤ call.fuel - units = omega (arith, sum, most-is) in
          let m = steps-on call s x state lent a insn here u (omega (arith, sum, most-is)) e in
          onward call units (fuel_of metered code n u) (total n s (moves.Moved, u)) (run_of code n u) x m.end sum m.reaches
          (rest (spend call units) u m.end (state-after call s x state lent a insn here u e)
          (lent-after call s x state lent a insn here (call.fuel - units) u e) m.agrees_then left)
      by-step insn here (moves.Returned, u) e most =
          let sum = sum-is metered (is_loop_head code s.index) 0 in
          let most-is : cond metered (cond (is_loop_head code s.index) 1 0 + 0) 0 ≤ call.fuel = most in
          let r = ends-so call s x state lent a insn here u (omega (arith, sum, most-is)) e in
          as-leaves call (slice_index u.regs 0) 0 u x r.most r.leaves
      by-step insn here (moves.Blocked index kind addr, u) e most = tt

      by-insn : (o : Option Insn) → slice_get code s.index ≡ o → total n s (step_at o s) ≤ call.fuel →
          Follows p lean metered code call (total n s (step_at o s)) (ends_with (step_at o s).0 (step_at o s).1 (run_of code n (step_at o s).1)) x
      by-insn None here most = tt
      by-insn (Some insn) here most = by-step insn here (insn_outcome insn s) refl most

  follow : (n : ℕ) → FollowsAll n
  follow zero = follow-none
  follow (suc n) = λ call s x state lent a enough. by-insn n (follow n) call s x state lent a (slice_get code s.index) refl enough

pub follows : SimulatesRuns
follows = λ p lean metered code call n s x ok lives of state lent a enough. follow p lean metered code ok lives of n call s x state lent a enough

-- ---- out of fuel

module _ (p : Places) (lean : Lean) (code : List Insn) (ok : IsCode code) (lives : IsLean lean code) (of : ArePlacesOf p lean code) where
  -- it does within n steps
  abbrev SpendsAll : ℕ → Type 0
  SpendsAll n =
      (call : Call) (s : State) (x : X86) → IsState s → IsLent call s.rights → AgreesAt p lean true code call s x → call.fuel < arrivals code n s →
      (k : ℕ) × (k ≤ n) × Leaves p lean true code call 0 1 (run_of code k s).1 x

  module _ (n : ℕ) (rest : SpendsAll n) (call : Call) (s : State) (x : X86) (state : IsState s) (lent : IsLent call s.rights)
      (a : AgreesAt p lean true code call s x)
    where
      abbrev at_head : Bool
      at_head = is_loop_head code s.index

      abbrev Spending : Type 0
      Spending = (k : ℕ) × (k ≤ suc n) × Leaves p lean true code call 0 1 (run_of code k s).1 x

      -- the unit is there
      there : (insn : Insn) → slice_get code s.index ≡ Some insn → (q : Step × State) → insn_outcome insn s ≡ q → cond at_head 1 0 ≤ call.fuel →
          call.fuel < cond at_head 1 0 + if_moved q.0 (arrivals code n q.1) →
          Spending
      there insn here (moves.Moved, u) e enough more =
          let m = steps-on p lean true code ok lives of call s x state lent a insn here u enough e in
          let units : ℕ = cond at_head 1 0 in
          let more-is : call.fuel < cond at_head 1 0 + arrivals code n u = more in
          let less : call.fuel - units < arrivals code n u = omega (arith, enough, more-is) in
          let r =
          rest (spend call units) u m.end (state-after p lean true code ok lives of call s x state lent a insn here u e)
          (lent-after p lean true code ok lives of call s x state lent a insn here (call.fuel - units) u e) m.agrees_then less in
          let same : run_of code (suc r.0) s ≡ run_of code r.0 u =
          ap (λ (o : Option Insn). let q = step_at o s in ends_with q.0 q.1 (run_of code r.0 q.1)) here
          ∙ ap (λ (q : Step × State). ends_with q.0 q.1 (run_of code r.0 q.1)) e in
          let k-low = r.1 in (
            suc r.0,
            omega (arith, k-low),
            subst (λ (q : Outcome × State). Leaves p lean true code call 0 1 q.1 x) (sym same)
                (leave-by p lean true code ok lives of call (call.fuel - units) 0 1 (run_of code r.0 u).1 x m.end m.reaches r.2),
          )
      there insn here (moves.Returned, u) e enough more =
          let more-is : call.fuel < cond at_head 1 0 + 0 = more in absurd (omega (arith, enough, more-is))
      there insn here (moves.Blocked index kind addr, u) e enough more =
          let more-is : call.fuel < cond at_head 1 0 + 0 = more in absurd (omega (arith, enough, more-is))

      by-head : (insn : Insn) → slice_get code s.index ≡ Some insn → call.fuel < arrivals code (suc n) s → Spending
      by-head insn here more =
          let as-insn : arrivals code (suc n) s ≡ cond at_head 1 0 + if_moved (insn_outcome insn s).0 (arrivals code n (insn_outcome insn s).1) =
          ap (λ (o : Option Insn). let q = step_at o s in cond at_head 1 0 + if_moved q.0 (arrivals code n q.1)) here in
          let most : call.fuel < cond at_head 1 0 + if_moved (insn_outcome insn s).0 (arrivals code n (insn_outcome insn s).1) =
          subst (λ k. call.fuel < k) as-insn more in
          elim (cases_eq call.fuel 0) [
            | inl none ↦ elim (cases_Bool at_head) [
              | inl is ↦
                  let l = missing p lean true code ok lives of call s x state lent a insn here is none in
                  (0, omega arith, as-leaves p lean true code ok lives of call 0 1 s x (2 + length (spent_code p)) l)
              | inr other ↦ let u = no-unit at_head other in there insn here (insn_outcome insn s) refl (omega (arith, u)) most
            ]
            | inr some ↦ there insn here (insn_outcome insn s) refl (let u = unit-most at_head in omega (arith, u, some)) most
          ]

      outside : slice_get code s.index ≡ None → call.fuel < arrivals code (suc n) s → Spending
      outside none more = elim (cases_Bool at_head) [
        | inl is ↦
            let low : s.index < length code = head-inside code s.index is in
            absurd (missing-insn code s.index low none)
        | inr other ↦
            let as-none : arrivals code (suc n) s ≡ cond at_head 1 0 + 0 =
            ap (λ (o : Option Insn). let q = step_at o s in cond at_head 1 0 + if_moved q.0 (arrivals code n q.1)) none in
            let u = no-unit at_head other in
            absurd (omega (arith, more, as-none, u))
      ]

      by-option : (o : Option Insn) → slice_get code s.index ≡ o → call.fuel < arrivals code (suc n) s → Spending
      by-option None here more = outside here more
      by-option (Some insn) here more = by-head insn here more

  spend-all : (n : ℕ) → SpendsAll n
  spend-all zero = λ call s x state lent a more. absurd (omega (arith, more))
  spend-all (suc n) = λ call s x state lent a more. by-option n (spend-all n) call s x state lent a (slice_get code s.index) refl more

pub spends : Spends
spends = λ p lean code call n s x ok lives of state lent a more. spend-all p lean code ok lives of n call s x state lent a more
