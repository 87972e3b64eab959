-- A call comes to the first block, in agreement.
use Rattle.std.proofs.Common.{◌≡◌, ◌≢◌, ◌⊎◌, ℕ, zero, suc, ◌+◌, ◌^◌, ◌<◌, ◌≤◌, Bool, true, false, cond, List, [], ◌∷◌, ◌++◌, length, slice_index}
use Rattle.std.proofs.Common.{length-append, refl, sym, ap, ◌∙◌, subst, arith, inl, inr}
use Rattle.std.proofs.lemmas.Bool.{cases_eq, ne_eqb}
use Rattle.std.proofs.lemmas.List.{append_assoc, append-nil}
use Rattle.alpha_words.specs.declared.insn.Insn.{Insn}
use Rattle.alpha_cfg.specs.Flow.{IsCode}
use Rattle.alpha_cfg.specs.Machine.{State, IsState}
use Rattle.x86_words.specs.declared.insn.X86Insn.{X86Insn}
use Rattle.x86_words.specs.declared.insn.X86Insn.TheVariants.{Mov, MovZero, Store}
use Rattle.x86_machine.specs.Machine.{X86, IsX86}
use Rattle.native_steps.specs.declared.places.Place.{Place}
use Rattle.native_steps.specs.declared.places.Place.TheVariants.{Register, Slot, Nowhere}
use Rattle.native_steps.specs.Places.{Places, ArePlaces, place_at, slot, is_free, is_callee_saved, RAX, RCX, FUEL, AREA}
use Rattle.native_steps.specs.Sequences.{keep_place}
use Rattle.native_steps.specs.Straight.{IsStraight}
use Rattle.native_steps.specs.Agreement.{Call, IsLent}
use Rattle.native_steps.proofs.Straights.{Runs, none-run, then-run, both-run}
use Rattle.native_steps.proofs.Frames.{wrote, wrote-is, wrote-reads, wrote-other, agrees-same, free-below, isnt}
use Rattle.native_steps.proofs.Encodable.{Straight, no-insn, one-straight, then-straight, both-straight, straight, slot-fits, keep_place-straight}
use Rattle.native_code.specs.Lives.{Lean, form_at, IsLean}
use Rattle.native_code.specs.Blocks.{save_place, enter, clear, entry_code, for_registers, is_argument, RDX, RSI, RDI}
use Rattle.native_code.specs.declared.insn.NativeInsn.{NativeInsn}
use Rattle.native_code.specs.Blocks.{plain}
use Rattle.native_code.specs.Layout.{code_length, placed_from, front_code, offset_of, native_text}
use Rattle.native_code.specs.Calls.{IsCall, IsPrepared, AgreesAt, Called}
use Rattle.native_code.proofs.Texts.{plain-length, length-append-code, Lies, entry-lies, part-lies, block, pad, gap}
use Rattle.native_code.proofs.Reaching.{Reaches, reach-both, reach-straight, reached}
use Rattle.native_code.proofs.Fitting.{plain-count, offset-small}
use Rattle.native_code.proofs.Passing.{Passes, passes}
use Rattle.native_code.proofs.Entering.{Partly, partly-as, Begins, partly-all, With, Enters, entered}
use Rattle.native_code.proofs.Forms.{insn-there, compared-before, ready-if}

-- a register with an argument
argument-cases : (r : ℕ) → is_argument r ≡ true → (r ≡ 18) ⊎ ((r ≡ 16) ⊎ (r ≡ 17))
argument-cases r e = elim (cases_eq r 18) [
  | inl a ↦ inl a
  | inr n ↦ elim (cases_eq r 16) [
    | inl b ↦ inr (inl b)
    | inr m ↦ elim (cases_eq r 17) [
      | inl c ↦ inr (inr c)
      | inr k ↦ let wrong : is_argument r ≡ false = rw (ne_eqb r 16 m, ne_eqb r 17 k, ne_eqb r 18 n) refl in absurd cc
    ]
  ]
]

module _ (p : Places) (lean : Lean) (call : Call) (s : State) (places : ArePlaces p) (lent : IsLent call s.rights) where
  -- ---- bytes

  save-straight : (o : Place) (r : ℕ) → r < 31 → place_at p r ≡ o → Straight (save_place o r)
  save-straight (Register q) r low e =
      let store : IsStraight (Store AREA (slot r) q) =
      straight (Store AREA (slot r) q) (omega arith, slot-fits r low, free-below q (places.free r q e)) refl refl in
      elim (is_callee_saved q) as (λ b. Straight (cond b (Store AREA (slot r) q ∷ []) [])) [ true ↦ one-straight _ store | false ↦ no-insn ]
  save-straight Slot r low e = no-insn
  save-straight Nowhere r low e = no-insn

  enter-straight : (r from : ℕ) → r < 31 → from < 16 → Straight (enter p lean r from)
  enter-straight r from low h =
      both-straight (save_place (place_at p r) r) _ (save-straight (place_at p r) r low refl)
      (elim (lean.live 0 r) as (λ b. Straight (cond b (keep_place (place_at p r) r from) [])) [
        | true ↦ keep_place-straight p places (place_at p r) r from low h refl
        | false ↦ no-insn
      ])

  clear-straight : (n : ℕ) → n < 31 → Straight (clear p lean n)
  clear-straight n h = elim (is_argument n) as (λ b. Straight (cond b [] (enter p lean n RAX))) [
    | true ↦ no-insn
    | false ↦ enter-straight n RAX h (omega arith)
  ]

  clears-straight : (n : ℕ) → n ≤ 31 → Straight (for_registers (clear p lean) n)
  clears-straight zero h = no-insn
  clears-straight (suc n) h =
      both-straight (for_registers (clear p lean) n) (clear p lean n) (clears-straight n (omega (arith, h))) (clear-straight n (omega (arith, h)))

  pub entry-straight : Straight (entry_code p lean)
  entry-straight =
      let n : length p ≤ 31 = let c = places.count in omega (arith, c) in
      let move : (to from : ℕ) → to < 16 → from < 16 → IsStraight (Mov to from) = λ to from a b. straight (Mov to from) (a, b) refl refl in
      then-straight _ _ (move AREA RCX (omega arith) (omega arith))
      (then-straight _ _ (move RAX RDI (omega arith) (omega arith))
      (then-straight _ _ (move RCX RSI (omega arith) (omega arith))
      (both-straight (enter p lean 18 RDX) _ (enter-straight 18 RDX (omega arith) (omega arith))
      (both-straight (enter p lean 16 RAX) _ (enter-straight 16 RAX (omega arith) (omega arith))
      (both-straight (enter p lean 17 RCX) _ (enter-straight 17 RCX (omega arith) (omega arith))
      (then-straight _ _ (straight (MovZero RAX 0) (omega arith, omega arith) refl refl) (clears-straight (length p) n)))))))

  -- ---- the registers without an argument

  -- those below n, and those with an argument
  abbrev Cleared : ℕ → ℕ → Type 0
  Cleared n r = (r < n) ⊎ (is_argument r ≡ true)

  record ClearedBy (n : ℕ) (x : X86) : Type 0 where
    end : X86
    runs : Runs (for_registers (clear p lean) n) x end
    partly : Partly p lean call s places lent (Cleared n) end
    rax : slice_index end.regs RAX ≡ 0

  module _ (others : (r : ℕ) → is_argument r ≡ false → slice_index s.regs r ≡ 0) where
    one-cleared : (n : ℕ) (b : Bool) (y : X86) → n < 31 → is_argument n ≡ b → Partly p lean call s places lent (Cleared n) y → slice_index y.regs RAX ≡ 0 →
        (z : X86) × Runs (cond b [] (enter p lean n RAX)) y z × Partly p lean call s places lent (Cleared (suc n)) z × (slice_index z.regs RAX ≡ 0)
    one-cleared n true y low e h rax = (
      y,
      none-run y,
      partly-as p lean call s places lent (Cleared n) (Cleared (suc n)) y (λ r d. elim d [ inl a ↦ inl (omega (arith, a)) | inr a ↦ inr a ])
          (λ r d. elim d [
            | inl a ↦ elim (cases_eq r n) [ inl same ↦ inr (ap is_argument same ∙ e) | inr apart ↦ inl (omega (arith, a, apart)) ]
            | inr a ↦ inr a
          ]) h,
      rax,
    )
    one-cleared n false y low e h rax =
        let fresh : Cleared n n → ⊥ = λ d. elim d [ inl a ↦ absurd (omega (arith, a)) | inr a ↦ let wrong : true ≡ false = sym a ∙ e in absurd cc ] in
        let m = entered p lean call s places lent n RAX (Cleared n) y low fresh (rax ∙ sym (others n e)) h in (
          m.end,
          m.runs,
          partly-as p lean call s places lent (With n (Cleared n)) (Cleared (suc n)) m.end
              (λ r d. elim d [ inl a ↦ inl (omega (arith, a)) | inr f ↦ elim f [ inl a ↦ inl (omega (arith, a)) | inr a ↦ inr a ] ])
              (λ r d. elim d [
                | inl a ↦ elim (cases_eq r n) [ inl same ↦ inl same | inr apart ↦ inr (inl (omega (arith, a, apart))) ]
                | inr a ↦ inr (inr a)
              ]) m.partly,
          m.same RAX refl ∙ rax,
        )

    all-cleared : (n : ℕ) (x : X86) → n ≤ 31 → Partly p lean call s places lent (Cleared 0) x → slice_index x.regs RAX ≡ 0 → ClearedBy n x
    all-cleared zero x h d rax = record { end = x; runs = none-run x; partly = d; rax = rax }
    all-cleared (suc n) x h d rax =
        let a = all-cleared n x (omega (arith, h)) d rax in
        let b = one-cleared n (is_argument n) a.end (omega (arith, h)) refl a.partly a.rax in
        record { end = b.0; runs = both-run (for_registers (clear p lean) n) (clear p lean n) x a.end b.0 a.runs b.1; partly = b.2; rax = b.3 }

  -- ---- the whole entry

  -- rax got a word
  with-rax : (D : ℕ → Type 0) (x : X86) (at word : ℕ) → word < 2 ^ 64 → Partly p lean call s places lent D x →
      Partly p lean call s places lent D (wrote x at x.flags RAX word)
  with-rax D x at word below h =
      let other : (k : ℕ) → k ≢ RAX → slice_index (wrote x at x.flags RAX word).regs k ≡ slice_index x.regs k =
      λ k n. wrote-other x at x.flags RAX word k n in
      record {
        machine = wrote-is x at x.flags RAX word h.machine below;
        rights = h.rights;
        area = other AREA (λ e. omega (arith, e)) ∙ h.area;
        fuel = other FUEL (λ e. omega (arith, e)) ∙ h.fuel;
        in_register = λ r q d l e. other q (isnt is_free q RAX (places.free r q e) refl) ∙ h.in_register r q d l e;
        in_slot = h.in_slot;
        saved = h.saved;
        untouched = λ q c none. other q (isnt is_callee_saved q RAX c refl) ∙ h.untouched q c none;
        memory = h.memory;
      }

  -- no register is in its place yet
  abbrev None-yet : ℕ → Type 0
  None-yet r = ⊥

  pub record EntersBy (x : X86) : Type 0 where
    pub end : X86
    pub runs : Runs (entry_code p lean) x end
    pub begins : Begins p lean call s places lent end

  module _ (x : X86) (state : IsState s) (h : IsCall call s x) where
    abbrev x1 : X86
    x1 = wrote x (x.at + 3) x.flags AREA (slice_index x.regs RCX)

    abbrev x2 : X86
    x2 = wrote x1 (x1.at + 3) x1.flags RAX (slice_index x1.regs RDI)

    abbrev x3 : X86
    x3 = wrote x2 (x2.at + 3) x2.flags RCX (slice_index x2.regs RSI)

    is1 : IsX86 x1
    is1 = wrote-is x (x.at + 3) x.flags AREA (slice_index x.regs RCX) h.machine (h.machine.words RCX)

    is2 : IsX86 x2
    is2 = wrote-is x1 (x1.at + 3) x1.flags RAX (slice_index x1.regs RDI) is1 (is1.words RDI)

    is3 : IsX86 x3
    is3 = wrote-is x2 (x2.at + 3) x2.flags RCX (slice_index x2.regs RSI) is2 (is2.words RSI)

    other1 : (k : ℕ) → k ≢ AREA → slice_index x1.regs k ≡ slice_index x.regs k
    other1 k n = wrote-other x (x.at + 3) x.flags AREA (slice_index x.regs RCX) k n

    other2 : (k : ℕ) → k ≢ RAX → slice_index x2.regs k ≡ slice_index x1.regs k
    other2 k n = wrote-other x1 (x1.at + 3) x1.flags RAX (slice_index x1.regs RDI) k n

    other3 : (k : ℕ) → k ≢ RCX → slice_index x3.regs k ≡ slice_index x2.regs k
    other3 k n = wrote-other x2 (x2.at + 3) x2.flags RCX (slice_index x2.regs RSI) k n

    begun : Partly p lean call s places lent None-yet x3
    begun = record {
      machine = is3;
      rights = h.rights;
      area =
          other3 AREA (λ e. omega (arith, e)) ∙ other2 AREA (λ e. omega (arith, e))
          ∙ wrote-reads x (x.at + 3) x.flags AREA (slice_index x.regs RCX) h.machine (omega arith) ∙ h.area;
      fuel =
          other3 FUEL (λ e. omega (arith, e)) ∙ other2 FUEL (λ e. omega (arith, e)) ∙ other1 FUEL (λ e. omega (arith, e)) ∙ h.fuel;
      in_register = λ r q d l e. absurd d;
      in_slot = λ r d l e. absurd d;
      saved = λ r q d e c. absurd d;
      untouched = λ q c none.
          other3 q (isnt is_callee_saved q RCX c refl) ∙ other2 q (isnt is_callee_saved q RAX c refl) ∙ other1 q (isnt is_callee_saved q AREA c refl)
          ∙ h.registers q;
      memory = h.memory;
    }

    third-waits : slice_index x3.regs RDX ≡ slice_index s.regs 18
    third-waits =
        other3 RDX (λ e. omega (arith, e)) ∙ other2 RDX (λ e. omega (arith, e)) ∙ other1 RDX (λ e. omega (arith, e)) ∙ sym h.third

    first-waits : slice_index x3.regs RAX ≡ slice_index s.regs 16
    first-waits =
        other3 RAX (λ e. omega (arith, e)) ∙ wrote-reads x1 (x1.at + 3) x1.flags RAX (slice_index x1.regs RDI) is1 (omega arith)
        ∙ other1 RDI (λ e. omega (arith, e)) ∙ sym h.first

    second-waits : slice_index x3.regs RCX ≡ slice_index s.regs 17
    second-waits =
        wrote-reads x2 (x2.at + 3) x2.flags RCX (slice_index x2.regs RSI) is2 (omega arith) ∙ other2 RSI (λ e. omega (arith, e))
        ∙ other1 RSI (λ e. omega (arith, e)) ∙ sym h.second

    abbrev Third : ℕ → Type 0
    Third = With 18 None-yet

    abbrev FirstToo : ℕ → Type 0
    FirstToo = With 16 Third

    abbrev AllThree : ℕ → Type 0
    AllThree = With 17 FirstToo

    third-in : Enters p lean call s places lent (enter p lean 18 RDX) 18 None-yet x3
    third-in = entered p lean call s places lent 18 RDX None-yet x3 (omega arith) (λ d. d) third-waits begun

    first-in : Enters p lean call s places lent (enter p lean 16 RAX) 16 Third third-in.end
    first-in =
        entered p lean call s places lent 16 RAX Third third-in.end (omega arith) (λ d. elim d [ inl e ↦ omega (arith, e) | inr none ↦ none ])
        (third-in.same RAX refl ∙ first-waits) third-in.partly

    second-in : Enters p lean call s places lent (enter p lean 17 RCX) 17 FirstToo first-in.end
    second-in =
        entered p lean call s places lent 17 RCX FirstToo first-in.end (omega arith)
        (λ d. elim d [ inl e ↦ omega (arith, e) | inr more ↦ elim more [ inl e ↦ omega (arith, e) | inr none ↦ none ] ])
        (first-in.same RCX refl ∙ third-in.same RCX refl ∙ second-waits) first-in.partly

    -- 0 in rax
    abbrev zeroed : X86
    zeroed = wrote second-in.end (second-in.end.at + 6) second-in.end.flags RAX 0

    three-cleared : Partly p lean call s places lent (Cleared 0) zeroed
    three-cleared =
        with-rax (Cleared 0) second-in.end (second-in.end.at + 6) 0 (omega arith)
        (partly-as p lean call s places lent AllThree (Cleared 0) second-in.end
        (λ r d. elim d [
          | inl e ↦ inr (ap is_argument e)
          | inr more ↦ elim more [ inl e ↦ inr (ap is_argument e) | inr last ↦ elim last [ inl e ↦ inr (ap is_argument e) | inr none ↦ absurd none ] ]
        ])
        (λ r d. elim d [
          | inl low ↦ absurd (omega (arith, low))
          | inr e ↦ elim (argument-cases r e) [
            | inl a ↦ inr (inr (inl a))
            | inr more ↦ elim more [ inl b ↦ inr (inl b) | inr c ↦ inl c ]
          ]
        ]) second-in.partly)

    pub entry-runs : EntersBy x
    entry-runs =
        let n-is : length p ≡ 31 = places.count in
        let zero-rax : slice_index zeroed.regs RAX ≡ 0 =
        wrote-reads second-in.end (second-in.end.at + 6) second-in.end.flags RAX 0 second-in.partly.machine (omega arith) in
        let c = all-cleared (λ r e. h.others r e) (length p) zeroed (omega (arith, n-is)) three-cleared zero-rax in
        let clears : List X86Insn = for_registers (clear p lean) (length p) in
        let rest : Runs (MovZero RAX 0 ∷ clears) second-in.end c.end = then-run (MovZero RAX 0) clears second-in.end zeroed c.end refl refl c.runs in
        let second : Runs (enter p lean 17 RCX ++ (MovZero RAX 0 ∷ clears)) first-in.end c.end =
        both-run (enter p lean 17 RCX) (MovZero RAX 0 ∷ clears) first-in.end second-in.end c.end second-in.runs rest in
        let first : Runs (enter p lean 16 RAX ++ (enter p lean 17 RCX ++ (MovZero RAX 0 ∷ clears))) third-in.end c.end =
        both-run (enter p lean 16 RAX) (enter p lean 17 RCX ++ (MovZero RAX 0 ∷ clears)) third-in.end first-in.end c.end first-in.runs second in
        let all : Runs (enter p lean 18 RDX ++ (enter p lean 16 RAX ++ (enter p lean 17 RCX ++ (MovZero RAX 0 ∷ clears)))) x3 c.end =
        both-run (enter p lean 18 RDX) (enter p lean 16 RAX ++ (enter p lean 17 RCX ++ (MovZero RAX 0 ∷ clears))) x3 third-in.end c.end third-in.runs first in
        record {
          end = c.end;
          runs =
              then-run (Mov AREA RCX) _ x x1 c.end refl refl
              (then-run (Mov RAX RDI) _ x1 x2 c.end refl refl (then-run (Mov RCX RSI) _ x2 x3 c.end refl refl all));
          begins = partly-all p lean call s places lent (Cleared (length p)) c.end h.start state (λ r low. inl (omega (arith, low, n-is))) c.partly;
        }

-- ---- in the text

module _ (p : Places) (lean : Lean) (metered : Bool) (code : List Insn) where
  abbrev entry : List NativeInsn
  entry = plain (entry_code p lean)

  -- the padding behind the entry
  abbrev entry_pad : List NativeInsn
  entry_pad = pad p lean metered code 0 (code_length entry)

  -- what stands in front begins with the entry
  record BeginsWithEntry (n : ℕ) : Type 0 where
    rest : List NativeInsn
    whole : front_code p lean metered code n ≡ entry ++ (entry_pad ++ rest)

  front-begins : (n : ℕ) → BeginsWithEntry n
  front-begins zero = record { rest = []; whole = ap (λ l. entry ++ l) (sym (append-nil entry_pad)) }
  front-begins (suc n) =
      let b = front-begins n in
      let next : List NativeInsn = block p lean metered code n ++ gap p lean metered code n in
      record {
        rest = b.rest ++ next;
        whole =
            append_assoc (front_code p lean metered code n) (block p lean metered code n) (gap p lean metered code n) ∙ ap (λ l. l ++ next) b.whole
            ∙ append_assoc entry (entry_pad ++ b.rest) next ∙ ap (λ l. entry ++ l) (append_assoc entry_pad b.rest next);
      }

  -- the first block begins after the padding
  pub first-is : offset_of p lean metered code 0 ≡ code_length entry + code_length entry_pad
  first-is = length-append-code entry entry_pad

  -- no more steps than the entry and its padding have instructions lead to the first block
  pub record Entered (call : Call) (s : State) (x : X86) : Type 0 where
    pub count : ℕ
    pub few : count ≤ length (front_code p lean metered code 0)
    pub brief : count ≤ length (entry_code p lean) + 1
    pub end : X86
    pub reaches : Reaches (native_text p lean metered code) count x end
    pub agrees : AgreesAt p lean metered code call s end

-- the first index isn't left out, and is no joined branch
first-ready : (lean : Lean) (code : List Insn) (s : State) (x : X86) → IsCode code → IsLean lean code → s.index ≡ 0 →
    IsPrepared (form_at lean s.index) code s x
first-ready lean code s x ok lives start =
    let first = insn-there code 0 ok.nonempty in
    ready-if (form_at lean s.index) code s x (λ e. lives.start (ap (form_at lean) (sym start) ∙ e))
    (λ jump e.
    let b = compared-before lean code lives 0 first.0 jump first.1 (ap (form_at lean) (sym start) ∙ e) in
    let wrong = b.next in
    absurd (omega (arith, wrong)))

pub begins : (p : Places) (lean : Lean) (metered : Bool) (code : List Insn) (call : Call) (s : State) (x : X86) → IsCode code → IsLean lean code →
    ArePlaces p → IsState s → IsLent call s.rights → IsCall call s x →
    Entered p lean metered code call s x
begins p lean metered code call s x ok lives places state lent h =
    let b = front-begins p lean metered code (suc (length code)) in
    let text : List ℕ = native_text p lean metered code in
    let start : ℕ = code_length (plain (entry_code p lean)) in
    let behind : List NativeInsn = pad p lean metered code 0 start in
    let e = entry-runs p lean call s places lent x state h in
    let lies : Lies text x.at (entry_code p lean) =
    subst (λ n. Lies text n (entry_code p lean)) (sym h.at) (entry-lies p lean metered code (behind ++ b.rest) (entry_code p lean) b.whole) in
    let to-end = reach-straight text (entry_code p lean) x e.end lies (entry-straight p lean call s places lent) e.runs.runs in
    let place : e.end.at ≡ start =
    let a = e.runs.at in
    let z = h.at in
    let n = plain-length (entry_code p lean) in
    omega (arith, a, z, n) in
    let first = first-is p lean metered code in
    let small = offset-small p places lean metered code 0 ok (omega arith) in
    let same = ap (λ k. code_length (pad p lean metered code 0 k)) place in
    let g : Passes p places lean metered code ok 0 (length behind) e.end =
    subst (λ k. Passes p places lean metered code ok 0 (length (pad p lean metered code 0 k)) e.end) place
    (passes p places lean metered code ok 0 e.end e.begins.agrees.machine (omega arith) (omega (arith, place, first, small))
    (subst (λ k. Lies text k (placed_from (offset_of p lean metered code) k (pad p lean metered code 0 k))) (sym place)
    (part-lies p lean metered code (plain (entry_code p lean)) behind b.rest start b.whole refl))
    (omega (arith, place, first, same))) in
    let few = g.few in
    let brief = g.brief in
    let sizes = length-append (plain (entry_code p lean)) behind in
    let plainly = plain-count (entry_code p lean) in
    record {
      count = length (entry_code p lean) + g.count;
      few = omega (arith, few, sizes, plainly);
      brief = omega (arith, brief);
      end = g.end;
      reaches = reach-both text x e.end g.end to-end g.reaches;
      agrees = record {
        at = g.at ∙ ap (offset_of p lean metered code) (sym h.start);
        seen = e.begins.seen;
        same = e.begins.same;
        agrees = agrees-same p call e.begins.seen e.end g.end places e.begins.agrees g.same;
        ready = first-ready lean code s g.end ok lives h.start;
      };
    }

pub called : Called
called = λ p lean metered code call s x is lives of state lent h.
    let e = begins p lean metered code call s x is lives of.places state lent h in
    record { count = e.count; end = e.end; runs = reached (native_text p lean metered code) x e.end e.reaches; agrees = e.agrees }
