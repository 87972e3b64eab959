-- The entry: from a call to a state that agrees with the Alpha state at index 0, but for registers that are dead there.
use Rattle.std.proofs.Common.{◌≡◌, ◌≢◌, ◌⊎◌, ℕ, zero, suc, ◌+◌, ◌*◌, ◌%◌, ◌^◌, ◌<◌, ◌≤◌, Bool, true, false, cond, List, [], ◌∷◌, ◌++◌, length, slice_index}
use Rattle.std.proofs.Common.{length-append, refl, sym, ap, ◌∙◌, subst, arith, inl, inr}
use Rattle.std.proofs.lemmas.Bool.{cases_eq, cases_lt, cases_Bool}
use Rattle.std.proofs.lemmas.List.{get_or_past, get_or_push, get_or_append_left}
use Rattle.word_ops.specs.Memory.{read, write}
use Rattle.word_ops.specs.Rights.{Rights, in_span, allowed}
use Rattle.word_ops.proofs.Memories.{read-write_same, read-write_other, read-below, IsMemory-write}
use Rattle.alpha_cfg.specs.Machine.{State, IsState}
use Rattle.x86_words.specs.declared.insn.X86Insn.{X86Insn}
use Rattle.x86_words.specs.declared.insn.X86Insn.TheVariants.{Mov, Store}
use Rattle.x86_machine.specs.declared.outcome.X86Step.{X86Step}
use Rattle.x86_machine.specs.declared.outcome.X86Step.TheVariants as steps
use Rattle.x86_machine.specs.Machine.{X86, IsX86, extended, disp_address, x86_outcome}
use Rattle.native_steps.specs.declared.places.Place.{Place}
use Rattle.native_steps.specs.declared.places.Place.TheVariants.{Register, Slot, Nowhere}
use Rattle.native_steps.specs.Places.{Places, ArePlaces, is_somewhere, place_at, slot, slot_address, is_free, is_callee_saved, FUEL, AREA}
use Rattle.native_steps.specs.Sequences.{keep_place}
use Rattle.native_steps.specs.Agreement.{Call, area_span, native_rights, IsLent, Agrees}
use Rattle.native_steps.proofs.Straights.{Runs, none-run, then-run}
use Rattle.native_steps.proofs.Frames.{wrote, wrote-is, wrote-reads, wrote-other, isnt, free-below}
use Rattle.native_steps.proofs.Operands.{slot-is, slot-allowed, placed-below, outside, same-register}
use Rattle.native_code.specs.Lives.{Lean}
use Rattle.native_code.specs.Blocks.{save_place, enter}
use Rattle.native_code.specs.Calls.{IsSeen}

-- ---- so many words, by their numbers

abbrev words_of : (ℕ → ℕ) → ℕ → List ℕ
words_of f zero = []
words_of f (suc n) = words_of f n ++ f n ∷ []

words_of-count : (f : ℕ → ℕ) (n : ℕ) → length (words_of f n) ≡ n
words_of-count f zero = refl
words_of-count f (suc n) = let h = words_of-count f n in let e = length-append (words_of f n) (f n ∷ []) in omega (arith, h, e)

words_of-at : (f : ℕ → ℕ) (n r : ℕ) → r < n → slice_index (words_of f n) r ≡ f r
words_of-at f zero r low = absurd (omega (arith, low))
words_of-at f (suc n) r low =
    let count = words_of-count f n in
    elim (cases_eq r n) [
      | inl last ↦ get_or_push (words_of f n) (f n) 0 r (count ∙ sym last) ∙ ap f (sym last)
      | inr other ↦ get_or_append_left (words_of f n) (f n ∷ []) 0 r (omega (arith, low, other, count)) ∙ words_of-at f n r (omega (arith, low, other))
    ]

words_of-below : (f : ℕ → ℕ) (n : ℕ) → ((r : ℕ) → f r < 2 ^ 64) → (r : ℕ) → slice_index (words_of f n) r < 2 ^ 64
words_of-below f n below r = elim (cases_lt r n) [
  | inl low ↦ let h = below r in let e = words_of-at f n r low in omega (arith, h, e)
  | inr past ↦
      let count = words_of-count f n in
      let e : slice_index (words_of f n) r ≡ 0 = get_or_past (words_of f n) r 0 (omega (arith, past, count)) in
      omega (arith, e)
]

-- one register more
abbrev pub With : ℕ → (ℕ → Type 0) → ℕ → Type 0
With r D k = (k ≡ r) ⊎ D k

module _ (p : Places) (lean : Lean) (call : Call) (s : State) (places : ArePlaces p) (lent : IsLent call s.rights) where
  -- The registers that are done are in their places, if they are live, and what these had is saved.
  pub record Partly (Done : ℕ → Type 0) (x : X86) : Type 0 where
    pub machine : IsX86 x
    pub rights : x.rights ≡ native_rights call s.rights
    pub area : slice_index x.regs AREA ≡ call.area
    pub fuel : slice_index x.regs FUEL ≡ call.fuel
    pub in_register : (r q : ℕ) → Done r → lean.live 0 r ≡ true → place_at p r ≡ Register q → slice_index x.regs q ≡ slice_index s.regs r
    pub in_slot : (r : ℕ) → Done r → lean.live 0 r ≡ true → place_at p r ≡ Slot → read x.memory (slot_address call.area r) ≡ slice_index s.regs r
    pub saved : (r q : ℕ) → Done r → place_at p r ≡ Register q → is_callee_saved q ≡ true
        → read x.memory (slot_address call.area r) ≡ slice_index call.registers q
    pub untouched : (q : ℕ) → is_callee_saved q ≡ true → ((r : ℕ) → Done r → place_at p r ≡ Register q → ⊥)
        → slice_index x.regs q ≡ slice_index call.registers q
    pub memory : (a : ℕ) → in_span (area_span call) a ≡ false → read x.memory a ≡ read s.memory a

  -- the same registers, said otherwise
  pub partly-as : (D E : ℕ → Type 0) (x : X86) → ((r : ℕ) → D r → E r) → ((r : ℕ) → E r → D r) → Partly D x → Partly E x
  partly-as D E x to from h = record {
    machine = h.machine;
    rights = h.rights;
    area = h.area;
    fuel = h.fuel;
    in_register = λ r q d l e. h.in_register r q (from r d) l e;
    in_slot = λ r d l e. h.in_slot r (from r d) l e;
    saved = λ r q d e c. h.saved r q (from r d) e c;
    untouched = λ q c none. h.untouched q c (λ r d e. none r (to r d) e);
    memory = h.memory;
  }

  -- ---- all registers are done

  -- the word that a place has
  abbrev word_in : X86 → Place → ℕ → ℕ
  word_in x (Register q) r = slice_index x.regs q
  word_in x Slot r = read x.memory (slot_address call.area r)
  word_in x Nowhere r = 0

  word_in-below : (x : X86) (o : Place) (r : ℕ) → IsX86 x → word_in x o r < 2 ^ 64
  word_in-below x (Register q) r is = is.words q
  word_in-below x Slot r is = read-below x.memory (slot_address call.area r) is.memory
  word_in-below x Nowhere r is = omega arith

  -- a register as native code sees it: dead ones have what is in their places
  abbrev seen_word : X86 → ℕ → ℕ
  seen_word x r = cond (lean.live 0 r) (slice_index s.regs r) (word_in x (place_at p r) r)

  seen-below : (x : X86) (r : ℕ) → IsX86 x → IsState s → seen_word x r < 2 ^ 64
  seen-below x r is state = elim (lean.live 0 r) as (λ b. cond b (slice_index s.regs r) (word_in x (place_at p r) r) < 2 ^ 64) [
    | true ↦ state.regs.words r
    | false ↦ word_in-below x (place_at p r) r is
  ]

  seen-live : (x : X86) (r : ℕ) → lean.live 0 r ≡ true → seen_word x r ≡ slice_index s.regs r
  seen-live x r l = ap (λ b. cond b (slice_index s.regs r) (word_in x (place_at p r) r)) l

  -- what a place has is what is seen, if it is so of live registers
  seen-in : (x : X86) (o : Place) (r : ℕ) → place_at p r ≡ o → (lean.live 0 r ≡ true → word_in x o r ≡ slice_index s.regs r) →
      word_in x o r ≡ seen_word x r
  seen-in x o r e has = elim (cases_Bool (lean.live 0 r)) [
    | inl l ↦ has l ∙ sym (seen-live x r l)
    | inr d ↦ ap (λ k. word_in x k r) (sym e) ∙ sym (ap (λ b. cond b (slice_index s.regs r) (word_in x (place_at p r) r)) d)
  ]

  -- The state agrees with one that is the Alpha state but for registers that are dead.
  pub record Begins (x : X86) : Type 0 where
    pub seen : State
    pub same : IsSeen lean s seen
    pub agrees : Agrees p call seen x

  pub partly-all : (D : ℕ → Type 0) (x : X86) → s.index ≡ 0 → IsState s → ((r : ℕ) → r < 31 → D r) → Partly D x → Begins x
  partly-all D x start state all h =
      let regs : List ℕ = words_of (seen_word x) 31 in
      let seen : State = record s { regs = regs } in
      let low : (r : ℕ) (o : Place) → place_at p r ≡ o → is_somewhere o ≡ true → r < 31 =
      λ r o e is. placed-below p call places r (ap is_somewhere e ∙ is) in
      let at : (r : ℕ) → r < 31 → slice_index regs r ≡ seen_word x r = words_of-at (seen_word x) 31 in
      record {
        seen = seen;
        same = record {
          index = refl;
          memory = refl;
          rights = refl;
          state = record {
            regs = record { count = words_of-count (seen_word x) 31; words = words_of-below (seen_word x) 31 (λ r. seen-below x r h.machine state) };
            memory = state.memory;
            rights = state.rights;
          };
          live = λ r l. elim (cases_lt r 31) [
            | inl few ↦ at r few ∙ seen-live x r (ap (λ n. lean.live n r) (sym start) ∙ l)
            | inr past ↦
                let mine : length regs ≡ 31 = words_of-count (seen_word x) 31 in
                let own = state.regs.count in
                get_or_past regs r 0 (omega (arith, past, mine)) ∙ sym (get_or_past s.regs r 0 (omega (arith, past, own)))
          ];
        };
        agrees = record {
          machine = h.machine;
          rights = h.rights;
          area = h.area;
          fuel = h.fuel;
          in_register = λ r q e.
              let few = low r (Register q) e refl in
              seen-in x (Register q) r e (λ l. h.in_register r q (all r few) l e) ∙ sym (at r few);
          in_slot = λ r e.
              let few = low r Slot e refl in
              seen-in x Slot r e (λ l. h.in_slot r (all r few) l e) ∙ sym (at r few);
          saved = λ r q e c. h.saved r q (all r (low r (Register q) e refl)) e c;
          untouched = λ q c none. h.untouched q c (λ r d e. none r e);
          memory = h.memory;
        };
      }

  -- a word of a register that is no place stays
  abbrev pub SameTemporaries : X86 → X86 → Type 0
  SameTemporaries x y = (k : ℕ) → is_free k ≡ false → slice_index y.regs k ≡ slice_index x.regs k

  -- the instructions lead on, with one register more in its place
  pub record Enters (l : List X86Insn) (r : ℕ) (D : ℕ → Type 0) (x : X86) : Type 0 where
    pub end : X86
    pub runs : Runs l x end
    pub partly : Partly (With r D) end
    pub same : SameTemporaries x end

  -- ---- stores into the area

  module _ (D : ℕ → Type 0) (x : X86) (h : Partly D x) where
    stored : (r from : ℕ) → r < 31 →
        x86_outcome x (x.at + 7) (Store AREA (slot r) from)
        ≡ (steps.Moved, record x { at = x.at + 7; memory = write x.memory (slot_address call.area r) (slice_index x.regs from) })
    stored r from low =
        let address : disp_address x AREA (slot r) ≡ slot_address call.area r =
        ap (λ b. (b + extended (slot r)) % 2 ^ 64) h.area ∙ slot-is p call places s.rights r lent low in
        let may : allowed x.rights.writes (disp_address x AREA (slot r)) ≡ true =
        ap (λ (g : Rights). allowed g.writes (disp_address x AREA (slot r))) h.rights
        ∙ ap (allowed (area_span call ∷ s.rights.writes)) address ∙ slot-allowed p call places s.rights.writes r low in
        let after : ℕ → X86Step × X86 = λ a. (steps.Moved, record x { at = x.at + 7; memory = write x.memory a (slice_index x.regs from) }) in
        ap (λ t. cond t (after (disp_address x AREA (slot r))) (steps.Stuck, x)) may ∙ ap after address

    -- the state after such a store
    abbrev put : ℕ → ℕ → X86
    put r from = record x { at = x.at + 7; memory = write x.memory (slot_address call.area r) (slice_index x.regs from) }

    put-is : (r from : ℕ) → r < 31 → IsX86 (put r from)
    put-is r from low =
        let top : call.area + 8 * 31 ≤ 2 ^ 64 = lent.span.to in
        record {
          count = h.machine.count;
          words = h.machine.words;
          memory =
              IsMemory-write x.memory (slot_address call.area r) (slice_index x.regs from) h.machine.memory (omega (arith, top, low)) (h.machine.words from);
          rights = h.machine.rights;
        }

    put-other : (r from k : ℕ) → k ≢ r → read (put r from).memory (slot_address call.area k) ≡ read x.memory (slot_address call.area k)
    put-other r from k apart =
        read-write_other x.memory (slot_address call.area r) (slice_index x.regs from) (slot_address call.area k) (λ g. apart (omega (arith, g)))

    put-here : (r from : ℕ) → read (put r from).memory (slot_address call.area r) ≡ slice_index x.regs from
    put-here r from = read-write_same x.memory (slot_address call.area r) (slice_index x.regs from)

    put-outside : (r from a : ℕ) → r < 31 → in_span (area_span call) a ≡ false → read (put r from).memory a ≡ read x.memory a
    put-outside r from a low free =
        read-write_other x.memory (slot_address call.area r) (slice_index x.regs from) a (outside p call places a r low free)

    -- ---- one register

    -- it is nowhere
    nowhere-done : (r : ℕ) → place_at p r ≡ Nowhere → Partly (With r D) x
    nowhere-done r e = record {
      machine = h.machine;
      rights = h.rights;
      area = h.area;
      fuel = h.fuel;
      in_register = λ k q d l f. elim d [
        | inl same ↦ let wrong : Register q ≡ Nowhere = sym f ∙ ap (place_at p) same ∙ e in absurd cc
        | inr done ↦ h.in_register k q done l f
      ];
      in_slot = λ k d l f. elim d [
        | inl same ↦ let wrong : Slot ≡ Nowhere = sym f ∙ ap (place_at p) same ∙ e in absurd cc
        | inr done ↦ h.in_slot k done l f
      ];
      saved = λ k q d f c. elim d [
        | inl same ↦ let wrong : Register q ≡ Nowhere = sym f ∙ ap (place_at p) same ∙ e in absurd cc
        | inr done ↦ h.saved k q done f c
      ];
      untouched = λ q c none. h.untouched q c (λ k d f. none k (inr d) f);
      memory = h.memory;
    }

    -- its word goes into its quadword
    slot-done : (r from : ℕ) → r < 31 → (D r → ⊥) → place_at p r ≡ Slot → slice_index x.regs from ≡ slice_index s.regs r → Partly (With r D) (put r from)
    slot-done r from low fresh e word =
        let apart-of : (k : ℕ) → D k → k ≢ r = λ k d same. fresh (subst D same d) in
        record {
          machine = put-is r from low;
          rights = h.rights;
          area = h.area;
          fuel = h.fuel;
          in_register = λ k q d l f. elim d [
            | inl same ↦ let wrong : Register q ≡ Slot = sym f ∙ ap (place_at p) same ∙ e in absurd cc
            | inr done ↦ h.in_register k q done l f
          ];
          in_slot = λ k d l f. elim d [
            | inl same ↦
                ap (λ n. read (put r from).memory (slot_address call.area n)) same ∙ put-here r from ∙ word ∙ sym (ap (slice_index s.regs) same)
            | inr done ↦ put-other r from k (apart-of k done) ∙ h.in_slot k done l f
          ];
          saved = λ k q d f c. elim d [
            | inl same ↦ let wrong : Register q ≡ Slot = sym f ∙ ap (place_at p) same ∙ e in absurd cc
            | inr done ↦ put-other r from k (apart-of k done) ∙ h.saved k q done f c
          ];
          untouched = λ q c none. h.untouched q c (λ k d f. none k (inr d) f);
          memory = λ a free. put-outside r from a low free ∙ h.memory a free;
        }

    -- what its register had is saved
    record Saved (r q : ℕ) (y : X86) : Type 0 where
      partly : Partly D y
      quad : is_callee_saved q ≡ true → read y.memory (slot_address call.area r) ≡ slice_index call.registers q
      regs : y.regs ≡ x.regs

    saved-put : (r q : ℕ) → r < 31 → (D r → ⊥) → place_at p r ≡ Register q → Saved r q (put r q)
    saved-put r q low fresh e =
        let apart-of : (k : ℕ) → D k → k ≢ r = λ k d same. fresh (subst D same d) in
        record {
          partly = record {
            machine = put-is r q low;
            rights = h.rights;
            area = h.area;
            fuel = h.fuel;
            in_register = h.in_register;
            in_slot = λ k d l f. put-other r q k (apart-of k d) ∙ h.in_slot k d l f;
            saved = λ k j d f c. put-other r q k (apart-of k d) ∙ h.saved k j d f c;
            untouched = h.untouched;
            memory = λ a free. put-outside r q a low free ∙ h.memory a free;
          };
          quad = λ c. put-here r q ∙ h.untouched q c (λ k d f. apart-of k d (places.apart k r q f e));
          regs = refl;
        }

  -- its word goes into its register
  register-done : (D : ℕ → Type 0) (x y : X86) (r q from : ℕ) → (D r → ⊥) → place_at p r ≡ Register q → (b : Partly D y) →
      (is_callee_saved q ≡ true → read y.memory (slot_address call.area r) ≡ slice_index call.registers q) →
      slice_index y.regs from ≡ slice_index s.regs r →
      Partly (With r D) (wrote y (y.at + 3) y.flags q (slice_index y.regs from))
  register-done D x y r q from fresh e b quad word =
      let free : is_free q ≡ true = places.free r q e in
      let value : ℕ = slice_index y.regs from in
      let other : (k : ℕ) → k ≢ q → slice_index (wrote y (y.at + 3) y.flags q value).regs k ≡ slice_index y.regs k =
      λ k apart. wrote-other y (y.at + 3) y.flags q value k apart in
      record {
        machine = wrote-is y (y.at + 3) y.flags q value b.machine (b.machine.words from);
        rights = b.rights;
        area = other AREA (λ g. isnt is_free q AREA free refl (sym g)) ∙ b.area;
        fuel = other FUEL (λ g. isnt is_free q FUEL free refl (sym g)) ∙ b.fuel;
        in_register = λ k j d l f. elim d [
          | inl same ↦
              let here : q ≡ j = same-register q j (sym e ∙ ap (place_at p) (sym same) ∙ f) in
              ap (slice_index (wrote y (y.at + 3) y.flags q value).regs) (sym here) ∙ wrote-reads y (y.at + 3) y.flags q value b.machine (free-below q free)
              ∙ word ∙ sym (ap (slice_index s.regs) same)
          | inr done ↦
              other j (λ g. fresh (subst D (places.apart k r q (f ∙ ap Register g) e) done)) ∙ b.in_register k j done l f
        ];
        in_slot = λ k d l f. elim d [
          | inl same ↦ let wrong : Slot ≡ Register q = sym f ∙ ap (place_at p) same ∙ e in absurd cc
          | inr done ↦ b.in_slot k done l f
        ];
        saved = λ k j d f c. elim d [
          | inl same ↦
              let here : q ≡ j = same-register q j (sym e ∙ ap (place_at p) (sym same) ∙ f) in
              ap (λ n. read y.memory (slot_address call.area n)) same ∙ quad (ap is_callee_saved here ∙ c) ∙ ap (slice_index call.registers) here
          | inr done ↦ b.saved k j done f c
        ];
        untouched = λ j c none. other j (λ g. none r (inl refl) (e ∙ ap Register (sym g))) ∙ b.untouched j c (λ k d f. none k (inr d) f);
        memory = b.memory;
      }

  -- ---- the sequence of one register

  -- its word goes into its register, whose old word is saved
  then-moved : (q r from : ℕ) (D : ℕ → Type 0) (x y : X86) → (D r → ⊥) → place_at p r ≡ Register q → slice_index x.regs from ≡ slice_index s.regs r →
      y.regs ≡ x.regs →
      Partly D y →
      (is_callee_saved q ≡ true → read y.memory (slot_address call.area r) ≡ slice_index call.registers q) →
      Enters (Mov q from ∷ []) r D y
  then-moved q r from D x y fresh e word same b quad =
      let free : is_free q ≡ true = places.free r q e in
      let z : X86 = wrote y (y.at + 3) y.flags q (slice_index y.regs from) in
      record {
        end = z;
        runs = then-run (Mov q from) [] y z z refl refl (none-run z);
        partly = register-done D x y r q from fresh e b quad (ap (λ l. slice_index l from) same ∙ word);
        same = λ k none. wrote-other y (y.at + 3) y.flags q (slice_index y.regs from) k (λ g. isnt is_free q k free none (sym g));
      }

  -- by whether the caller wants the register back
  by-callee : (q r from : ℕ) (v : Bool) (D : ℕ → Type 0) (x : X86) → r < 31 → (D r → ⊥) → place_at p r ≡ Register q → is_callee_saved q ≡ v →
      slice_index x.regs from ≡ slice_index s.regs r →
      Partly D x →
      Enters (cond v (Store AREA (slot r) q ∷ []) [] ++ Mov q from ∷ []) r D x
  by-callee q r from true D x low fresh e c word h =
      let y : X86 = put D x h r q in
      let v = saved-put D x h r q low fresh e in
      let m = then-moved q r from D x y fresh e word refl v.partly v.quad in
      record {
        end = m.end;
        runs = then-run (Store AREA (slot r) q) (Mov q from ∷ []) x y m.end (stored D x h r q low) refl m.runs;
        partly = m.partly;
        same = m.same;
      }
  by-callee q r from false D x low fresh e c word h =
      then-moved q r from D x x fresh e word refl h (λ d. let wrong : true ≡ false = sym d ∙ c in absurd cc)

  entered-as : (o : Place) (r from : ℕ) (D : ℕ → Type 0) (x : X86) → r < 31 → (D r → ⊥) → place_at p r ≡ o → slice_index x.regs from ≡ slice_index s.regs r →
      Partly D x →
      Enters (save_place o r ++ keep_place o r from) r D x
  entered-as (Register q) r from D x low fresh e word h = by-callee q r from (is_callee_saved q) D x low fresh e refl word h
  entered-as Slot r from D x low fresh e word h =
      let y : X86 = put D x h r from in
      record {
        end = y;
        runs = then-run (Store AREA (slot r) from) [] x y y (stored D x h r from low) refl (none-run y);
        partly = slot-done D x h r from low fresh e word;
        same = λ k none. refl;
      }
  entered-as Nowhere r from D x low fresh e word h = record {
    end = x;
    runs = none-run x;
    partly = nowhere-done D x h r e;
    same = λ k none. refl;
  }

  -- ---- a register that is dead

  -- it is done where what its place had is saved
  dead-done : (D : ℕ → Type 0) (y : X86) (r : ℕ) → lean.live 0 r ≡ false → Partly D y →
      ((q : ℕ) → place_at p r ≡ Register q → is_callee_saved q ≡ true → read y.memory (slot_address call.area r) ≡ slice_index call.registers q) →
      Partly (With r D) y
  dead-done D y r dead b quad = record {
    machine = b.machine;
    rights = b.rights;
    area = b.area;
    fuel = b.fuel;
    in_register = λ k q d l f. elim d [
      | inl same ↦ let wrong : true ≡ false = sym l ∙ ap (lean.live 0) same ∙ dead in absurd cc
      | inr done ↦ b.in_register k q done l f
    ];
    in_slot = λ k d l f. elim d [
      | inl same ↦ let wrong : true ≡ false = sym l ∙ ap (lean.live 0) same ∙ dead in absurd cc
      | inr done ↦ b.in_slot k done l f
    ];
    saved = λ k q d f c. elim d [
      | inl same ↦ ap (λ n. read y.memory (slot_address call.area n)) same ∙ quad q (ap (place_at p) (sym same) ∙ f) c
      | inr done ↦ b.saved k q done f c
    ];
    untouched = λ q c none. b.untouched q c (λ k d f. none k (inr d) f);
    memory = b.memory;
  }

  -- only what its register had is saved
  dead-callee : (q r : ℕ) (v : Bool) (D : ℕ → Type 0) (x : X86) → r < 31 → (D r → ⊥) → place_at p r ≡ Register q → is_callee_saved q ≡ v →
      lean.live 0 r ≡ false →
      Partly D x →
      Enters (cond v (Store AREA (slot r) q ∷ []) [] ++ []) r D x
  dead-callee q r true D x low fresh e c dead h =
      let y : X86 = put D x h r q in
      let v = saved-put D x h r q low fresh e in
      record {
        end = y;
        runs = then-run (Store AREA (slot r) q) [] x y y (stored D x h r q low) refl (none-run y);
        partly =
            dead-done D y r dead v.partly
            (λ j f k. let here : q ≡ j = same-register q j (sym e ∙ f) in v.quad (ap is_callee_saved here ∙ k) ∙ ap (slice_index call.registers) here);
        same = λ k none. refl;
      }
  dead-callee q r false D x low fresh e c dead h = record {
    end = x;
    runs = none-run x;
    partly =
        dead-done D x r dead h
        (λ j f k.
        let here : q ≡ j = same-register q j (sym e ∙ f) in
        let wrong : true ≡ false = sym k ∙ ap is_callee_saved (sym here) ∙ c in absurd cc);
    same = λ k none. refl;
  }

  dead-as : (o : Place) (r : ℕ) (D : ℕ → Type 0) (x : X86) → r < 31 → (D r → ⊥) → place_at p r ≡ o → lean.live 0 r ≡ false → Partly D x →
      Enters (save_place o r ++ []) r D x
  dead-as (Register q) r D x low fresh e dead h = dead-callee q r (is_callee_saved q) D x low fresh e refl dead h
  dead-as Slot r D x low fresh e dead h = record {
    end = x;
    runs = none-run x;
    partly = dead-done D x r dead h (λ q f c. let wrong : Slot ≡ Register q = sym e ∙ f in absurd cc);
    same = λ k none. refl;
  }
  dead-as Nowhere r D x low fresh e dead h = record {
    end = x;
    runs = none-run x;
    partly = dead-done D x r dead h (λ q f c. let wrong : Nowhere ≡ Register q = sym e ∙ f in absurd cc);
    same = λ k none. refl;
  }

  entered-by : (b : Bool) (r from : ℕ) (D : ℕ → Type 0) (x : X86) → r < 31 → (D r → ⊥) → lean.live 0 r ≡ b →
      slice_index x.regs from ≡ slice_index s.regs r →
      Partly D x →
      Enters (save_place (place_at p r) r ++ cond b (keep_place (place_at p r) r from) []) r D x
  entered-by true r from D x low fresh live word h = entered-as (place_at p r) r from D x low fresh refl word h
  entered-by false r from D x low fresh live word h = dead-as (place_at p r) r D x low fresh refl live h

  pub entered : (r from : ℕ) (D : ℕ → Type 0) (x : X86) → r < 31 → (D r → ⊥) → slice_index x.regs from ≡ slice_index s.regs r →
      Partly D x →
      Enters (enter p lean r from) r D x
  entered r from D x low fresh word h = entered-by (lean.live 0 r) r from D x low fresh refl word h
