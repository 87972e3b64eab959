-- Operands come from their places into temporaries, and results go to theirs.
use Rattle.std.proofs.Common.{◌≡◌, ◌≢◌, ◌⊎◌, ℕ, ◌+◌, ◌-◌, ◌*◌, ◌/◌, ◌%◌, ◌^◌, ◌<◌, ◌≤◌, true, false, ◌||◌, eqb, List, [], ◌∷◌, ◌++◌, length}
use Rattle.std.proofs.Common.{slice_index, slice_set, refl, sym, ap, ◌∙◌, subst, arith, inl, inr, cond}
use Rattle.std.proofs.lemmas.Bool.{cases_Bool, cases_eq, cases_lt, ne_eqb, le-leb, lt-ltb, eq-eqb, eqb-true, eqb-false}
use Rattle.std.proofs.lemmas.List.{get_or-set_same, get_or-set_other, get_or_past}
use Rattle.std.proofs.Math.Bool.{or-true}
use Rattle.word_ops.specs.Memory.{Memory, read, write}
use Rattle.word_ops.specs.Rights.{Rights, in_span, allowed}
use Rattle.word_ops.specs.Registers.{read_reg, write_reg}
use Rattle.word_ops.proofs.Memories.{read-write_same, read-write_other, IsMemory-write}
use Rattle.word_ops.proofs.RegisterWords.{read_reg-below}
use Rattle.alpha_words.specs.declared.insn.Rhs.{Rhs}
use Rattle.alpha_words.specs.declared.insn.Rhs.TheVariants.{Reg, Lit}
use Rattle.alpha_words.specs.Encoding.{IsRhs}
use Rattle.alpha_cfg.specs.Machine.{State, IsState, rhs_word}
use Rattle.x86_words.specs.declared.insn.X86Insn.{X86Insn}
use Rattle.x86_words.specs.declared.insn.X86Insn.TheVariants.{Mov, MovZero, Store}
use Rattle.x86_words.specs.Encoding.{length_of}
use Rattle.x86_machine.specs.declared.outcome.X86Step.{X86Step}
use Rattle.x86_machine.specs.declared.outcome.X86Step.TheVariants as steps
use Rattle.x86_machine.specs.Machine.{X86, IsX86, extended, disp_address, puts, x86_outcome}
use Rattle.native_steps.specs.declared.places.Place.{Place}
use Rattle.native_steps.specs.declared.places.Place.TheVariants.{Register, Slot, Nowhere}
use Rattle.native_steps.specs.Places.{Places, ArePlaces, IsSomewhere, is_somewhere, is_in, place_at, operand_place, slot, slot_address, is_free, RAX, FUEL}
use Rattle.native_steps.specs.Places.{AREA}
use Rattle.native_steps.specs.Sequences.{RhsIsPlaced, fetch_place, keep_place, fetch, keep, fetch_rhs, source_at, source, brought, ready, target, settle}
use Rattle.native_steps.specs.Agreement.{Call, area_span, IsLent, Agrees, EndsInAgreement}
use Rattle.native_steps.proofs.Straights.{Runs, none-run, then-run, both-run}
use Rattle.native_steps.proofs.Frames.{wrote, SameBut, wrote-same, wrote-is, wrote-reads, wrote-other, agrees-same}
use Rattle.native_steps.proofs.Frames.{Only, only-none, only-wrote, isnt, free-below}
use Rattle.native_steps.proofs.Operators.{Gives}

-- ---- the area

in-span : (base n a k : ℕ) → k < n → a ≡ base + 8 * k → in_span (base, n) a ≡ true
in-span base n a k h e = rw (
  le-leb base a (omega (arith, e)),
  eq-eqb ((a - base) % 8) 0 (omega (arith, e)),
  lt-ltb ((a - base) / 8) n (omega (arith, e, h)),
) refl

pub same-register : (x y : ℕ) → Register x ≡ Register y → x ≡ y
same-register x y e = cc

apart-slot : (x : ℕ) → Register x ≡ Slot → ⊥
apart-slot x e = cc

-- places that differ are of different registers
differ : (p : Places) (k r : ℕ) (a b : Place) → (a ≡ b → ⊥) → place_at p k ≡ a → place_at p r ≡ b → k ≢ r
differ p k r a b apart e f same = apart (sym e ∙ ap (place_at p) same ∙ f)

-- ---- places of operands

-- instructions bring a word to a register; at most one register changes
pub record Brings (code : List X86Insn) (to at word : ℕ) (x : X86) : Type 0 where
  pub end : X86
  pub runs : Runs code x end
  pub only : Only to x end
  pub has : slice_index end.regs at ≡ word

pub in-is : (o : Place) (q : ℕ) → is_in o q ≡ true → o ≡ Register q
in-is (Register own) q h = ap Register (eqb-true own q h)
in-is Slot q h = let wrong : false ≡ true = h in absurd cc
in-is Nowhere q h = let wrong : false ≡ true = h in absurd cc

pub is-in : (o : Place) (q : ℕ) → o ≡ Register q → is_in o q ≡ true
is-in o q e = ap (λ k. is_in k q) e ∙ eq-eqb q q refl

-- where a word isn't, it is brought to the temporary
source-away : (o : Place) (temp : ℕ) → is_in o (source_at o temp) ≡ false → source_at o temp ≡ temp
source-away (Register q) temp h = let wrong : true ≡ false = sym (eq-eqb q q refl) ∙ h in absurd cc
source-away Slot temp h = refl
source-away Nowhere temp h = refl

-- what isn't in a register is read elsewhere
pub source-apart : (o : Place) (temp q : ℕ) → is_in o q ≡ false → temp ≢ q → source_at o temp ≢ q
source-apart (Register own) temp q h n = eqb-false own q h
source-apart Slot temp q h n = n
source-apart Nowhere temp q h n = n

module _ (p : Places) (call : Call) (places : ArePlaces p) where
  -- an operand's place that is a register is one of 31
  pub place-is : (r q : ℕ) → operand_place p r ≡ Register q → (r ≢ 31) × (place_at p r ≡ Register q)
  place-is r q e = elim (cases_eq r 31) [
    | inl same ↦
        let none : operand_place p r ≡ Nowhere = ap (λ b. cond b Nowhere (place_at p r)) (eq-eqb r 31 same) in
        let wrong : Nowhere ≡ Register q = sym none ∙ e in absurd cc
    | inr n ↦ (n, sym (ap (λ b. cond b Nowhere (place_at p r)) (ne_eqb r 31 n)) ∙ e)
  ]

  -- it is free
  pub place-free : (r q : ℕ) → operand_place p r ≡ Register q → is_free q ≡ true
  place-free r q e = places.free r q (place-is r q e).1

  -- no operand is in a register that isn't free
  pub not-in : (r q : ℕ) → is_free q ≡ false → is_in (operand_place p r) q ≡ false
  not-in r q h = elim (cases_Bool (is_in (operand_place p r) q)) [
    | inl there ↦ let wrong : true ≡ false = sym (place-free r q (in-is (operand_place p r) q there)) ∙ h in absurd cc
    | inr away ↦ away
  ]

  -- where an operand is read: a temporary, or a place
  source-in : (temp : ℕ) (o : Place) → temp < 2 → ((q : ℕ) → o ≡ Register q → is_free q ≡ true) →
      (source_at o temp ≡ temp) ⊎ (is_free (source_at o temp) ≡ true)
  source-in temp (Register q) low h = inr (h q refl)
  source-in temp Slot low h = inl refl
  source-in temp Nowhere low h = inl refl

  pub source-is : (r temp : ℕ) → temp < 2 → (source p r temp ≡ temp) ⊎ (is_free (source p r temp) ≡ true)
  source-is r temp low = source-in temp (operand_place p r) low (place-free r)

  pub source-below : (r temp : ℕ) → temp < 2 → source p r temp < 16
  source-below r temp low = elim (source-is r temp low) [
    | inl e ↦ omega (arith, e, low)
    | inr f ↦ free-below (source p r temp) f
  ]

  -- the register that a word is computed in: rax, or the place of its Alpha register
  abbrev pub IsWork : ℕ → ℕ → Type 0
  IsWork r work = (work ≡ 0) ⊎ (operand_place p r ≡ Register work)

  pub work-below : (r work : ℕ) → IsWork r work → work < 16
  work-below r work h = elim h [ inl e ↦ omega (arith, e) | inr e ↦ free-below work (place-free r work e) ]

  pub work-apart : (r work : ℕ) → IsWork r work → 1 ≢ work
  work-apart r work h = elim h [
    | inl e ↦ λ f. omega (arith, e, f)
    | inr e ↦ λ f. isnt is_free work 1 (place-free r work e) refl (sym f)
  ]

  target-in : (o : Place) → (source_at o RAX ≡ 0) ⊎ (o ≡ Register (source_at o RAX))
  target-in (Register q) = inr refl
  target-in Slot = inl refl
  target-in Nowhere = inl refl

  pub target-works : (r : ℕ) → IsWork r (target p r)
  target-works r = target-in (operand_place p r)

  pub slot-is : (rights : Rights) (r : ℕ) → IsLent call rights → r < 31 → (call.area + extended (slot r)) % 2 ^ 64 ≡ slot_address call.area r
  slot-is rights r lent h = let top : call.area + 8 * 31 ≤ 2 ^ 64 = lent.span.to in omega (arith, top, h)

  -- the quadword of a register is one of the area's
  pub slot-allowed : (spans : List (ℕ × ℕ)) (r : ℕ) → r < 31 → allowed (area_span call ∷ spans) (slot_address call.area r) ≡ true
  slot-allowed spans r h = ap (λ t. t || allowed spans (slot_address call.area r)) (in-span call.area 31 (slot_address call.area r) r h refl)

  -- an access of the Alpha code's is allowed beside the area
  pub allowed-on : (spans : List (ℕ × ℕ)) (a : ℕ) → allowed spans a ≡ true → allowed (area_span call ∷ spans) a ≡ true
  allowed-on spans a h = ap (λ t. in_span (area_span call) a || t) h ∙ or-true (in_span (area_span call) a)

  -- an address outside the area is no slot's
  pub outside : (a r : ℕ) → r < 31 → in_span (area_span call) a ≡ false → a ≢ slot_address call.area r
  outside a r h clear e = let wrong : true ≡ false = sym (in-span call.area 31 a r h e) ∙ clear in cc

  -- a register that has a place is one of 31
  pub placed-below : (r : ℕ) → is_somewhere (place_at p r) ≡ true → r < 31
  placed-below r e = elim (cases_lt r 31) [
    | inl h ↦ h
    | inr h ↦
        let n : length p ≤ r = let c = places.count in omega (arith, c, h) in
        let none : place_at p r ≡ Nowhere = get_or_past p r Nowhere n in
        let wrong : true ≡ false = sym e ∙ ap is_somewhere none in cc
  ]

  -- the index doesn't count
  pub agrees-index : (s : State) (i : ℕ) (x : X86) → Agrees p call s x → Agrees p call (record s { index = i }) x
  agrees-index s i x a = record {
    machine = a.machine;
    rights = a.rights;
    area = a.area;
    fuel = a.fuel;
    in_register = a.in_register;
    in_slot = a.in_slot;
    saved = a.saved;
    untouched = a.untouched;
    memory = a.memory;
  }

  -- ---- operands

  module _ (s : State) (x : X86) (lent : IsLent call s.rights) (agrees : Agrees p call s x) where
    fetched-place : (o : Place) (r to next : ℕ) → is_somewhere o ≡ true → place_at p r ≡ o →
        x86_outcome x next (fetch_place o r to) ≡ (steps.Moved, wrote x next x.flags to (slice_index s.regs r))
    fetched-place (Register q) r to next h e = ap (λ w. (steps.Moved, wrote x next x.flags to w)) (agrees.in_register r q e)
    fetched-place Nowhere r to next h e = let wrong : false ≡ true = h in cc
    fetched-place Slot r to next h e =
        let low : r < 31 = placed-below r (ap is_somewhere e) in
        let address : disp_address x AREA (slot r) ≡ slot_address call.area r =
        ap (λ b. (b + extended (slot r)) % 2 ^ 64) agrees.area ∙ slot-is s.rights r lent low in
        let may : allowed x.rights.reads (disp_address x AREA (slot r)) ≡ true =
        ap (λ (g : Rights). allowed g.reads (disp_address x AREA (slot r))) agrees.rights
        ∙ ap (allowed (area_span call ∷ s.rights.reads)) address ∙ slot-allowed s.rights.reads r low in
        let word : read x.memory (disp_address x AREA (slot r)) ≡ slice_index s.regs r = ap (read x.memory) address ∙ agrees.in_slot r e in
        ap (λ t. cond t (puts x next to (read x.memory (disp_address x AREA (slot r)))) (steps.Stuck, x)) may
        ∙ ap (λ w. (steps.Moved, wrote x next x.flags to w)) word

    -- a register's word comes into another
    pub fetched : (r to next : ℕ) → IsSomewhere p r → x86_outcome x next (fetch p r to) ≡ (steps.Moved, wrote x next x.flags to (read_reg s.regs r))
    fetched r to next h = elim h [
      | inl e ↦ subst (λ k. x86_outcome x next (fetch p k to) ≡ (steps.Moved, wrote x next x.flags to (read_reg s.regs k))) (sym e) refl
      | inr there ↦
          let other : eqb r 31 ≡ false = ne_eqb r 31 (λ e. omega (arith, placed-below r there, e)) in
          ap (λ b. x86_outcome x next (cond b (MovZero to 0) (fetch_place (place_at p r) r to))) other
          ∙ fetched-place (place_at p r) r to next there refl
          ∙ ap (λ b. (steps.Moved, wrote x next x.flags to (cond b 0 (slice_index s.regs r)))) (sym other)
    ]

    pub fetched-rhs : (rhs : Rhs) (to next : ℕ) → RhsIsPlaced p rhs →
        x86_outcome x next (fetch_rhs p rhs to) ≡ (steps.Moved, wrote x next x.flags to (rhs_word s.regs rhs))
    fetched-rhs (Reg r) to next h = fetched r to next h
    fetched-rhs (Lit n) to next h = refl

  -- ---- rax to its place

  -- a register's word changes in its place, and nowhere else
  module _ (s : State) (r word : ℕ) (state : IsState s) (low : r < 31) where
    abbrev after : State
    after = record s { index = s.index + 1; regs = slice_set s.regs r word }

    this : slice_index after.regs r ≡ word
    this = get_or-set_same s.regs r word 0 (let n = state.regs.count in omega (arith, n, low))

    other : (k : ℕ) → k ≢ r → slice_index after.regs k ≡ slice_index s.regs k
    other k n = get_or-set_other s.regs r k word 0 n

    kept-in-register : (x : X86) (at q : ℕ) → word < 2 ^ 64 → Agrees p call s x → place_at p r ≡ Register q → Agrees p call after (wrote x at x.flags q word)
    kept-in-register x at q below a e =
        let free : is_free q ≡ true = places.free r q e in
        let y : X86 = wrote x at x.flags q word in
        let machine : IsX86 y = wrote-is x at x.flags q word a.machine below in
        record {
          machine = machine;
          rights = a.rights;
          area = wrote-other x at x.flags q word AREA (λ c. isnt is_free q AREA free refl (sym c)) ∙ a.area;
          fuel = wrote-other x at x.flags q word FUEL (λ c. isnt is_free q FUEL free refl (sym c)) ∙ a.fuel;
          in_register = λ k j at_k. elim (cases_eq k r) [
            | inl same ↦
                let here : q ≡ j = same-register q j (sym e ∙ ap (place_at p) (sym same) ∙ at_k) in
                ap (slice_index y.regs) (sym here) ∙ wrote-reads x at x.flags q word a.machine (free-below q free)
                ∙ sym (ap (slice_index after.regs) same ∙ this)
            | inr apart ↦
                wrote-other x at x.flags q word j (λ c. apart (places.apart k r q (at_k ∙ ap Register c) e)) ∙ a.in_register k j at_k ∙ sym (other k apart)
          ];
          in_slot = λ k at_k. a.in_slot k at_k ∙ sym (other k (λ c. apart-slot q (sym e ∙ ap (place_at p) (sym c) ∙ at_k)));
          saved = a.saved;
          untouched = λ j c free_j. wrote-other x at x.flags q word j (λ g. free_j r (e ∙ ap Register (sym g))) ∙ a.untouched j c free_j;
          memory = a.memory;
        }

    -- a register that is nowhere isn't looked at
    kept-nowhere : (x : X86) → Agrees p call s x → place_at p r ≡ Nowhere → Agrees p call after x
    kept-nowhere x a e = record {
      machine = a.machine;
      rights = a.rights;
      area = a.area;
      fuel = a.fuel;
      in_register = λ k j at_k. a.in_register k j at_k ∙ sym (other k (differ p k r (Register j) Nowhere (λ c. cc) at_k e));
      in_slot = λ k at_k. a.in_slot k at_k ∙ sym (other k (differ p k r Slot Nowhere (λ c. cc) at_k e));
      saved = a.saved;
      untouched = a.untouched;
      memory = a.memory;
    }

    kept-in-slot : (x : X86) (at : ℕ) → word < 2 ^ 64 → IsLent call s.rights → Agrees p call s x → place_at p r ≡ Slot →
        Agrees p call after (record x { at = at; memory = write x.memory (slot_address call.area r) word })
    kept-in-slot x at below lent a e =
        let slot_r : ℕ = slot_address call.area r in
        let slot-below : slot_r < 2 ^ 64 = let top : call.area + 8 * 31 ≤ 2 ^ 64 = lent.span.to in omega (arith, top, low) in
        let m : Memory = write x.memory slot_r word in
        record {
          machine = record {
            count = a.machine.count;
            words = a.machine.words;
            memory = IsMemory-write x.memory slot_r word a.machine.memory slot-below below;
            rights = a.machine.rights;
          };
          rights = a.rights;
          area = a.area;
          fuel = a.fuel;
          in_register = λ k j at_k. a.in_register k j at_k ∙ sym (other k (λ c. apart-slot j (sym at_k ∙ ap (place_at p) c ∙ e)));
          in_slot = λ k at_k. elim (cases_eq k r) [
            | inl same ↦
                ap (λ n. read m (slot_address call.area n)) same ∙ read-write_same x.memory slot_r word ∙ sym (ap (slice_index after.regs) same ∙ this)
            | inr apart ↦
                read-write_other x.memory slot_r word (slot_address call.area k) (λ c. apart (omega (arith, c))) ∙ a.in_slot k at_k ∙ sym (other k apart)
          ];
          saved = λ k q at_k c.
              read-write_other x.memory slot_r word (slot_address call.area k)
              (λ g. let same : k ≡ r = omega (arith, g) in apart-slot q (sym at_k ∙ ap (place_at p) same ∙ e)) ∙ a.saved k q at_k c;
          untouched = a.untouched;
          memory = λ b h. read-write_other x.memory slot_r word b (outside b r low h) ∙ a.memory b h;
        }

  module _ (s : State) (r word : ℕ) (x : X86) (state : IsState s) (lent : IsLent call s.rights) (below : word < 2 ^ 64) (agrees : Agrees p call s x)
      (rax : slice_index x.regs 0 ≡ word)
    where
      kept-place : (o : Place) → r < 31 → place_at p r ≡ o →
          EndsInAgreement p call (keep_place o r RAX) x (record s { index = s.index + 1; regs = slice_set s.regs r word })
      kept-place (Register q) low e =
          let y : X86 = wrote x (x.at + 3) x.flags q word in
          let ran : Runs (Mov q RAX ∷ []) x y = then-run (Mov q RAX) [] x y y (ap (λ w. (steps.Moved, wrote x (x.at + 3) x.flags q w)) rax) refl (none-run y) in
          record { end = y; runs = ran.runs; at = ran.at; agrees = kept-in-register s r word state low x (x.at + 3) q below agrees e }
      kept-place Nowhere low e = record { end = x; runs = refl; at = omega arith; agrees = kept-nowhere s r word state low x agrees e }
      kept-place Slot low e =
          let slot_r : ℕ = slot_address call.area r in
          let y : X86 = record x { at = x.at + 7; memory = write x.memory slot_r word } in
          let address : disp_address x AREA (slot r) ≡ slot_r = ap (λ b. (b + extended (slot r)) % 2 ^ 64) agrees.area ∙ slot-is s.rights r lent low in
          let may : allowed x.rights.writes (disp_address x AREA (slot r)) ≡ true =
          ap (λ (g : Rights). allowed g.writes (disp_address x AREA (slot r))) agrees.rights
          ∙ ap (allowed (area_span call ∷ s.rights.writes)) address ∙ slot-allowed s.rights.writes r low in
          let stored : ℕ → ℕ → X86Step × X86 = λ a w. (steps.Moved, record x { at = x.at + 7; memory = write x.memory a w }) in
          let does : x86_outcome x (x.at + 7) (Store AREA (slot r) RAX) ≡ (steps.Moved, y) =
          ap (λ t. cond t (stored (disp_address x AREA (slot r)) (slice_index x.regs 0)) (steps.Stuck, x)) may
          ∙ ap (λ a. stored a (slice_index x.regs 0)) address ∙ ap (stored slot_r) rax in
          let ran : Runs (Store AREA (slot r) RAX ∷ []) x y = then-run (Store AREA (slot r) RAX) [] x y y does refl (none-run y) in
          record { end = y; runs = ran.runs; at = ran.at; agrees = kept-in-slot s r word state low x (x.at + 7) below lent agrees e }

      -- the Alpha state after the register got the word
      abbrev written : State
      written = record s { index = s.index + 1; regs = write_reg s.regs r word }

      kept : r < 32 → EndsInAgreement p call (keep p r) x written
      kept h = elim (cases_eq r 31) [
        | inl e ↦
            let none : EndsInAgreement p call [] x (record s { index = s.index + 1 }) =
            record { end = x; runs = refl; at = omega arith; agrees = agrees-index s (s.index + 1) x agrees } in
            subst (λ k. EndsInAgreement p call (keep p k) x (record s { index = s.index + 1; regs = write_reg s.regs k word })) (sym e) none
        | inr n ↦
            let other_r : eqb r 31 ≡ false = ne_eqb r 31 n in
            subst (λ b. EndsInAgreement p call (cond b [] (keep_place (place_at p r) r RAX)) x
            (record s { index = s.index + 1; regs = cond b s.regs (slice_set s.regs r word) })) (sym other_r)
            (kept-place (place_at p r) (omega (arith, h, n)) refl)
      ]

  -- ---- a result in its place

  -- a word in its register, or in rax, and then in the place of its Alpha register
  pub given : (code : List X86Insn) (s : State) (r work word : ℕ) (x : X86) → IsState s → IsLent call s.rights → Agrees p call s x → r < 32 → word < 2 ^ 64 →
      IsWork r work → Gives work code x word →
      EndsInAgreement p call (code ++ settle p r work) x (record s { index = s.index + 1; regs = write_reg s.regs r word })
  given code s r work word x state lent agrees h below works g = elim works [
    | inl zero ↦
        let same : SameBut x g.end =
        record {
          machine = g.same.machine;
          memory = g.same.memory;
          rights = g.same.rights;
          others = λ q high. g.same.others q high (λ e. omega (arith, high, zero, e));
        } in
        let k = kept s r word g.end state lent below (agrees-same p call s x g.end places agrees same) (ap (slice_index g.end.regs) (sym zero) ∙ g.brings) h in
        let rest : Runs (keep p r) g.end k.end = record { runs = k.runs; at = k.at } in
        let ran : Runs (code ++ keep p r) x k.end = both-run code (keep p r) x g.end k.end g.runs rest in
        let away : is_in (operand_place p r) work ≡ false = ap (is_in (operand_place p r)) zero ∙ not-in r 0 refl in
        subst (λ b. EndsInAgreement p call (code ++ cond b [] (keep p r)) x (record s { index = s.index + 1; regs = write_reg s.regs r word })) (sym away)
        (record { end = k.end; runs = ran.runs; at = ran.at; agrees = k.agrees })
    | inr at_r ↦
        let i = place-is r work at_r in
        let there : is_in (operand_place p r) work ≡ true = is-in (operand_place p r) work at_r in
        let y : X86 = g.end in
        let u : X86 = wrote x y.at x.flags work word in
        let low : r < 31 = let n = i.0 in omega (arith, h, n) in
        let u-agrees = kept-in-register s r word state low x y.at work below agrees i.1 in
        let u-reads : slice_index u.regs work ≡ word = wrote-reads x y.at x.flags work word agrees.machine (free-below work (place-free r work at_r)) in
        let same : SameBut u y = record {
          machine = g.same.machine;
          memory = g.same.memory;
          rights = g.same.rights;
          others = λ q high. elim (cases_eq q work) [
            | inl e ↦ ap (slice_index y.regs) e ∙ g.brings ∙ sym u-reads ∙ ap (slice_index u.regs) (sym e)
            | inr n ↦ g.same.others q high n ∙ sym (wrote-other x y.at x.flags work word q n)
          ];
        } in
        let other_r : eqb r 31 ≡ false = ne_eqb r 31 i.0 in
        let t : State = record s { index = s.index + 1; regs = slice_set s.regs r word } in
        let ran : Runs (code ++ []) x y = both-run code [] x y y g.runs (none-run y) in
        let ends : EndsInAgreement p call (code ++ []) x t =
        record { end = y; runs = ran.runs; at = ran.at; agrees = agrees-same p call t u y places u-agrees same } in
        subst (λ b. EndsInAgreement p call (code ++ settle p r work) x (record s { index = s.index + 1; regs = cond b s.regs (slice_set s.regs r word) }))
        (sym other_r)
        (subst (λ b. EndsInAgreement p call (code ++ cond b [] (keep p r)) x t) (sym there) ends)
  ]

  -- ---- words

  module _ (s : State) (x : X86) (state : IsState s) (lent : IsLent call s.rights) (agrees : Agrees p call s x) where
    -- a register's word in a temporary
    abbrev pub with_reg : ℕ → ℕ → X86
    with_reg r to = wrote x (x.at + length_of (fetch p r to)) x.flags to (read_reg s.regs r)

    pub reg-below : (r : ℕ) → read_reg s.regs r < 2 ^ 64
    reg-below r = read_reg-below s.regs r state.regs

    pub with-same : (r to : ℕ) → to < 2 → SameBut x (with_reg r to)
    with-same r to low = wrote-same x (x.at + length_of (fetch p r to)) x.flags to (read_reg s.regs r) agrees.machine low (reg-below r)

    pub with-agrees : (r to : ℕ) → to < 2 → Agrees p call s (with_reg r to)
    with-agrees r to low = agrees-same p call s x (with_reg r to) places agrees (with-same r to low)

    pub with-reads : (r to : ℕ) → to < 16 → slice_index (with_reg r to).regs to ≡ read_reg s.regs r
    with-reads r to low = wrote-reads x (x.at + length_of (fetch p r to)) x.flags to (read_reg s.regs r) agrees.machine low

    pub rhs-below : (rhs : Rhs) → IsRhs rhs → rhs_word s.regs rhs < 2 ^ 64
    rhs-below (Reg r) h = reg-below r
    rhs-below (Lit n) h = omega (arith, h)

    -- ---- operands where they are

    -- an Alpha register that is in a register of the processor has its word there
    pub held : (r q : ℕ) → is_in (operand_place p r) q ≡ true → slice_index x.regs q ≡ read_reg s.regs r
    held r q h =
        let i = place-is r q (in-is (operand_place p r) q h) in
        agrees.in_register r q i.1 ∙ sym (ap (λ b. cond b 0 (slice_index s.regs r)) (ne_eqb r 31 i.0))

    -- a word comes into a register, and nothing else changes
    pub bring : (r to : ℕ) → IsSomewhere p r → to < 16 → Brings (brought p r to) to to (read_reg s.regs r) x
    bring r to h low = elim (cases_Bool (is_in (operand_place p r) to)) [
      | inl there ↦
          subst (λ b. Brings (cond b [] (fetch p r to ∷ [])) to to (read_reg s.regs r) x) (sym there)
          (record { end = x; runs = none-run x; only = only-none to x agrees.machine; has = held r to there })
      | inr away ↦
          let y : X86 = with_reg r to in
          let ran : Runs (fetch p r to ∷ []) x y =
          then-run (fetch p r to) [] x y y (fetched s x lent agrees r to (x.at + length_of (fetch p r to)) h) refl (none-run y) in
          subst (λ b. Brings (cond b [] (fetch p r to ∷ [])) to to (read_reg s.regs r) x) (sym away) (record {
            end = y;
            runs = ran;
            only = only-wrote x (x.at + length_of (fetch p r to)) x.flags to (read_reg s.regs r) agrees.machine (reg-below r);
            has = with-reads r to low;
          })
    ]

    -- or to where it is read
    pub readied : (r temp : ℕ) → IsSomewhere p r → temp < 2 → Brings (ready p r temp) temp (source p r temp) (read_reg s.regs r) x
    readied r temp h low = elim (cases_Bool (is_in (operand_place p r) (source p r temp))) [
      | inl there ↦
          subst (λ b. Brings (cond b [] (fetch p r (source p r temp) ∷ [])) temp (source p r temp) (read_reg s.regs r) x) (sym there)
          (record { end = x; runs = none-run x; only = only-none temp x agrees.machine; has = held r (source p r temp) there })
      | inr away ↦
          let same : temp ≡ source p r temp = sym (source-away (operand_place p r) temp away) in
          subst (λ q. Brings (brought p r q) temp q (read_reg s.regs r) x) same (bring r temp h (omega (arith, low)))
    ]
