-- A step of the Alpha machine, from its state and from one that is the same but for registers that are dead.
use Rattle.std.proofs.Common.{◌≡◌, ◌≢◌, ◌⊎◌, ℕ, ℤ, suc, ◌+◌, ◌%◌, ◌^◌, ◌==◌, Bool, true, false, cond, List, length, slice_index, slice_set, Option, Some, None}
use Rattle.std.proofs.Common.{refl, sym, ap, ◌∙◌, arith, inl, inr, length-set}
use Rattle.std.proofs.lemmas.Bool.{cases_eq, cases_lt, ne_eqb, eq-eqb}
use Rattle.std.proofs.lemmas.List.{get_or-set_same, get_or-set_other, get_or_past}
use Rattle.std.specs.Int.{cast_unsigned, w64}
use Rattle.std.proofs.lemmas.Option.{same_Some}
use Rattle.word_ops.specs.Memory.{read, write}
use Rattle.word_ops.specs.Rights.{Rights, allowed}
use Rattle.word_ops.specs.Registers.{read_reg, write_reg}
use Rattle.word_ops.specs.Words.{word_of}
use Rattle.alpha_words.specs.declared.insn.Rhs.{Rhs}
use Rattle.alpha_words.specs.declared.insn.Rhs.TheVariants.{Reg, Lit}
use Rattle.alpha_cfg.specs.declared.outcome.Kind.{Kind}
use Rattle.alpha_cfg.specs.declared.outcome.Kind.TheVariants as kinds
use Rattle.alpha_cfg.specs.declared.outcome.Step.{Step}
use Rattle.alpha_cfg.specs.declared.outcome.Step.TheVariants as moves
use Rattle.alpha_cfg.specs.Actions.{Computed, Sum, Applied, Test, Always, When, Action, next_after}
use Rattle.alpha_cfg.specs.Actions as actions
use Rattle.alpha_cfg.specs.Machine.{State, IsState, rhs_word, address_of, aligned, takes, passes, access_outcome, state_at, word_computed}
use Rattle.alpha_cfg.specs.Machine.{action_outcome}
use Rattle.native_code.specs.Lives.{Lean, IsLive, RhsIsLive, ReadsLive, written}
use Rattle.native_code.specs.Calls.{IsSeen}

-- ---- registers

-- the same word is written into registers that are the same, but for the one that is written
write-same : (a b : List ℕ) (to word r : ℕ) → length a ≡ 31 → length b ≡ 31 → (r ≢ to → slice_index a r ≡ slice_index b r) →
    slice_index (write_reg a to word) r ≡ slice_index (write_reg b to word) r
write-same a b to word r a-count b-count same = elim (cases_eq to 31) [
  | inl e ↦
      let left : slice_index (write_reg a to word) r ≡ slice_index a r = ap (λ c. slice_index (cond c a (slice_set a to word)) r) (eq-eqb to 31 e) in
      let right : slice_index (write_reg b to word) r ≡ slice_index b r = ap (λ c. slice_index (cond c b (slice_set b to word)) r) (eq-eqb to 31 e) in
      elim (cases_eq r to) [
        | inl here ↦
            left ∙ get_or_past a r 0 (omega (arith, a-count, here, e)) ∙ sym (get_or_past b r 0 (omega (arith, b-count, here, e))) ∙ sym right
        | inr other ↦ left ∙ same other ∙ sym right
      ]
  | inr n ↦
      let left : slice_index (write_reg a to word) r ≡ slice_index (slice_set a to word) r =
      ap (λ c. slice_index (cond c a (slice_set a to word)) r) (ne_eqb to 31 n) in
      let right : slice_index (write_reg b to word) r ≡ slice_index (slice_set b to word) r =
      ap (λ c. slice_index (cond c b (slice_set b to word)) r) (ne_eqb to 31 n) in
      elim (cases_eq r to) [
        | inl here ↦ elim (cases_lt to 31) [
          | inl low ↦
              left ∙ ap (slice_index (slice_set a to word)) here ∙ get_or-set_same a to word 0 (omega (arith, low, a-count))
              ∙ sym (get_or-set_same b to word 0 (omega (arith, low, b-count))) ∙ ap (slice_index (slice_set b to word)) (sym here) ∙ sym right
          | inr high ↦
              let m = length-set a to word in
              let k = length-set b to word in
              left ∙ get_or_past (slice_set a to word) r 0 (omega (arith, a-count, here, high, m))
              ∙ sym (get_or_past (slice_set b to word) r 0 (omega (arith, b-count, here, high, k))) ∙ sym right
        ]
        | inr other ↦
            left ∙ get_or-set_other a to r word 0 other ∙ same other ∙ sym (get_or-set_other b to r word 0 other) ∙ sym right
      ]
]

-- the other registers stay
write-other : (a : List ℕ) (to word r : ℕ) → r ≢ to → slice_index (write_reg a to word) r ≡ slice_index a r
write-other a to word r other = elim (cases_eq to 31) [
  | inl e ↦ ap (λ c. slice_index (cond c a (slice_set a to word)) r) (eq-eqb to 31 e)
  | inr n ↦ ap (λ c. slice_index (cond c a (slice_set a to word)) r) (ne_eqb to 31 n) ∙ get_or-set_other a to r word 0 other
]

-- ---- what an access does that isn't blocked

pub record Accessed (may : Bool) (u : State) (q : Step × State) : Type 0 where
  pub may_be : may ≡ true
  pub is : u ≡ q.1

accessed : (kind : Kind) (may : Bool) (a : ℕ) (s u t : State) → access_outcome kind may a s u ≡ (moves.Moved, t) → Accessed may u (moves.Moved, t)
accessed kind true a s u t e = record { may_be = refl; is = ap (λ (q : Step × State). q.1) e }
accessed kind false a s u t e = let wrong : moves.Blocked s.index kind a ≡ moves.Moved = ap (λ (q : Step × State). q.0) e in absurd cc

module _ (lean : Lean) (s seen : State) (same : IsSeen lean s seen) (state : IsState s) where
  -- ---- what is read is the same

  read-live : (r : ℕ) → IsLive lean s.index r → read_reg seen.regs r ≡ read_reg s.regs r
  read-live r (inl e) =
      ap (λ c. cond c 0 (slice_index seen.regs r)) (eq-eqb r 31 e) ∙ sym (ap (λ c. cond c 0 (slice_index s.regs r)) (eq-eqb r 31 e))
  read-live r (inr h) = ap (λ w. cond (r == 31) 0 w) (same.live r h)

  rhs-live : (right : Rhs) → RhsIsLive lean s.index right → rhs_word seen.regs right ≡ rhs_word s.regs right
  rhs-live (Reg r) h = read-live r h
  rhs-live (Lit n) h = refl

  address-live : (base : ℕ) (disp : ℤ) → IsLive lean s.index base → address_of seen.regs base disp ≡ address_of s.regs base disp
  address-live base disp h = ap (λ w. (w + cast_unsigned w64 disp) % 2 ^ 64) (read-live base h)

  pub computed-live : (to : ℕ) (word : Computed) → ReadsLive lean s.index (actions.Compute to word) →
      word_computed seen.regs word ≡ word_computed s.regs word
  computed-live to (Sum base disp) h = address-live base disp h
  computed-live to (Applied op left right) h =
      ap (λ w. word_of op w (rhs_word seen.regs right)) (read-live left h.0) ∙ ap (word_of op (read_reg s.regs left)) (rhs-live right h.1)

  passes-live : (test : Test) → ReadsLive lean s.index (actions.Branching test) → passes seen.regs test ≡ passes s.regs test
  passes-live Always h = refl
  passes-live (When c r) h = ap (takes c) (read-live r h)

  -- the word of a return
  pub return-live : ReadsLive lean s.index actions.Return → slice_index seen.regs 0 ≡ slice_index s.regs 0
  return-live (inl wrong) = absurd (omega (arith, wrong))
  return-live (inr h) = same.live 0 h

  -- ---- the same step

  -- what is live after the step, and isn't written, is live before
  abbrev pub Flows : Action → State → Type 0
  Flows e t = (r : ℕ) → lean.live t.index r ≡ true → (written e ≡ Some r) ⊎ (lean.live s.index r ≡ true)

  -- the other state moves too
  pub record MovesSo (e : Action) (jump : Option ℕ) (t : State) : Type 0 where
    pub then_seen : State
    pub moved : action_outcome e jump seen ≡ (moves.Moved, then_seen)
    pub index : then_seen.index ≡ t.index
    pub memory : then_seen.memory ≡ t.memory
    pub rights : then_seen.rights ≡ t.rights
    pub live : (r : ℕ) → lean.live t.index r ≡ true → slice_index then_seen.regs r ≡ slice_index t.regs r

  next-index : seen.index + 1 ≡ s.index + 1
  next-index = ap (λ n. n + 1) same.index

  -- a register gets the same word in both
  write-live : (e : Action) (to word r : ℕ) (t : State) → Flows e t → written e ≡ Some to → lean.live t.index r ≡ true →
      slice_index (write_reg seen.regs to word) r ≡ slice_index (write_reg s.regs to word) r
  write-live e to word r t flows writes live =
      write-same seen.regs s.regs to word r same.state.regs.count state.regs.count
      (λ other. elim (flows r live) [
        | inl w ↦ absurd (other (same_Some r to (sym w ∙ writes)))
        | inr h ↦ same.live r h
      ])

  -- by a load of the same word
  load-so : (e : Action) (jump : Option ℕ) (to a b : ℕ) (t : State) → Flows e t → written e ≡ Some to → b ≡ a →
      action_outcome e jump seen
      ≡ access_outcome kinds.Load (allowed seen.rights.reads b) b seen
      (record seen { index = seen.index + 1; regs = write_reg seen.regs to (read seen.memory b) }) →
      access_outcome kinds.Load (allowed s.rights.reads a) a s (record s { index = s.index + 1; regs = write_reg s.regs to (read s.memory a) })
      ≡ (moves.Moved, t) →
      MovesSo e jump t
  load-so e jump to a b t flows writes at is moved =
      let u : State = record s { index = s.index + 1; regs = write_reg s.regs to (read s.memory a) } in
      let v : State = record seen { index = seen.index + 1; regs = write_reg seen.regs to (read seen.memory b) } in
      let w = accessed kinds.Load (allowed s.rights.reads a) a s u t moved in
      let may : allowed seen.rights.reads b ≡ true = ap (λ (g : Rights). allowed g.reads b) same.rights ∙ ap (allowed s.rights.reads) at ∙ w.may_be in
      let word : read seen.memory b ≡ read s.memory a = ap (λ m. read m b) same.memory ∙ ap (read s.memory) at in
      record {
        then_seen = v;
        moved = is ∙ ap (λ c. access_outcome kinds.Load c b seen v) may;
        index = next-index ∙ ap (λ (q : State). q.index) w.is;
        memory = same.memory ∙ ap (λ (q : State). q.memory) w.is;
        rights = same.rights ∙ ap (λ (q : State). q.rights) w.is;
        live = λ r live.
            ap (λ k. slice_index (write_reg seen.regs to k) r) word ∙ write-live e to (read s.memory a) r t flows writes live
            ∙ ap (λ (q : State). slice_index q.regs r) w.is;
      }

  -- by a branch
  branch-so : (test : Test) (jump : Option ℕ) (t : State) (o : Option ℕ) → Flows (actions.Branching test) t →
      action_outcome (actions.Branching test) jump seen ≡ (moves.Moved, state_at seen o) → state_at s o ≡ t → MovesSo (actions.Branching test) jump t
  branch-so test jump t None flows moved is = record {
    then_seen = seen;
    moved = moved;
    index = same.index ∙ ap (λ (q : State). q.index) is;
    memory = same.memory ∙ ap (λ (q : State). q.memory) is;
    rights = same.rights ∙ ap (λ (q : State). q.rights) is;
    live = λ r live. same.live r (ap (λ (q : State). lean.live q.index r) is ∙ live) ∙ ap (λ (q : State). slice_index q.regs r) is;
  }
  branch-so test jump t (Some j) flows moved is = record {
    then_seen = record seen { index = j };
    moved = moved;
    index = ap (λ (q : State). q.index) is;
    memory = same.memory ∙ ap (λ (q : State). q.memory) is;
    rights = same.rights ∙ ap (λ (q : State). q.rights) is;
    live = λ r live. elim (flows r live) [
      | inl wrong ↦ absurd cc
      | inr h ↦ same.live r h ∙ ap (λ (q : State). slice_index q.regs r) is
    ];
  }

  pub moves-so : (e : Action) (jump : Option ℕ) (t : State) → ReadsLive lean s.index e → Flows e t → action_outcome e jump s ≡ (moves.Moved, t) →
      MovesSo e jump t
  moves-so (actions.Compute to word) jump t reads flows moved =
      let k : ℕ = word_computed s.regs word in
      let u : State = record s { index = s.index + 1; regs = write_reg s.regs to k } in
      let v : State = record seen { index = seen.index + 1; regs = write_reg seen.regs to (word_computed seen.regs word) } in
      let is : u ≡ t = ap (λ (q : Step × State). q.1) moved in
      record {
        then_seen = v;
        moved = refl;
        index = next-index ∙ ap (λ (q : State). q.index) is;
        memory = same.memory ∙ ap (λ (q : State). q.memory) is;
        rights = same.rights ∙ ap (λ (q : State). q.rights) is;
        live = λ r live.
            ap (λ w. slice_index (write_reg seen.regs to w) r) (computed-live to word reads)
            ∙ write-live (actions.Compute to word) to k r t flows refl live ∙ ap (λ (q : State). slice_index q.regs r) is;
      }
  moves-so (actions.Load to base disp) jump t reads flows moved =
      load-so (actions.Load to base disp) jump to (address_of s.regs base disp) (address_of seen.regs base disp) t flows refl
      (address-live base disp reads) refl moved
  moves-so (actions.LoadAround to base disp) jump t reads flows moved =
      load-so (actions.LoadAround to base disp) jump to (aligned (address_of s.regs base disp)) (aligned (address_of seen.regs base disp)) t flows refl
      (ap aligned (address-live base disp reads)) refl moved
  moves-so (actions.Store from base disp) jump t reads flows moved =
      let a : ℕ = address_of s.regs base disp in
      let b : ℕ = address_of seen.regs base disp in
      let at : b ≡ a = address-live base disp reads.1 in
      let u : State = record s { index = s.index + 1; memory = write s.memory a (read_reg s.regs from) } in
      let v : State = record seen { index = seen.index + 1; memory = write seen.memory b (read_reg seen.regs from) } in
      let w = accessed kinds.Store (allowed s.rights.writes a) a s u t moved in
      let may : allowed seen.rights.writes b ≡ true = ap (λ (g : Rights). allowed g.writes b) same.rights ∙ ap (allowed s.rights.writes) at ∙ w.may_be in
      let stored : write seen.memory b (read_reg seen.regs from) ≡ write s.memory a (read_reg s.regs from) =
      ap (λ m. write m b (read_reg seen.regs from)) same.memory ∙ ap (λ n. write s.memory n (read_reg seen.regs from)) at
      ∙ ap (write s.memory a) (read-live from reads.0) in
      record {
        then_seen = v;
        moved = ap (λ c. access_outcome kinds.Store c b seen v) may;
        index = next-index ∙ ap (λ (q : State). q.index) w.is;
        memory = stored ∙ ap (λ (q : State). q.memory) w.is;
        rights = same.rights ∙ ap (λ (q : State). q.rights) w.is;
        live = λ r live. elim (flows r live) [
          | inl wrong ↦ absurd cc
          | inr h ↦ same.live r h ∙ ap (λ (q : State). slice_index q.regs r) w.is
        ];
      }
  moves-so (actions.Branching test) jump t reads flows moved =
      let o : Option ℕ = cond (passes s.regs test) jump (Some (s.index + 1)) in
      let to : cond (passes seen.regs test) jump (Some (seen.index + 1)) ≡ o =
      ap (λ c. cond c jump (Some (seen.index + 1))) (passes-live test reads) ∙ ap (λ n. cond (passes s.regs test) jump (Some n)) next-index in
      branch-so test jump t o flows (ap (λ (k : Option ℕ). (moves.Moved, state_at seen k)) to) (ap (λ (q : Step × State). q.1) moved)
  moves-so actions.Return jump t reads flows moved = let wrong : moves.Returned ≡ moves.Moved = ap (λ (q : Step × State). q.0) moved in absurd cc

  -- ---- a step that is left out

  -- what the step changed is dead after it
  pub record OnlyDead (t : State) : Type 0 where
    pub memory : s.memory ≡ t.memory
    pub rights : s.rights ≡ t.rights
    pub regs : (r : ℕ) → lean.live t.index r ≡ true → (lean.live s.index r ≡ true) × (slice_index s.regs r ≡ slice_index t.regs r)

  -- the other state stays, at the next index
  pub seen-on : (t : State) → OnlyDead t → IsSeen lean t (record seen { index = t.index })
  seen-on t only = record {
    index = refl;
    memory = same.memory ∙ only.memory;
    rights = same.rights ∙ only.rights;
    state = record { regs = same.state.regs; memory = same.state.memory; rights = same.state.rights };
    live = λ r live. let h = only.regs r live in same.live r h.0 ∙ h.1;
  }

  -- a branch changes no register
  pub branch-only : (test : Test) (j : ℕ) (t : State) → Flows (actions.Branching test) t → t ≡ record s { index = j } → OnlyDead t
  branch-only test j t flows is = record {
    memory = ap (λ (q : State). q.memory) (sym is);
    rights = ap (λ (q : State). q.rights) (sym is);
    regs = λ r live. elim (flows r live) [
      | inl wrong ↦ absurd cc
      | inr h ↦ (h, ap (λ (q : State). slice_index q.regs r) (sym is))
    ];
  }

  -- a register that is dead got a word
  dead-write : (e : Action) (to word : ℕ) (t : State) → Flows e t → written e ≡ Some to → lean.live (suc s.index) to ≡ false →
      record s { index = s.index + 1; regs = write_reg s.regs to word } ≡ t →
      (t.index ≡ suc s.index) × OnlyDead t
  dead-write e to word t flows writes dead is =
      let next : t.index ≡ suc s.index = let n = ap (λ (q : State). q.index) is in omega (arith, n) in
      let other : (r : ℕ) → lean.live t.index r ≡ true → r ≢ to =
      λ r live same_reg.
      let wrong : true ≡ false = sym live ∙ ap (λ n. lean.live n r) next ∙ ap (lean.live (suc s.index)) same_reg ∙ dead in absurd cc in (
        next,
        record {
          memory = ap (λ (q : State). q.memory) is;
          rights = ap (λ (q : State). q.rights) is;
          regs = λ r live. elim (flows r live) [
            | inl w ↦ absurd (other r live (same_Some r to (sym w ∙ writes)))
            | inr h ↦ (h, sym (write-other s.regs to word r (other r live)) ∙ ap (λ (q : State). slice_index q.regs r) is)
          ];
        },
      )

  pub write-only : (e : Action) (jump : Option ℕ) (to : ℕ) (t : State) → Flows e t → written e ≡ Some to → lean.live (suc s.index) to ≡ false →
      action_outcome e jump s ≡ (moves.Moved, t) →
      (t.index ≡ suc s.index) × OnlyDead t
  write-only (actions.Compute to word) jump r t flows writes dead moved =
      let here : to ≡ r = same_Some to r writes in
      dead-write (actions.Compute to word) to (word_computed s.regs word) t flows refl (ap (lean.live (suc s.index)) here ∙ dead)
      (ap (λ (q : Step × State). q.1) moved)
  write-only (actions.Load to base disp) jump r t flows writes dead moved =
      let here : to ≡ r = same_Some to r writes in
      let a : ℕ = address_of s.regs base disp in
      let u : State = record s { index = s.index + 1; regs = write_reg s.regs to (read s.memory a) } in
      let w = accessed kinds.Load (allowed s.rights.reads a) a s u t moved in
      dead-write (actions.Load to base disp) to (read s.memory a) t flows refl (ap (lean.live (suc s.index)) here ∙ dead) w.is
  write-only (actions.LoadAround to base disp) jump r t flows writes dead moved =
      let here : to ≡ r = same_Some to r writes in
      let a : ℕ = aligned (address_of s.regs base disp) in
      let u : State = record s { index = s.index + 1; regs = write_reg s.regs to (read s.memory a) } in
      let w = accessed kinds.Load (allowed s.rights.reads a) a s u t moved in
      dead-write (actions.LoadAround to base disp) to (read s.memory a) t flows refl (ap (lean.live (suc s.index)) here ∙ dead) w.is
  write-only (actions.Store from base disp) jump r t flows writes dead moved = absurd cc
  write-only (actions.Branching test) jump r t flows writes dead moved = absurd cc
  write-only actions.Return jump r t flows writes dead moved = absurd cc

-- ---- where a step leads

-- the next index, or where the code jumps to
abbrev pub Leads : ℕ → Action → Option ℕ → ℕ → Type 0
Leads i e jump j = (next_after i e ≡ Some j) ⊎ (jump ≡ Some j)

branch-leads : (test : Test) (jump : Option ℕ) (b : Bool) (i : ℕ) (s t : State) → (jump ≡ None → ⊥) →
    (b ≡ false → next_after i (actions.Branching test) ≡ Some (i + 1)) → state_at s (cond b jump (Some (i + 1))) ≡ t →
    Leads i (actions.Branching test) jump t.index
branch-leads test None true i s t lands next is = absurd (lands refl)
branch-leads test (Some k) true i s t lands next is = inr (ap (λ (q : State). Some q.index) is)
branch-leads test jump false i s t lands next is = inl (next refl ∙ ap (λ (q : State). Some q.index) is)

untaken : (test : Test) (regs : List ℕ) (i : ℕ) → passes regs test ≡ false → next_after i (actions.Branching test) ≡ Some (i + 1)
untaken Always regs i e = absurd cc
untaken (When c r) regs i e = refl

module _ (s t : State) where
  access-leads : (kind : Kind) (may : Bool) (a : ℕ) (u : State) → u.index ≡ s.index + 1 → access_outcome kind may a s u ≡ (moves.Moved, t) →
      Some (s.index + 1) ≡ Some t.index
  access-leads kind may a u n e = let w = accessed kind may a s u t e in ap Some (sym n ∙ ap (λ (q : State). q.index) w.is)

  pub leads : (e : Action) (jump : Option ℕ) → ((test : Test) → e ≡ actions.Branching test → jump ≡ None → ⊥) →
      action_outcome e jump s ≡ (moves.Moved, t) →
      Leads s.index e jump t.index
  leads (actions.Compute to word) jump lands moved = inl (ap (λ (q : Step × State). Some q.1.index) moved)
  leads (actions.Load to base disp) jump lands moved =
      let a : ℕ = address_of s.regs base disp in
      inl (access-leads kinds.Load (allowed s.rights.reads a) a
      (record s { index = s.index + 1; regs = write_reg s.regs to (read s.memory a) }) refl moved)
  leads (actions.LoadAround to base disp) jump lands moved =
      let a : ℕ = aligned (address_of s.regs base disp) in
      inl (access-leads kinds.Load (allowed s.rights.reads a) a
      (record s { index = s.index + 1; regs = write_reg s.regs to (read s.memory a) }) refl moved)
  leads (actions.Store from base disp) jump lands moved =
      let a : ℕ = address_of s.regs base disp in
      inl (access-leads kinds.Store (allowed s.rights.writes a) a
      (record s { index = s.index + 1; memory = write s.memory a (read_reg s.regs from) }) refl moved)
  leads (actions.Branching test) jump lands moved =
      branch-leads test jump (passes s.regs test) s.index s t (lands test refl) (untaken test s.regs s.index) (ap (λ (q : Step × State). q.1) moved)
  leads actions.Return jump lands moved = let wrong : moves.Returned ≡ moves.Moved = ap (λ (q : Step × State). q.0) moved in absurd cc

-- ---- only a return returns, and it changes nothing

module _ (s : State) where
  access-stays : (kind : Kind) (may : Bool) (a : ℕ) (u v : State) → access_outcome kind may a s u ≡ (moves.Returned, v) → ⊥
  access-stays kind true a u v e = let wrong : moves.Moved ≡ moves.Returned = ap (λ (q : Step × State). q.0) e in absurd cc
  access-stays kind false a u v e = let wrong : moves.Blocked s.index kind a ≡ moves.Returned = ap (λ (q : Step × State). q.0) e in absurd cc

  pub returned : (e : Action) (jump : Option ℕ) (v : State) → action_outcome e jump s ≡ (moves.Returned, v) → (e ≡ actions.Return) × (v ≡ s)
  returned (actions.Compute to word) jump v e = let wrong : moves.Moved ≡ moves.Returned = ap (λ (q : Step × State). q.0) e in absurd cc
  returned (actions.Load to base disp) jump v e =
      let a : ℕ = address_of s.regs base disp in
      absurd (access-stays kinds.Load (allowed s.rights.reads a) a
      (record s { index = s.index + 1; regs = write_reg s.regs to (read s.memory a) }) v e)
  returned (actions.LoadAround to base disp) jump v e =
      let a : ℕ = aligned (address_of s.regs base disp) in
      absurd (access-stays kinds.Load (allowed s.rights.reads a) a
      (record s { index = s.index + 1; regs = write_reg s.regs to (read s.memory a) }) v e)
  returned (actions.Store from base disp) jump v e =
      let a : ℕ = address_of s.regs base disp in
      absurd (access-stays kinds.Store (allowed s.rights.writes a) a
      (record s { index = s.index + 1; memory = write s.memory a (read_reg s.regs from) }) v e)
  returned (actions.Branching test) jump v e = let wrong : moves.Moved ≡ moves.Returned = ap (λ (q : Step × State). q.0) e in absurd cc
  returned actions.Return jump v e = (refl, ap (λ (q : Step × State). q.1) (sym e))
