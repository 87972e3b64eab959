-- The sequence of an instruction does what the instruction does, and that of a test decides the branch.
use Rattle.std.proofs.Common.{◌≡◌, ℕ, ◌+◌, ◌-◌, ◌*◌, ◌/◌, ◌%◌, ◌^◌, ◌<◌, Bool, true, false, not, List, [], ◌∷◌, ◌++◌, ◌≢◌}
use Rattle.std.proofs.Common.{slice_index, Option, Some, None, ℤ, pos, negsuc, refl, sym, ap, ◌∙◌, subst, arith, inl, inr, cond, if◌then◌else◌}
use Rattle.std.proofs.lemmas.Bool.{cases_eq}
use Rattle.std.proofs.lemmas.Nat.{mod_below}
use Rattle.std.proofs.lemmas.Nat.Bits.{and_high_mask}
use Rattle.word_ops.specs.declared.Op.TheVariants as ops
use Rattle.word_ops.specs.Memory.{read, write}
use Rattle.word_ops.specs.Rights.{Rights, allowed}
use Rattle.word_ops.specs.Registers.{read_reg, write_reg}
use Rattle.word_ops.specs.Words.{word_of}
use Rattle.word_ops.proofs.EachOp.{word_of-below}
use Rattle.word_ops.proofs.Memories.{read-write_same, read-write_other, IsMemory-write, read-below}
use Rattle.alpha_words.specs.declared.memory.MemoryOp.{MemoryOp}
use Rattle.alpha_words.specs.declared.memory.MemoryOp.TheVariants.{Lda, Ldah, Ldq, LdqU, Stq}
use Rattle.alpha_words.specs.declared.conditions.Cond.{Cond}
use Rattle.alpha_words.specs.declared.conditions.Cond.TheVariants.{LowClear, Zero, Negative, NotPositive, LowSet, NotZero, NotNegative, Positive}
use Rattle.alpha_words.specs.declared.insn.Format.{Format}
use Rattle.alpha_words.specs.declared.insn.Format.TheVariants as F
use Rattle.alpha_words.specs.Encoding.{EncodesFormat}
use Rattle.alpha_words.specs.Formats.{format_of}
use Rattle.alpha_cfg.specs.declared.outcome.Kind.{Kind}
use Rattle.alpha_cfg.specs.declared.outcome.Step.TheVariants as moves
use Rattle.alpha_cfg.specs.Actions.{Sum, Applied, Always, When, Action, action_of, format_action, memory_action, HasOperands}
use Rattle.alpha_cfg.specs.Actions as actions
use Rattle.alpha_cfg.specs.Flow.{jump_of}
use Rattle.alpha_cfg.specs.Machine.{State, IsState, rhs_word, address_of, aligned, word_computed, access_outcome, state_at, passes, action_outcome}
use Rattle.alpha_cfg.specs.Machine.{takes}
use Rattle.alpha_cfg.proofs.States.{action_of-operands}
use Rattle.x86_words.specs.declared.operators.AluOp.TheVariants as alu
use Rattle.x86_words.specs.declared.insn.X86Insn.{X86Insn}
use Rattle.x86_words.specs.declared.insn.X86Insn.TheVariants.{Load, Store, AluImm, Lea}
use Rattle.x86_words.specs.Encoding.{length_of}
use Rattle.x86_machine.specs.declared.flags.Flags.{Flags}
use Rattle.x86_machine.specs.declared.outcome.X86Step.{X86Step}
use Rattle.x86_machine.specs.declared.outcome.X86Step.TheVariants as steps
use Rattle.x86_machine.specs.Flags.{alu_flags, cond_holds, AfterTest}
use Rattle.x86_machine.specs.Machine.{X86, extended, disp_address, puts, x86_outcome}
use Rattle.x86_machine.proofs.Orders.{after_test}
use Rattle.native_steps.specs.Places.{Places, ArePlaces, IsSomewhere, is_somewhere, operand_place, slot_address, RAX, RCX}
use Rattle.native_steps.specs.Sequences.{ReadsPlaced, source, ready, target, work_reg, sum_code, op_code, load_code, load_around_code, test_code}
use Rattle.native_steps.specs.Sequences.{cond_test, branch_cond, action_code}
use Rattle.native_steps.specs.Agreement.{Call, area_span, IsLent, Agrees, EndsInAgreement, DecidesBranch, SimulatesInsn, Tests}
use Rattle.native_steps.proofs.Straights.{Runs, none-run, then-run, both-run}
use Rattle.native_steps.proofs.Frames.{wrote, SameBut, same-trans, to-same, wrote-same, wrote-reads, only-same, flags-same, agrees-same}
use Rattle.native_steps.proofs.Operators.{Gives, after-code, then-gives, last-gives}
use Rattle.native_steps.proofs.Operands.{outside, placed-below, allowed-on, agrees-index, given, reg-below, rhs-below, readied, source-apart, not-in}
use Rattle.native_steps.proofs.Operands.{work-below, target-works}
use Rattle.native_steps.proofs.Computing.{sum-gives, applied-gives, work-works, work-no-second}

-- an access that moved was allowed
access-moved : (kind : Kind) (may : Bool) (a : ℕ) (s u t : State) → access_outcome kind may a s u ≡ (moves.Moved, t) → (may ≡ true) × (u ≡ t)
access-moved kind true a s u t e = (refl, ap (λ q. q.1) e)
access-moved kind false a s u t e = let wrong : moves.Blocked s.index kind a ≡ moves.Moved = ap (λ q. q.0) e in (cc, cc)

-- the low three bits are cleared
mask-aligns : (v : ℕ) → v < 2 ^ 64 → word_of ops.Band v (extended (negsuc 7)) ≡ aligned v
mask-aligns v h = let masked : word_of ops.Band v (2 ^ 64 - 2 ^ 3) ≡ v / 2 ^ 3 * 2 ^ 3 = and_high_mask 64 3 (omega arith) v h in masked ∙ omega arith

no-more : (v : ℕ) → v < 2 ^ 64 → (v + extended (pos 0)) % 2 ^ 64 ≡ v
no-more v h = omega (arith, h)

-- the register that an action writes
abbrev pub WritesRegister : Action → Type 0
WritesRegister (actions.Compute to word) = to < 32
WritesRegister (actions.Load to base disp) = to < 32
WritesRegister (actions.LoadAround to base disp) = to < 32
WritesRegister _ = Unit {0}

module _ (p : Places) (call : Call) (places : ArePlaces p) (s : State) (x : X86) (state : IsState s) (lent : IsLent call s.rights)
    (agrees : Agrees p call s x)
  where
    below : (r : ℕ) → read_reg s.regs r < 2 ^ 64
    below = reg-below p call places s x state lent agrees

    -- ---- loads

    -- the Alpha state after a register got a word
    abbrev after : ℕ → ℕ → State
    after to word = record s { index = s.index + 1; regs = write_reg s.regs to word }

    -- the quadword at a register and a displacement
    load-gives : (work base : ℕ) (disp : ℤ) (v a : ℕ) (u : X86) → Agrees p call s u → work < 16 → slice_index u.regs base ≡ v →
        (v + extended disp) % 2 ^ 64 ≡ a → allowed s.rights.reads a ≡ true → Gives work (Load work base disp ∷ []) u (read s.memory a)
    load-gives work base disp v a u u-agrees low from e may =
        let address : disp_address u base disp ≡ a = ap (λ b. (b + extended disp) % 2 ^ 64) from ∙ e in
        let allows : allowed u.rights.reads (disp_address u base disp) ≡ true =
        ap (λ (g : Rights). allowed g.reads (disp_address u base disp)) u-agrees.rights
        ∙ ap (allowed (area_span call ∷ s.rights.reads)) address ∙ allowed-on p call places s.rights.reads a may in
        let word : read u.memory (disp_address u base disp) ≡ read s.memory a = ap (read u.memory) address ∙ u-agrees.memory a (lent.unread a may) in
        last-gives work (Load work base disp) u u.flags (read s.memory a) u-agrees.machine low (read-below s.memory a state.memory)
        (ap (λ t. cond t (puts u (u.at + 7) work (read u.memory (disp_address u base disp))) (steps.Stuck, u)) allows
        ∙ ap (λ w. (steps.Moved, wrote u (u.at + 7) u.flags work w)) word)

    load-comes : (base to : ℕ) (disp : ℤ) → IsSomewhere p base → to < 32 → allowed s.rights.reads (address_of s.regs base disp) ≡ true →
        EndsInAgreement p call (action_code p (actions.Load to base disp)) x (after to (read s.memory (address_of s.regs base disp)))
    load-comes base to disp h k may =
        let a : ℕ = address_of s.regs base disp in
        let work : ℕ = target p to in
        let works = target-works p call places to in
        let b = readied p call places s x state lent agrees base 1 h (omega arith) in
        let y-same : SameBut x b.end = only-same 1 x b.end (omega arith) b.only in
        given p call places (load_code p work base disp) s to work (read s.memory a) x state lent agrees k (read-below s.memory a state.memory) works
        (after-code work (ready p base RCX) (Load work (source p base RCX) disp ∷ []) x b.end (read s.memory a) b.runs (to-same work x b.end y-same)
        (load-gives work (source p base RCX) disp (read_reg s.regs base) a b.end (agrees-same p call s x b.end places agrees y-same)
        (work-below p call places to work works) b.has refl may))

    load_around-comes : (base to : ℕ) (disp : ℤ) → IsSomewhere p base → to < 32 → allowed s.rights.reads (aligned (address_of s.regs base disp)) ≡ true →
        EndsInAgreement p call (action_code p (actions.LoadAround to base disp)) x (after to (read s.memory (aligned (address_of s.regs base disp))))
    load_around-comes base to disp h k may =
        let a : ℕ = address_of s.regs base disp in
        let a-below : a < 2 ^ 64 = mod_below (read_reg s.regs base + extended disp) (2 ^ 64) (omega arith) in
        let word : ℕ = read s.memory (aligned a) in
        let work : ℕ = target p to in
        let works = target-works p call places to in
        let q : ℕ = source p base RCX in
        let b = readied p call places s x state lent agrees base 1 h (omega arith) in
        let y : X86 = b.end in
        let y-same : SameBut x y = only-same 1 x y (omega arith) b.only in
        let sum : ℕ = (slice_index y.regs q + extended disp) % 2 ^ 64 in
        let sum-is : sum ≡ a = ap (λ w. (w + extended disp) % 2 ^ 64) b.has in
        let sum-below : sum < 2 ^ 64 = mod_below (slice_index y.regs q + extended disp) (2 ^ 64) (omega arith) in
        let z : X86 = wrote y (y.at + 7) y.flags 1 sum in
        let z-same : SameBut y z = wrote-same y (y.at + 7) y.flags 1 sum y-same.machine (omega arith) sum-below in
        let z-reads : slice_index z.regs 1 ≡ sum = wrote-reads y (y.at + 7) y.flags 1 sum y-same.machine (omega arith) in
        let g : Option Flags = Some (alu_flags alu.And (slice_index z.regs 1) (extended (negsuc 7))) in
        let masked : ℕ = word_of ops.Band (slice_index z.regs 1) (extended (negsuc 7)) in
        let masked-below : masked < 2 ^ 64 =
        word_of-below ops.Band (slice_index z.regs 1) (extended (negsuc 7)) (z-same.machine.words 1) (omega arith) in
        let masked-is : masked ≡ aligned a = ap (λ w. word_of ops.Band w (extended (negsuc 7))) (z-reads ∙ sum-is) ∙ mask-aligns a a-below in
        let u : X86 = wrote z (z.at + 7) g 1 masked in
        let u-same : SameBut z u = wrote-same z (z.at + 7) g 1 masked z-same.machine (omega arith) masked-below in
        let u-reads : slice_index u.regs 1 ≡ masked = wrote-reads z (z.at + 7) g 1 masked z-same.machine (omega arith) in
        let u-agrees : Agrees p call s u = agrees-same p call s x u places agrees (same-trans x y u y-same (same-trans y z u z-same u-same)) in
        let last : List X86Insn = Load work RCX (pos 0) ∷ [] in
        given p call places (load_around_code p work base disp) s to work word x state lent agrees k (read-below s.memory (aligned a) state.memory) works
        (after-code work (ready p base RCX) (Lea RCX q disp ∷ AluImm alu.And RCX (negsuc 7) ∷ last) x y word b.runs (to-same work x y y-same)
        (then-gives work (Lea RCX q disp) (AluImm alu.And RCX (negsuc 7) ∷ last) y y.flags 1 sum word y-same.machine (omega arith) sum-below refl
        (then-gives work (AluImm alu.And RCX (negsuc 7)) last z g 1 masked word z-same.machine (omega arith) masked-below refl
        (load-gives work 1 (pos 0) masked (aligned a) u u-agrees (work-below p call places to work works) u-reads
        (no-more masked masked-below ∙ masked-is) may))))

    -- ---- a store

    store-comes : (from base : ℕ) (disp : ℤ) → IsSomewhere p from → IsSomewhere p base → allowed s.rights.writes (address_of s.regs base disp) ≡ true →
        EndsInAgreement p call (action_code p (actions.Store from base disp)) x
        (record s { index = s.index + 1; memory = write s.memory (address_of s.regs base disp) (read_reg s.regs from) })
    store-comes from base disp h k may =
        let a : ℕ = address_of s.regs base disp in
        let a-below : a < 2 ^ 64 = mod_below (read_reg s.regs base + extended disp) (2 ^ 64) (omega arith) in
        let word : ℕ = read_reg s.regs from in
        let q : ℕ = source p base RCX in
        let f : ℕ = source p from RAX in
        let store : X86Insn = Store q disp f in
        let first = readied p call places s x state lent agrees base 1 k (omega arith) in
        let y : X86 = first.end in
        let y-agrees : Agrees p call s y = agrees-same p call s x y places agrees (only-same 1 x y (omega arith) first.only) in
        let second = readied p call places s y state lent y-agrees from 0 h (omega arith) in
        let z : X86 = second.end in
        let z-agrees : Agrees p call s z = agrees-same p call s y z places y-agrees (only-same 0 y z (omega arith) second.only) in
        let q-apart : q ≢ 0 = source-apart (operand_place p base) 1 0 (not-in p call places base 0 refl) (λ e. omega (arith, e)) in
        let at_base : slice_index z.regs q ≡ read_reg s.regs base = second.only.others q q-apart ∙ first.has in
        let address : disp_address z q disp ≡ a = ap (λ b. (b + extended disp) % 2 ^ 64) at_base in
        let allows : allowed z.rights.writes (disp_address z q disp) ≡ true =
        ap (λ (g : Rights). allowed g.writes (disp_address z q disp)) z-agrees.rights
        ∙ ap (allowed (area_span call ∷ s.rights.writes)) address ∙ allowed-on p call places s.rights.writes a may in
        let stored : ℕ → ℕ → X86Step × X86 = λ b w. (steps.Moved, record z { at = z.at + 7; memory = write z.memory b w }) in
        let end : X86 = record z { at = z.at + 7; memory = write z.memory a word } in
        let does : x86_outcome z (z.at + 7) store ≡ (steps.Moved, end) =
        ap (λ t. cond t (stored (disp_address z q disp) (slice_index z.regs f)) (steps.Stuck, z)) allows
        ∙ ap (λ b. stored b (slice_index z.regs f)) address ∙ ap (stored a) second.has in
        let last : Runs (store ∷ []) z end = then-run store [] z end end does refl (none-run end) in
        let ran : Runs (action_code p (actions.Store from base disp)) x end =
        both-run (ready p base RCX) (ready p from RAX ++ store ∷ []) x y end first.runs
        (both-run (ready p from RAX) (store ∷ []) y z end second.runs last) in
        let clear = lent.unwritten a may in
        record {
          end = end;
          runs = ran.runs;
          at = ran.at;
          agrees = record {
            machine = record {
              count = z-agrees.machine.count;
              words = z-agrees.machine.words;
              memory = IsMemory-write z.memory a word z-agrees.machine.memory a-below (below from);
              rights = z-agrees.machine.rights;
            };
            rights = z-agrees.rights;
            area = z-agrees.area;
            fuel = z-agrees.fuel;
            in_register = z-agrees.in_register;
            in_slot = λ r at_r.
                read-write_other z.memory a word (slot_address call.area r)
                (λ e. outside p call places a r (placed-below p call places r (ap is_somewhere at_r)) clear (sym e)) ∙ z-agrees.in_slot r at_r;
            saved = λ r q e c.
                read-write_other z.memory a word (slot_address call.area r)
                (λ g. outside p call places a r (placed-below p call places r (ap is_somewhere e)) clear (sym g))
                ∙ z-agrees.saved r q e c;
            untouched = z-agrees.untouched;
            memory = λ b free. elim (cases_eq b a) [
              | inl e ↦
                  ap (read end.memory) e ∙ read-write_same z.memory a word ∙ sym (read-write_same s.memory a word) ∙ sym (ap (read (write s.memory a word)) e)
              | inr n ↦
                  read-write_other z.memory a word b n ∙ z-agrees.memory b free ∙ sym (read-write_other s.memory a word b n)
            ];
          };
        }

    -- ---- tests

    -- the test leaves flags, and they decide
    decides : (cond : Cond) (r : ℕ) (f : ℕ → Flags) → IsSomewhere p r →
        ((y : X86) (q : ℕ) → x86_outcome y (y.at + length_of (cond_test cond q)) (cond_test cond q)
        ≡ (steps.Moved, record y { at = y.at + length_of (cond_test cond q); flags = Some (f (slice_index y.regs q)) })) →
        cond_holds (branch_cond cond) (f (read_reg s.regs r)) ≡ takes cond (read_reg s.regs r) →
        DecidesBranch p call cond r x s
    decides cond r f h does says =
        let q : ℕ = source p r RAX in
        let test : X86Insn = cond_test cond q in
        let b = readied p call places s x state lent agrees r 0 h (omega arith) in
        let y : X86 = b.end in
        let y-agrees : Agrees p call s y = agrees-same p call s x y places agrees (only-same 0 x y (omega arith) b.only) in
        let flags : Flags = f (slice_index y.regs q) in
        let end : X86 = record y { at = y.at + length_of test; flags = Some flags } in
        let ran : Runs (test_code p (When cond r)) x end =
        both-run (ready p r RAX) (test ∷ []) x y end b.runs (then-run test [] y end end (does y q) refl (none-run end)) in
        let end-agrees : Agrees p call s end =
        agrees-same p call s y end places y-agrees (flags-same y (y.at + length_of test) (Some flags) y-agrees.machine) in
        record {
          comes = record { end = end; runs = ran.runs; at = ran.at; agrees = end-agrees };
          flags = flags;
          set = refl;
          says = ap (λ w. cond_holds (branch_cond cond) (f w)) b.has ∙ says;
        }

    -- the flags of a word and itself, and those of its bit 0
    abbrev whole : ℕ → Flags
    whole w = alu_flags alu.And w w

    abbrev lowest : ℕ → Flags
    lowest w = alu_flags alu.And w 1

    module _ (r : ℕ) (h : IsSomewhere p r) where
      says : AfterTest (read_reg s.regs r)
      says = after_test (read_reg s.regs r) (below r)

      tested : (cond : Cond) → DecidesBranch p call cond r x s
      tested LowClear = decides LowClear r lowest h (λ y q. refl) says.low
      tested Zero = decides Zero r whole h (λ y q. refl) says.equal
      tested Negative = decides Negative r whole h (λ y q. refl) says.sign
      tested NotPositive = decides NotPositive r whole h (λ y q. refl) says.less_or_equal
      tested LowSet = decides LowSet r lowest h (λ y q. refl) (ap not says.low)
      tested NotZero = decides NotZero r whole h (λ y q. refl) (ap not says.equal)
      tested NotNegative = decides NotNegative r whole h (λ y q. refl) (ap not says.sign)
      tested Positive = decides Positive r whole h (λ y q. refl) (ap not says.less_or_equal)

    -- ---- each action

    at-index : (o : Option ℕ) (y : X86) → Agrees p call s y → Agrees p call (state_at s o) y
    at-index None y a = a
    at-index (Some j) y a = agrees-index p call places s j y a

    acts : (e : Action) (jump : Option ℕ) (t : State) → HasOperands e → WritesRegister e → ReadsPlaced p e → action_outcome e jump s ≡ (moves.Moved, t) →
        EndsInAgreement p call (action_code p e) x t
    acts (actions.Compute to (Sum base disp)) jump t h w there e =
        let work : ℕ = target p to in
        let works = target-works p call places to in
        subst (EndsInAgreement p call (action_code p (actions.Compute to (Sum base disp))) x) (ap (λ q. q.1) e)
        (given p call places (sum_code p work base disp) s to work (address_of s.regs base disp) x state lent agrees w
        (mod_below (read_reg s.regs base + extended disp) (2 ^ 64) (omega arith)) works
        (sum-gives p call places s x state lent agrees to work works base disp there h.1))
    acts (actions.Compute to (Applied op left right)) jump t h w there e =
        let work : ℕ = work_reg p op to right in
        let works = work-works p call places op to right in
        subst (EndsInAgreement p call (action_code p (actions.Compute to (Applied op left right))) x) (ap (λ q. q.1) e)
        (given p call places (op_code p op work left right) s to work (word_computed s.regs (Applied op left right)) x state lent agrees w
        (word_of-below op (read_reg s.regs left) (rhs_word s.regs right) (below left) (rhs-below p call places s x state lent agrees right h.1)) works
        (applied-gives p call places s x state lent agrees to work works op left right there.0 there.1 h.1 (work-no-second p call places op to right)))
    acts (actions.Load to base disp) jump t h w there e =
        let a : ℕ = address_of s.regs base disp in
        let m = access-moved _ (allowed s.rights.reads a) a s (after to (read s.memory a)) t e in
        subst (EndsInAgreement p call (action_code p (actions.Load to base disp)) x) m.1 (load-comes base to disp there w m.0)
    acts (actions.LoadAround to base disp) jump t h w there e =
        let a : ℕ = aligned (address_of s.regs base disp) in
        let m = access-moved _ (allowed s.rights.reads a) a s (after to (read s.memory a)) t e in
        subst (EndsInAgreement p call (action_code p (actions.LoadAround to base disp)) x) m.1 (load_around-comes base to disp there w m.0)
    acts (actions.Store from base disp) jump t h w there e =
        let a : ℕ = address_of s.regs base disp in
        let m = access-moved _ (allowed s.rights.writes a) a s (record s { index = s.index + 1; memory = write s.memory a (read_reg s.regs from) }) t e in
        subst (EndsInAgreement p call (action_code p (actions.Store from base disp)) x) m.1 (store-comes from base disp there.0 there.1 m.0)
    acts (actions.Branching Always) jump t h w there e =
        subst (EndsInAgreement p call [] x) (ap (λ q. q.1) e) (record { end = x; runs = refl; at = omega arith; agrees = at-index jump x agrees })
    acts (actions.Branching (When cond r)) jump t h w there e =
        let c : EndsInAgreement p call (test_code p (When cond r)) x s = (tested r there cond).comes in
        subst (EndsInAgreement p call (test_code p (When cond r)) x) (ap (λ q. q.1) e)
        (record { end = c.end; runs = c.runs; at = c.at; agrees = at-index (if passes s.regs (When cond r) then jump else Some (s.index + 1)) c.end c.agrees })
    acts actions.Return jump t h w there e = let wrong : moves.Returned ≡ moves.Moved = ap (λ q. q.0) e in cc

-- ---- each instruction

memory-writes : (op : MemoryOp) (ra rb : ℕ) (disp : ℤ) (w : ℕ) → EncodesFormat w (F.Memory op ra rb disp) →
    WritesRegister (memory_action op ra rb disp)
memory-writes Lda ra rb disp w h = h.0.0
memory-writes Ldah ra rb disp w h = h.0.0
memory-writes Ldq ra rb disp w h = h.0.0.0
memory-writes LdqU ra rb disp w h = h.0.0.0
memory-writes Stq ra rb disp w h = tt

pub format-writes : (f : Format) (w : ℕ) → EncodesFormat w f → WritesRegister (format_action f)
format-writes (F.Memory op ra rb disp) w h = memory-writes op ra rb disp w h
format-writes (F.Operate op ra rhs rc) w h = h.2.0
format-writes (F.Branch cond ra disp) w h = tt
format-writes (F.Br disp) w h = tt
format-writes F.Ret w h = tt

pub simulates : SimulatesInsn
simulates = λ p call insn s t x places encoded there state lent agrees e.
    acts p call places s x state lent agrees (action_of insn) (jump_of s.index insn) t (action_of-operands insn encoded)
    (format-writes (format_of insn) encoded.0 encoded.1) there e

pub tests : Tests
tests = λ p call cond r s x places there state lent agrees. tested p call places s x state lent agrees r there cond
