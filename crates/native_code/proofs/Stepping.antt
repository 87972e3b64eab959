-- One Alpha step: fuel, the block's sequence, and where it goes on.
use Rattle.std.proofs.Common.{◌≡◌, ◌≢◌, ℕ, suc, ◌+◌, ◌-◌, ◌^◌, ◌<◌, ◌≤◌, Bool, true, false, cond, List, [], ◌∷◌, ◌++◌, length, slice_get, slice_set}
use Rattle.std.proofs.Common.{◌⊎◌, length-append, FitsSigned, slice_index, Option, Some, None, ℤ, pos, negsuc, ◌+ℤ◌, refl, sym, ap, ◌∙◌, subst, arith, inl, inr}
use Rattle.std.specs.Int.{w32}
use Rattle.std.proofs.lemmas.Bool.{ne_eqb, eq-eqb}
use Rattle.std.proofs.lemmas.List.{get_or-set_same}
use Rattle.std.proofs.lemmas.Option.{same_Some, slice_get_within}
use Rattle.word_ops.specs.declared.Op.TheVariants as ops
use Rattle.word_ops.specs.Memory.{read, write}
use Rattle.word_ops.specs.Rights.{allowed}
use Rattle.word_ops.specs.Words.{word_of, test_of}
use Rattle.word_ops.proofs.EachOp.{word_of-below}
use Rattle.word_ops.specs.declared.Rel.TheVariants.{Eq}
use Rattle.word_ops.specs.Registers.{read_reg, write_reg}
use Rattle.alpha_words.specs.declared.insn.Insn.{Insn}
use Rattle.alpha_words.specs.declared.conditions.Cond.{Cond}
use Rattle.alpha_words.specs.declared.memory.MemoryOp.{MemoryOp}
use Rattle.alpha_words.specs.declared.memory.MemoryOp.TheVariants.{Lda, Ldah, Ldq, LdqU, Stq}
use Rattle.alpha_words.specs.declared.insn.Format.{Format}
use Rattle.alpha_words.specs.declared.insn.Format.TheVariants as F
use Rattle.alpha_words.specs.Formats.{format_of}
use Rattle.alpha_words.specs.Encoding.{IsRhs}
use Rattle.alpha_words.specs.Lawful.{format_target, target_of}
use Rattle.alpha_cfg.specs.declared.outcome.Kind.{Kind}
use Rattle.alpha_cfg.specs.declared.outcome.Kind.TheVariants as kinds
use Rattle.alpha_cfg.specs.declared.outcome.Step.{Step}
use Rattle.alpha_cfg.specs.declared.outcome.Step.TheVariants as moves
use Rattle.alpha_cfg.specs.Actions.{Computed, Applied, Test, Always, When, Action, action_of, format_action, memory_action, next_after, HasOperands}
use Rattle.alpha_cfg.specs.Actions as actions
use Rattle.alpha_cfg.specs.Flow.{IsCode, InsideOf, landing, jump_of}
use Rattle.alpha_cfg.specs.Machine.{State, IsState, rhs_word, word_computed, passes as test_passes, access_outcome, address_of, aligned, state_at, takes}
use Rattle.alpha_cfg.specs.Machine.{action_outcome}
use Rattle.alpha_cfg.specs.Machine.{insn_outcome}
use Rattle.alpha_cfg.proofs.States.{IsAt, insn_outcome-keeps, action_of-operands}
use Rattle.x86_words.specs.declared.operators.AluOp.TheVariants as alu
use Rattle.x86_words.specs.declared.operators.X86Cond.{X86Cond}
use Rattle.x86_words.specs.declared.operators.X86Cond.TheVariants.{Below}
use Rattle.alpha_words.specs.declared.insn.Rhs.{Rhs}
use Rattle.alpha_words.specs.declared.insn.Rhs.TheVariants.{Reg, Lit}
use Rattle.x86_words.specs.declared.insn.X86Insn.{X86Insn}
use Rattle.x86_words.specs.declared.insn.X86Insn.TheVariants.{Alu, AluImm, JumpIf, Jump}
use Rattle.x86_words.specs.Encoding.{length_of, IsX86Insn}
use Rattle.x86_machine.specs.declared.flags.Flags.{Flags}
use Rattle.x86_machine.specs.Flags.{alu_word, alu_flags, cond_holds, AfterSubOne}
use Rattle.x86_machine.specs.declared.outcome.X86Outcome.TheVariants as outcomes
use Rattle.x86_machine.specs.Machine.{X86, IsX86, x86_run}
use Rattle.x86_machine.proofs.Orders.{after_sub_one}
use Rattle.native_steps.specs.Places.{Places, ArePlaces, IsSomewhere, is_free, is_in, operand_place, is_callee_saved, AREA, FUEL, RAX, RCX}
use Rattle.native_steps.specs.Sequences.{ReadsPlaced, test_code, action_code, insn_code, branch_cond, fetch, source, ready}
use Rattle.native_steps.specs.Compares.{ready_cmp_code, DecidesJoined}
use Rattle.native_steps.specs.Straight.{total_length, x86_straight}
use Rattle.native_steps.specs.Agreement.{Call, IsLent, Agrees, EndsInAgreement, DecidesBranch}
use Rattle.native_steps.proofs.Frames.{SameBut, wrote, wrote-is, wrote-reads, wrote-other, flags-same, same-trans, agrees-same, isnt}
use Rattle.native_steps.proofs.Operands.{source-below, agrees-index, fetched, with_reg, with-agrees, with-reads}
use Rattle.native_steps.proofs.Instructions.{simulates, tests}
use Rattle.native_steps.proofs.Joining.{joins}
use Rattle.native_steps.proofs.Encodable.{Straight, no-insn, one-straight, both-straight, straight, fetch-straight, sequence-straight}
use Rattle.native_code.specs.declared.insn.NativeInsn.{NativeInsn}
use Rattle.native_code.specs.declared.insn.NativeInsn.TheVariants.{Plain, Go, GoIf}
use Rattle.native_code.specs.declared.insn.Form.{Form}
use Rattle.native_code.specs.declared.insn.Form.TheVariants.{Whole, Dead, Compare, Joined, Gone}
use Rattle.native_code.specs.Lives.{Lean, form_at, ReadsLive, written, MayGoOn, IsDeadWrite, AreJoined, FitsForm, IsLeanAt, IsLean}
use Rattle.native_code.specs.Blocks.{plain, branch_code, end_code, compare_flags, form_code, joined_code, form_end, fuel_code, block_at, exit_code}
use Rattle.native_code.specs.Blocks.{return_code}
use Rattle.native_code.specs.Layout.{code_length, distance, placed_from, offset_of, native_text}
use Rattle.native_code.specs.Calls.{reads_operands, ArePlacesOf, spend, IsCallEnd, IsSeen, FlagsDecide, IsPrepared, AgreesAt}
use Rattle.native_code.proofs.Texts.{plain-length, length-append-code, placed-append, placed-plain, placed-length, Lies, lies-as, lies-front, lies-back}
use Rattle.native_code.proofs.Texts.{offset-next, block-lies, block, pad, gap, end_of, end-is, gap-lies}
use Rattle.native_code.proofs.Passing.{Passes, pass-none, passes}
use Rattle.native_code.proofs.Walking.{jumped, jumped-if}
use Rattle.native_code.proofs.Reaching.{Reaches, reach-none, reach-both, reach-straight, reach-one}
use Rattle.native_code.proofs.Leaving.{leaves}
use Rattle.native_code.proofs.Fitting.{distance-fits, plain-count, form-count, offset-small}
use Rattle.native_code.proofs.Living.{computed-live, return-live, moves-so, seen-on, branch-only, write-only, Leads, leads, returned}
use Rattle.native_code.proofs.Forms.{insn-there, ready-if, ready-there, compared-before, joined-after}

-- ---- fuel in a register

-- the states agree for another number of units, which is in the register
pub agrees-fuel : (p : Places) (call : Call) (f : ℕ) (s : State) (x : X86) → Agrees p call s x → slice_index x.regs FUEL ≡ f →
    Agrees p (record call { fuel = f }) s x
agrees-fuel p call f s x a e = record {
  machine = a.machine;
  rights = a.rights;
  area = a.area;
  fuel = e;
  in_register = a.in_register;
  in_slot = a.in_slot;
  saved = a.saved;
  untouched = a.untouched;
  memory = a.memory;
}

-- the register of fuel got a word
agrees-wrote-fuel : (p : Places) (call : Call) (s : State) (x : X86) (at w : ℕ) (f : Option Flags) → ArePlaces p → w < 2 ^ 64 → Agrees p call s x →
    Agrees p (record call { fuel = w }) s (wrote x at f FUEL w)
agrees-wrote-fuel p call s x at w f places below a =
    let other : (k : ℕ) → k ≢ FUEL → slice_index (wrote x at f FUEL w).regs k ≡ slice_index x.regs k = λ k n. wrote-other x at f FUEL w k n in
    record {
      machine = wrote-is x at f FUEL w a.machine below;
      rights = a.rights;
      area = other AREA (λ e. omega (arith, e)) ∙ a.area;
      fuel = wrote-reads x at f FUEL w a.machine (omega arith);
      in_register = λ r q e. other q (isnt is_free q FUEL (places.free r q e) refl) ∙ a.in_register r q e;
      in_slot = a.in_slot;
      saved = a.saved;
      untouched = λ q c none. other q (isnt is_callee_saved q FUEL c refl) ∙ a.untouched q c none;
      memory = a.memory;
    }

-- ---- forms

next-suc : (i j : ℕ) (e : Action) → next_after i e ≡ Some j → j ≡ suc i
next-suc i j (actions.Compute to word) e = let n = same_Some (i + 1) j e in omega (arith, n)
next-suc i j (actions.Load to base disp) e = let n = same_Some (i + 1) j e in omega (arith, n)
next-suc i j (actions.LoadAround to base disp) e = let n = same_Some (i + 1) j e in omega (arith, n)
next-suc i j (actions.Store from base disp) e = let n = same_Some (i + 1) j e in omega (arith, n)
next-suc i j (actions.Branching Always) e = absurd cc
next-suc i j (actions.Branching (When c r)) e = let n = same_Some (i + 1) j e in omega (arith, n)
next-suc i j actions.Return e = absurd cc

-- whether an action is a branch that is taken
abbrev taken_by : List ℕ → Action → Bool
taken_by regs (actions.Branching test) = test_passes regs test
taken_by regs _ = true

same-branch : (c k : Cond) (r q : ℕ) (regs : List ℕ) → actions.Branching (When c r) ≡ actions.Branching (When k q) →
    takes k (read_reg regs q) ≡ takes c (read_reg regs r)
same-branch c k r q regs e = ap (taken_by regs) (sym e)

-- the word that a computation leaves
wrote-word : (s t : State) (to : ℕ) (word : Computed) (jump : Option ℕ) → IsState s → to < 31 →
    action_outcome (actions.Compute to word) jump s ≡ (moves.Moved, t) →
    read_reg t.regs to ≡ word_computed s.regs word
wrote-word s t to word jump state low moved =
    let n : to ≢ 31 = λ e. omega (arith, low, e) in
    let w : ℕ = word_computed s.regs word in
    let count = state.regs.count in
    ap (λ (q : Step × State). read_reg q.1.regs to) (sym moved)
    ∙ ap (λ b. cond b 0 (slice_index (cond b s.regs (slice_set s.regs to w)) to)) (ne_eqb to 31 n)
    ∙ get_or-set_same s.regs to w 0 (omega (arith, low, count))

-- the end of a call that returned from a state that is the same but for registers that are dead
end-seen : (lean : Lean) (call : Call) (s seen : State) (same : IsSeen lean s seen) (state : IsState s) → ReadsLive lean s.index actions.Return → (y : X86) →
    IsCallEnd call (slice_index seen.regs 0) 0 seen y →
    IsCallEnd call (slice_index s.regs 0) 0 s y
end-seen lean call s seen same state reads y e = record {
  word_is = e.word_is ∙ return-live lean s seen same state reads;
  why_is = e.why_is;
  kept = e.kept;
  memory = λ a free. e.memory a free ∙ ap (λ m. read m a) same.memory;
}

-- the flags of a compare have bytes, and no jumps
module _ (p : Places) (places : ArePlaces p) where
  brought-straight : (b : Bool) (r to : ℕ) → r < 32 → to < 16 → Straight (cond b [] (fetch p r to ∷ []))
  brought-straight true r to low h = no-insn
  brought-straight false r to low h = one-straight (fetch p r to) (fetch-straight p places r to low h)

  ready-straight : (call : Call) (r temp : ℕ) → r < 32 → temp < 2 → Straight (ready p r temp)
  ready-straight call r temp low h =
      brought-straight (is_in (operand_place p r) (source p r temp)) r (source p r temp) low (source-below p call places r temp h)

  flags-straight : (call : Call) (left : ℕ) (right : Rhs) → left < 32 → IsRhs right → Straight (ready_cmp_code p left right)
  flags-straight call left (Lit n) h k =
      both-straight (ready p left RAX) _ (ready-straight call left 0 h (omega arith))
      (one-straight _ (straight (AluImm alu.Cmp (source p left RAX) (pos n)) (
        source-below p call places left 0 (omega arith),
        record { sfits = omega (arith, k) },
      )
      refl refl))
  flags-straight call left (Reg r) h k =
      both-straight (ready p left RAX) _ (ready-straight call left 0 h (omega arith))
      (both-straight (ready p r RCX) _ (ready-straight call r 1 k (omega arith))
      (one-straight _ (straight (Alu alu.Cmp (source p left RAX) (source p r RCX))
      (source-below p call places left 0 (omega arith), source-below p call places r 1 (omega arith)) refl refl)))

-- ---- where a branch leads

inside-some : (n : ℕ) (z : ℤ) → InsideOf n (Some z) → (k : ℕ) × (landing (Some z) ≡ Some k) × (k < n)
inside-some n (pos k) h = (k, refl, h)
inside-some n (negsuc k) h = absurd h

memory-goes-on : (op : MemoryOp) (ra rb : ℕ) (disp : ℤ) (test : Test) → memory_action op ra rb disp ≡ actions.Branching test → ⊥
memory-goes-on Lda ra rb disp test e = absurd cc
memory-goes-on Ldah ra rb disp test e = absurd cc
memory-goes-on Ldq ra rb disp test e = absurd cc
memory-goes-on LdqU ra rb disp test e = absurd cc
memory-goes-on Stq ra rb disp test e = absurd cc

format-target : (n i : ℕ) (f : Format) (test : Test) → format_action f ≡ actions.Branching test → InsideOf n (format_target i f) →
    (k : ℕ) × (landing (format_target i f) ≡ Some k) × (k < n)
format-target n i (F.Branch c ra disp) test e h = inside-some n (pos (i + 1) +ℤ disp) h
format-target n i (F.Br disp) test e h = inside-some n (pos (i + 1) +ℤ disp) h
format-target n i (F.Memory op ra rb disp) test e h = absurd (memory-goes-on op ra rb disp test e)
format-target n i (F.Operate op ra rhs rc) test e h = absurd cc
format-target n i F.Ret test e h = absurd cc

-- a branch of code has a target inside
branch-target : (n i : ℕ) (insn : Insn) (test : Test) → action_of insn ≡ actions.Branching test → InsideOf n (target_of i insn) →
    (k : ℕ) × (jump_of i insn ≡ Some k) × (k < n)
branch-target n i insn test e h = format-target n i (format_of insn) test e h

module _ (p : Places) (lean : Lean) (metered : Bool) (code : List Insn) (ok : IsCode code) (lives : IsLean lean code) (of : ArePlacesOf p lean code) where
  abbrev text : List ℕ
  text = native_text p lean metered code

  abbrev offset : ℕ → ℕ
  offset = offset_of p lean metered code

  abbrev places : ArePlaces p
  places = of.places

  small : (k : ℕ) → k ≤ suc (length code) → offset k < 2 ^ 30
  small k h = offset-small p places lean metered code k ok h

  -- ---- taking a unit of fuel

  -- what takes a unit, or nothing
  abbrev pub taking : Bool → List NativeInsn
  taking b = cond b (Plain (AluImm alu.Sub FUEL (pos 1)) ∷ GoIf Below (length code) ∷ []) []

  pub taking-most : (b : Bool) → length (taking b) ≤ 2
  taking-most true = omega arith
  taking-most false = omega arith

  abbrev units : Bool → ℕ
  units b = cond b 1 0

  take-insn : IsX86Insn (AluImm alu.Sub FUEL (pos 1))
  take-insn = record { widths = (omega arith, record { sfits = omega arith }); operands = refl }

  jump-insn : (at k : ℕ) → at < 2 ^ 31 → k ≤ suc (length code) → FitsSigned w32 (distance at (offset k))
  jump-insn at k h low = let s = small k low in distance-fits at (offset k) h (omega (arith, s))

  module _ (call : Call) (s : State) (x : X86) (agrees : Agrees p call s x) where
    abbrev had : ℕ
    had = slice_index x.regs FUEL

    abbrev lessened : ℕ
    lessened = alu_word alu.Sub had 1

    -- after the subtraction
    abbrev took : X86
    took = wrote x (x.at + 7) (Some (alu_flags alu.Sub had 1)) FUEL lessened

    lessened-below : lessened < 2 ^ 64
    lessened-below = word_of-below ops.Sub had 1 (agrees.machine.words FUEL) (omega arith)

    says : AfterSubOne had
    says = after_sub_one had (agrees.machine.words FUEL)

    took-agrees : Agrees p (record call { fuel = lessened }) s took
    took-agrees = agrees-wrote-fuel p call s x (x.at + 7) lessened (Some (alu_flags alu.Sub had 1)) places lessened-below agrees

    -- the jump after it, as it stands in the text
    abbrev out : X86Insn
    out = JumpIf Below (distance (x.at + 7 + 6) (offset (length code)))

    -- after the jump
    abbrev decided : Bool → X86
    decided b = record took { at = cond b (offset (length code)) (x.at + 7 + 6) }

    decided-agrees : (b : Bool) → Agrees p (record call { fuel = lessened }) s (decided b)
    decided-agrees b =
        agrees-same p (record call { fuel = lessened }) s took (decided b) places took-agrees
        (flags-same took (cond b (offset (length code)) (x.at + 7 + 6)) took.flags took-agrees.machine)

    reach-decided : (b : Bool) → x.at + 13 < 2 ^ 31 → Lies text x.at (AluImm alu.Sub FUEL (pos 1) ∷ out ∷ []) → test_of Eq had 0 ≡ b →
        Reaches text 2 x (decided b)
    reach-decided b near lies e =
        let to-took : Reaches text 1 x took = reach-one text x took (AluImm alu.Sub FUEL (pos 1)) (out ∷ []) take-insn lies refl in
        let place : x.at + total_length (AluImm alu.Sub FUEL (pos 1) ∷ []) ≡ x.at + 7 = omega arith in
        let behind : Lies text took.at (out ∷ []) =
        subst (λ k. Lies text k (out ∷ [])) place (lies-back text x.at (AluImm alu.Sub FUEL (pos 1) ∷ []) (out ∷ []) lies) in
        let far : FitsSigned w32 (distance (x.at + 7 + 6) (offset (length code))) =
        jump-insn (x.at + 7 + 6) (length code) (omega (arith, near)) (omega arith) in
        let to-end : Reaches text 1 took (decided b) =
        reach-one text took (decided b) out [] (record { widths = far; operands = refl }) behind
        (jumped-if took (x.at + 7 + 6) (offset (length code)) Below (alu_flags alu.Sub had 1) b refl (says.below ∙ e)) in
        reach-both text x took (decided b) to-took to-end

  -- Fuel is taken, if it is; then the sequence is next.
  pub record Charged (call : Call) (s : State) (x : X86) (b : Bool) : Type 0 where
    pub end : X86
    pub reaches : Reaches text (length (taking b)) x end
    pub at : end.at ≡ x.at + code_length (taking b)
    pub agrees : Agrees p (spend call (units b)) s end
    pub flags : b ≡ false → end.flags ≡ x.flags

  pub charged : (b : Bool) (call : Call) (s : State) (x : X86) → Agrees p call s x → x.at + 13 < 2 ^ 31 →
      Lies text x.at (placed_from offset x.at (taking b)) → units b ≤ call.fuel → Charged call s x b
  charged false call s x a near lies enough =
      let none : call.fuel ≡ call.fuel - 0 = omega arith in
      let same : x.at ≡ x.at + 0 = omega arith in
      record {
        end = x;
        reaches = reach-none text x;
        at = same;
        agrees = agrees-fuel p call (call.fuel - 0) s x a (a.fuel ∙ none);
        flags = λ _. refl;
      }
  charged true call s x a near lies enough =
      let f = a.fuel in
      let one : 1 ≤ call.fuel = enough in
      let some : slice_index x.regs FUEL ≢ 0 = λ e. omega (arith, e, f, one) in
      let less : lessened call s x a ≡ call.fuel - 1 =
      (says call s x a).word (omega (arith, f, one)) ∙ ap (λ n. n - 1) f in
      record {
        end = decided call s x a false;
        reaches = reach-decided call s x a false near lies (ne_eqb (slice_index x.regs FUEL) 0 some);
        at = let e : x.at + 7 + 6 ≡ x.at + (7 + (6 + 0)) = omega arith in e;
        agrees = subst (λ w. Agrees p (record call { fuel = w }) s (decided call s x a false)) less (decided-agrees call s x a false);
        flags = λ e. absurd cc;
      }

  -- no unit is left
  pub record Spent (call : Call) (s : State) (x : X86) : Type 0 where
    pub end : X86
    pub fuel : ℕ
    pub reaches : Reaches text 2 x end
    pub at : end.at ≡ offset (length code)
    pub agrees : Agrees p (record call { fuel = fuel }) s end

  pub spent : (call : Call) (s : State) (x : X86) → Agrees p call s x → x.at + 13 < 2 ^ 31 →
      Lies text x.at (placed_from offset x.at (taking true)) → call.fuel ≡ 0 → Spent call s x
  spent call s x a near lies none = record {
    end = decided call s x a true;
    fuel = lessened call s x a;
    reaches = reach-decided call s x a true near lies (eq-eqb (slice_index x.regs FUEL) 0 (a.fuel ∙ none));
    at = refl;
    agrees = decided-agrees call s x a true;
  }

  -- ---- an instruction's block

  module _ (i : ℕ) (insn : Insn) (here : slice_get code i ≡ Some insn) where
    inside : i < length code
    inside = slice_get_within code i insn here

    abbrev insns : List X86Insn
    insns = form_code p (form_at lean i) (action_of insn)

    abbrev ending : List NativeInsn
    ending = form_end p (form_at lean i) (action_of insn) (jump_of i insn)

    abbrev charging : List NativeInsn
    charging = fuel_code p lean metered code i

    -- where the sequence begins
    abbrev pub middle : ℕ
    middle = offset i + code_length charging

    whole-lies : Lies text (offset i) (placed_from offset (offset i) (charging ++ (plain insns ++ ending)))
    whole-lies =
        lies-as text (offset i) (placed_from offset (offset i) (block p lean metered code i))
        (placed_from offset (offset i) (charging ++ (plain insns ++ ending)))
        (ap (λ o. placed_from offset (offset i) (block_at p lean metered code i o)) here)
        (block-lies p lean metered code i (let h = inside in omega (arith, h)))

    -- the two parts of the block
    abbrev second : List X86Insn
    second = placed_from offset middle (plain insns ++ ending)

    split : Lies text (offset i) (placed_from offset (offset i) charging ++ second)
    split =
        lies-as text (offset i) (placed_from offset (offset i) (charging ++ (plain insns ++ ending))) (placed_from offset (offset i) charging ++ second)
        (placed-append offset (offset i) charging (plain insns ++ ending)) whole-lies

    pub charging-lies : Lies text (offset i) (placed_from offset (offset i) charging)
    charging-lies = lies-front text (offset i) (placed_from offset (offset i) charging) second split

    abbrev after : ℕ
    after = middle + total_length insns

    second-lies : Lies text middle (insns ++ placed_from offset after ending)
    second-lies =
        let count : offset i + total_length (placed_from offset (offset i) charging) ≡ middle =
        ap (λ n. offset i + n) (placed-length offset (offset i) charging) in
        let parts : second ≡ insns ++ placed_from offset after ending =
        placed-append offset middle (plain insns) ending ∙ ap (λ l. l ++ placed_from offset (middle + code_length (plain insns)) ending)
        (placed-plain offset middle insns)
        ∙ ap (λ n. insns ++ placed_from offset (middle + n) ending) (plain-length insns) in
        lies-as text middle second (insns ++ placed_from offset after ending) parts
        (subst (λ n. Lies text n second) count (lies-back text (offset i) (placed_from offset (offset i) charging) second split))

    pub insns-lie : Lies text middle insns
    insns-lie = lies-front text middle insns (placed_from offset after ending) second-lies

    pub ending-lies : Lies text after (placed_from offset after ending)
    ending-lies = lies-back text middle insns (placed_from offset after ending) second-lies

    -- the block ends after the ending
    last-is : end_of p lean metered code i ≡ after + code_length ending
    last-is =
        let n = end-is p lean metered code i in
        let b : code_length (block p lean metered code i) ≡ code_length (charging ++ (plain insns ++ ending)) =
        ap (λ o. code_length (block_at p lean metered code i o)) here in
        let one = length-append-code charging (plain insns ++ ending) in
        let two = length-append-code (plain insns) ending in
        let three = plain-length insns in
        omega (arith, n, b, one, two, three)

    -- the next block begins after padding
    next-is : offset (suc i) ≡ after + code_length ending + code_length (gap p lean metered code i)
    next-is =
        let n = offset-next p lean metered code i in
        let e = end-is p lean metered code i in
        let l = last-is in
        omega (arith, n, e, l)

    -- a run that comes to the block's end goes on at the next block
    passed : (x : X86) → IsX86 x → x.at ≡ after + code_length ending → Passes p places lean metered code ok (suc i) (length (gap p lean metered code i)) x
    passed x is at =
        let same : x.at ≡ end_of p lean metered code i = at ∙ sym last-is in
        let h = inside in
        let n = next-is in
        let s = small (suc i) (omega (arith, h)) in
        let e = ap (λ k. code_length (pad p lean metered code (suc i) k)) same in
        subst (λ k. Passes p places lean metered code ok (suc i) (length (pad p lean metered code (suc i) k)) x) same
        (passes p places lean metered code ok (suc i) x is (omega (arith, h)) (omega (arith, n, s, at))
        (subst (λ k. Lies text k (placed_from offset k (pad p lean metered code (suc i) k))) (sym same) (gap-lies p lean metered code i (omega (arith, h))))
        (omega (arith, n, at, e)))

    pub near : offset i + 13 < 2 ^ 31
    near = let s = small i (let h = inside in omega (arith, h)) in omega (arith, s)

    after-small : after < 2 ^ 30
    after-small =
        let s = small (suc i) (let h = inside in omega (arith, h)) in
        let n = next-is in
        omega (arith, s, n)

    -- where a branch leads, either way
    two-ways : (target : ℕ) (v : Bool) (x : X86) → IsX86 x → x.at ≡ cond v (offset target) (after + code_length ending) →
        Passes p places lean metered code ok (cond v target (suc i)) (length (gap p lean metered code i)) x
    two-ways target true x is at = pass-none p places lean metered code ok target (length (gap p lean metered code i)) x is at
    two-ways target false x is at = passed x is at

    -- ---- a step that moves

    -- the next index, or the one that the instruction jumps to
    abbrev pub IsNext : ℕ → Type 0
    IsNext j = (j ≡ suc i) ⊎ (jump_of i insn ≡ Some j)

    -- Steps lead from the sequence to the block of the index of a state, and in agreement: no more than there are instructions up to there. There is one,
    -- or the index is further on.
    record Lands (call : Call) (t : State) (x : X86) : Type 0 where
      count : ℕ
      on : (1 ≤ count) ⊎ (i < t.index)
      few : count ≤ length insns + length ending + length (gap p lean metered code i)
      brief : count ≤ 8
      end : X86
      reaches : Reaches text count x end
      at : end.at ≡ offset t.index
      agrees : Agrees p call t end

    -- They do so from a state that agrees but for registers that are dead to one that does.
    pub record Moves (call : Call) (t : State) (x : X86) : Type 0 where
      pub count : ℕ
      pub on : (1 ≤ count) ⊎ (i < t.index)
      pub few : count ≤ length insns + length ending + length (gap p lean metered code i)
      pub brief : count ≤ 8
      pub end : X86
      pub reaches : Reaches text count x end
      pub next : IsNext t.index
      pub agrees : AgreesAt p lean metered code call t end

    -- by a jump where a condition holds
    record JumpsIf (j : ℕ) (y : X86) : Type 0 where
      count : ℕ
      some : 1 ≤ count
      few : count ≤ length ending + length (gap p lean metered code i)
      brief : count ≤ 2
      end : X86
      reaches : Reaches text count y end
      at : end.at ≡ offset j
      same : SameBut y end

    jumps-if : (c : X86Cond) (target : ℕ) (b : Bool) (f : Flags) (y : X86) → IsX86 y → y.at ≡ after → ending ≡ GoIf c target ∷ [] →
        target < length code → y.flags ≡ Some f → cond_holds c f ≡ b →
        JumpsIf (cond b target (suc i)) y
    jumps-if c target b f y is at_after last low known holds =
        let one : length ending ≡ 1 = ap length last in
        let jump : X86Insn = JumpIf c (distance (y.at + 6) (offset target)) in
        let lies : Lies text y.at (jump ∷ []) =
        subst (λ n. Lies text n (JumpIf c (distance (n + 6) (offset target)) ∷ [])) (sym at_after)
        (lies-as text after (placed_from offset after ending) (placed_from offset after (GoIf c target ∷ []))
        (ap (placed_from offset after) last) ending-lies) in
        let far : FitsSigned w32 (distance (y.at + 6) (offset target)) =
        jump-insn (y.at + 6) target (let a = after-small in omega (arith, a, at_after)) (omega (arith, low)) in
        let end : X86 = record y { at = cond b (offset target) (y.at + 6) } in
        let to-end : Reaches text 1 y end =
        reach-one text y end jump [] (record { widths = far; operands = refl }) lies (jumped-if y (y.at + 6) (offset target) c f b known holds) in
        let six : y.at + 6 ≡ after + code_length ending = let l : code_length ending ≡ 6 = ap code_length last in omega (arith, l, at_after) in
        let end-same = flags-same y (cond b (offset target) (y.at + 6)) y.flags is in
        let g = two-ways target b end end-same.machine (ap (λ n. cond b (offset target) n) six) in
        let step = g.brief in
        let most = g.few in
        record {
          count = 1 + g.count;
          some = omega arith;
          few = omega (arith, one, most);
          brief = omega (arith, step);
          end = g.end;
          reaches = reach-both text y end g.end to-end g.reaches;
          at = g.at;
          same = same-trans y end g.end end-same g.same;
        }

    -- a branch leads to its target, or to the next index
    branched : (s : State) → s.index ≡ i → (target : ℕ) (b : Bool) →
        state_at s (cond b (Some target) (Some (s.index + 1))) ≡ record s { index = cond b target (suc i) }
    branched s at_index target true = refl
    branched s at_index target false = let one : s.index + 1 ≡ suc i = omega (arith, at_index) in ap (λ n. record s { index = n }) one

    -- the instructions of the block
    pub block-count : length (block p lean metered code i) ≡ length charging + (length insns + length ending)
    block-count =
        let b : length (block p lean metered code i) ≡ length (charging ++ (plain insns ++ ending)) =
        ap (λ o. length (block_at p lean metered code i o)) here in
        let one = length-append charging (plain insns ++ ending) in
        let two = length-append (plain insns) ending in
        let three = plain-count insns in
        omega (arith, b, one, two, three)

    module _ (call : Call) (s t : State) (x : X86) (state : IsState s) (lent : IsLent call s.rights) (at_index : s.index ≡ i) (at_middle : x.at ≡ middle)
        (agrees : Agrees p call s x)
      where
        lie-here : Lies text x.at insns
        lie-here = subst (λ n. Lies text n insns) (sym at_middle) insns-lie

        -- the sequence, and nothing more: the flags are its own
        falls : Straight insns → ending ≡ [] → (e : EndsInAgreement p call insns x t) → t.index ≡ suc i →
            (l : Lands call t x) × (l.end.flags ≡ e.end.flags)
        falls all none e index =
            let reaches : Reaches text (length insns) x e.end = reach-straight text insns x e.end lie-here all e.runs in
            let a = e.at in
            let m = at_middle in
            let no-more : code_length ending ≡ 0 = ap code_length none in
            let g = passed e.end e.agrees.machine (omega (arith, a, m, no-more)) in
            let one = g.brief in
            let most = g.few in (
              record {
                count = length insns + g.count;
                on = inr (omega (arith, index));
                few = omega (arith, most);
                brief = let short = form-count p places (form_at lean i) (action_of insn) in omega (arith, short, one);
                end = g.end;
                reaches = reach-both text x e.end g.end reaches g.reaches;
                at = g.at ∙ ap offset (sym index);
                agrees = agrees-same p call t e.end g.end places e.agrees g.same;
              },
              g.flags,
            )

        -- the sequence of a branch that is always taken is empty
        goes : (target : ℕ) → insns ≡ [] → ending ≡ Go target ∷ [] → target < length code → t ≡ record s { index = target } → Lands call t x
        goes target none last low e =
            let end : X86 = record x { at = offset target } in
            let at_after : x.at ≡ after = let m = at_middle in let z : total_length insns ≡ 0 = ap total_length none in omega (arith, m, z) in
            let jump : X86Insn = Jump (distance (x.at + 5) (offset target)) in
            let lies : Lies text x.at (jump ∷ []) =
            subst (λ n. Lies text n (Jump (distance (n + 5) (offset target)) ∷ [])) (sym at_after)
            (lies-as text after (placed_from offset after ending) (placed_from offset after (Go target ∷ []))
            (ap (placed_from offset after) last) ending-lies) in
            let far : FitsSigned w32 (distance (x.at + 5) (offset target)) =
            jump-insn (x.at + 5) target (let a = after-small in omega (arith, a, at_after)) (omega (arith, low)) in
            let one : length ending ≡ 1 = ap length last in
            let reaches : Reaches text 1 x end =
            reach-one text x end jump [] (record { widths = far; operands = refl }) lies (jumped x (x.at + 5) (offset target)) in
            let moved : Agrees p call (record s { index = target }) end =
            agrees-index p call places s target end
            (agrees-same p call s x end places agrees (flags-same x (offset target) x.flags agrees.machine)) in
            record {
              count = 1;
              on = inl (omega arith);
              few = omega (arith, one);
              brief = omega arith;
              end = end;
              reaches = reaches;
              at = ap (λ (u : State). offset u.index) (sym e);
              agrees = subst (λ u. Agrees p call u end) (sym e) moved;
            }

        -- a branch on a register
        decides : Straight insns → (c : Cond) (r target : ℕ) → insns ≡ test_code p (When c r) → ending ≡ GoIf (branch_cond c) target ∷ [] →
            target < length code → DecidesBranch p call c r x s →
            t ≡ record s { index = cond (takes c (read_reg s.regs r)) target (suc i) } →
            Lands call t x
        decides all c r target seq last low d e =
            let b : Bool = takes c (read_reg s.regs r) in
            let y : X86 = d.comes.end in
            let to-y : Reaches text (length insns) x y =
            reach-straight text insns x y lie-here all (subst (λ l. x86_straight l x ≡ Some y) (sym seq) d.comes.runs) in
            let at_after : y.at ≡ after =
            let m = at_middle in
            let a = d.comes.at in
            let l : total_length insns ≡ total_length (test_code p (When c r)) = ap total_length seq in
            omega (arith, m, a, l) in
            let g = jumps-if (branch_cond c) target b d.flags y d.comes.agrees.machine at_after last low d.set d.says in
            let step = g.brief in
            let most = g.few in
            let some = g.some in
            let moved : Agrees p call (record s { index = cond b target (suc i) }) g.end =
            agrees-index p call places s (cond b target (suc i)) g.end (agrees-same p call s y g.end places d.comes.agrees g.same) in
            record {
              count = length insns + g.count;
              on = inl (omega (arith, some));
              few = omega (arith, most);
              brief = let short = form-count p places (form_at lean i) (action_of insn) in omega (arith, short, step);
              end = g.end;
              reaches = reach-both text x y g.end to-y g.reaches;
              at = g.at ∙ ap (λ (u : State). offset u.index) (sym e);
              agrees = subst (λ u. Agrees p call u g.end) (sym e) moved;
            }

        -- ---- each action

        -- an access that moved goes on at the next index
        access-next : (kind : Kind) (may : Bool) (a : ℕ) (u : State) → u.index ≡ suc i → access_outcome kind may a s u ≡ (moves.Moved, t) → t.index ≡ suc i
        access-next kind true a u n e = ap (λ (q : Step × State). q.1.index) (sym e) ∙ n
        access-next kind false a u n e = let wrong : moves.Blocked s.index kind a ≡ moves.Moved = ap (λ q. q.0) e in absurd cc

        suc-index : s.index + 1 ≡ suc i
        suc-index = omega (arith, at_index)

        -- after a load, and after a store
        abbrev loaded : ℕ → ℕ → State
        loaded to a = record s { index = s.index + 1; regs = write_reg s.regs to (read s.memory a) }

        abbrev kept : ℕ → ℕ → State
        kept a from = record s { index = s.index + 1; memory = write s.memory a (read_reg s.regs from) }

        -- where an action that is no branch goes on
        next-index : (e : Action) (jump : Option ℕ) → end_code p e jump ≡ [] → ((test : Test) → e ≡ actions.Branching test → ⊥) →
            action_outcome e jump s ≡ (moves.Moved, t) → t.index ≡ suc i
        next-index (actions.Compute to word) jump none apart e = ap (λ (q : Step × State). q.1.index) (sym e) ∙ suc-index
        next-index (actions.Load to base disp) jump none apart e =
            let a = address_of s.regs base disp in access-next kinds.Load (allowed s.rights.reads a) a (loaded to a) suc-index e
        next-index (actions.LoadAround to base disp) jump none apart e =
            let a = aligned (address_of s.regs base disp) in access-next kinds.Load (allowed s.rights.reads a) a (loaded to a) suc-index e
        next-index (actions.Store from base disp) jump none apart e =
            let a = address_of s.regs base disp in access-next kinds.Store (allowed s.rights.writes a) a (kept a from) suc-index e
        next-index (actions.Branching test) jump none apart e = absurd (apart test refl)
        next-index actions.Return jump none apart e = let wrong : moves.Returned ≡ moves.Moved = ap (λ q. q.0) e in absurd cc

        -- all that the instruction does
        module _ (form : form_at lean i ≡ Whole) where
          insns-are : insns ≡ insn_code p insn
          insns-are = ap (λ f. form_code p f (action_of insn)) form

          ending-is : ending ≡ end_code p (action_of insn) (jump_of i insn)
          ending-is = ap (λ f. form_end p f (action_of insn) (jump_of i insn)) form

          all-straight : Straight insns
          all-straight = subst Straight (sym insns-are) (sequence-straight p insn places (ok.encoded i insn here))

          placed-reads : ReadsPlaced p (action_of insn)
          placed-reads = of.reads i insn here (ap reads_operands form)

          straight-on : (e : Action) → action_of insn ≡ e → end_code p e (jump_of i insn) ≡ [] → ((test : Test) → e ≡ actions.Branching test → ⊥) →
              insn_outcome insn s ≡ (moves.Moved, t) →
              action_outcome e (jump_of i insn) s ≡ (moves.Moved, t) →
              Lands call t x
          straight-on e is none apart whole out_is =
              (falls all-straight (ending-is ∙ ap (λ a. end_code p a (jump_of i insn)) is ∙ none)
              (subst (λ l. EndsInAgreement p call l x t) (sym insns-are)
              (simulates p call insn s t x places (ok.encoded i insn here) placed-reads state lent agrees whole))
              (next-index e (jump_of i insn) none apart out_is)).0

          lands-by : (e : Action) → action_of insn ≡ e → insn_outcome insn s ≡ (moves.Moved, t) →
              action_outcome e (jump_of i insn) s ≡ (moves.Moved, t) →
              Lands call t x
          lands-by (actions.Compute to word) is whole out_is = straight-on (actions.Compute to word) is refl (λ test f. absurd cc) whole out_is
          lands-by (actions.Load to base disp) is whole out_is = straight-on (actions.Load to base disp) is refl (λ test f. absurd cc) whole out_is
          lands-by (actions.LoadAround to base disp) is whole out_is = straight-on (actions.LoadAround to base disp) is refl (λ test f. absurd cc) whole out_is
          lands-by (actions.Store from base disp) is whole out_is = straight-on (actions.Store from base disp) is refl (λ test f. absurd cc) whole out_is
          lands-by (actions.Branching Always) is whole out_is =
              let to = branch-target (length code) i insn Always is (ok.inside i insn here) in
              goes to.0 (insns-are ∙ ap (action_code p) is)
              (ending-is ∙ ap (λ a. end_code p a (jump_of i insn)) is ∙ ap (branch_code p Always) to.1)
              to.2 (ap (λ (q : Step × State). q.1) (sym out_is) ∙ ap (state_at s) to.1)
          lands-by (actions.Branching (When c r)) is whole out_is =
              let to = branch-target (length code) i insn (When c r) is (ok.inside i insn here) in
              let there : IsSomewhere p r = subst (ReadsPlaced p) is placed-reads in
              let b : Bool = takes c (read_reg s.regs r) in
              decides all-straight c r to.0 (insns-are ∙ ap (action_code p) is)
              (ending-is ∙ ap (λ a. end_code p a (jump_of i insn)) is ∙ ap (branch_code p (When c r)) to.1)
              to.2 (tests p call c r s x places there state lent agrees)
              (ap (λ (q : Step × State). q.1) (sym out_is) ∙ ap (λ j. state_at s (cond b j (Some (s.index + 1)))) to.1 ∙ branched s at_index to.0 b)
          lands-by actions.Return is whole out_is = let wrong : moves.Returned ≡ moves.Moved = ap (λ q. q.0) out_is in absurd cc

          -- from the sequence to the next block
          lands-on : insn_outcome insn s ≡ (moves.Moved, t) → Lands call t x
          lands-on whole =
              lands-by (action_of insn) refl whole (ap (λ n. action_outcome (action_of insn) (jump_of n insn) s) (sym at_index) ∙ whole)

        -- ---- a return

        -- as many steps as there are instructions end the call, with the word of register 0
        pub record Ends : Type 0 where
          pub count : ℕ
          pub all : count ≡ length ending
          pub end : X86
          pub left : x86_run text count x ≡ (outcomes.Left, end)
          pub returns : IsCallEnd call (slice_index s.regs 0) 0 s end

        ends-here : form_at lean i ≡ Whole → action_of insn ≡ actions.Return → Ends
        ends-here form is =
            let seq : insns ≡ [] = insns-are form ∙ ap (action_code p) is in
            let at_after : x.at ≡ after = let m = at_middle in let z : total_length insns ≡ 0 = ap total_length seq in omega (arith, m, z) in
            let returns : ending ≡ plain (return_code p) = ending-is form ∙ ap (λ a. end_code p a (jump_of i insn)) is in
            let last : placed_from offset after ending ≡ return_code p =
            ap (placed_from offset after) returns ∙ placed-plain offset after (return_code p) in
            let lies : Lies text x.at (return_code p) =
            subst (λ n. Lies text n (return_code p)) (sym at_after) (lies-as text after (placed_from offset after ending) (return_code p) last ending-lies) in
            let there : IsSomewhere p 0 = subst (ReadsPlaced p) is (placed-reads form) in
            let y : X86 = with_reg p call places s x state lent agrees 0 RAX in
            let to-y : Reaches text 1 x y =
            reach-one text x y (fetch p 0 RAX) (exit_code p 0) (fetch-straight p places 0 RAX (omega arith) (omega arith)).insn lies
            (fetched p call places s x lent agrees 0 RAX (x.at + length_of (fetch p 0 RAX)) there) in
            let place : x.at + total_length (fetch p 0 RAX ∷ []) ≡ y.at = omega arith in
            let behind : Lies text y.at (exit_code p 0) =
            subst (λ n. Lies text n (exit_code p 0)) place (lies-back text x.at (fetch p 0 RAX ∷ []) (exit_code p 0) lies) in
            let l =
            leaves p call s places lent y (with-agrees p call places s x state lent agrees 0 RAX (omega arith)) text (slice_index s.regs 0) 0 (omega arith)
            (with-reads p call places s x state lent agrees 0 RAX (omega arith)) behind in
            let all : length ending ≡ length (plain (return_code p)) = ap length returns in
            let same = plain-count (return_code p) in
            let exit = l.all in
            record { count = 1 + l.count; all = omega (arith, all, same, exit); end = l.end; left = to-y.runs l.count ∙ l.left; returns = l.returns }

    -- ---- by forms

    module _ (call : Call) (s seen : State) (x : X86) (state : IsState s) (same : IsSeen lean s seen) (lent : IsLent call seen.rights) (at_index : s.index ≡ i)
        (at_middle : x.at ≡ middle) (agrees : Agrees p call seen x) (ready : IsPrepared (form_at lean i) code s x)
      where
        seen_index : seen.index ≡ i
        seen_index = same.index ∙ at_index

        there : form_at lean i ≢ Gone
        there = ready-there (form_at lean i) code s x ready

        is_lean : IsLeanAt lean code i insn
        is_lean = lives.at i insn here there

        fits-as : (f : Form) → form_at lean i ≡ f → FitsForm lean code i insn f
        fits-as f e = subst (FitsForm lean code i insn) e is_lean.fits

        lands-somewhere : (test : Test) → action_of insn ≡ actions.Branching test → jump_of i insn ≡ None → ⊥
        lands-somewhere test is none =
            let to = branch-target (length code) i insn test is (ok.inside i insn here) in
            let wrong : Some to.0 ≡ None = sym to.1 ∙ none in absurd cc

        -- a step that moves
        module _ (t : State) (whole : insn_outcome insn s ≡ (moves.Moved, t)) where
          acts : action_outcome (action_of insn) (jump_of i insn) s ≡ (moves.Moved, t)
          acts = ap (λ n. action_outcome (action_of insn) (jump_of n insn) s) (sym at_index) ∙ whole

          goes-on : MayGoOn i insn t.index
          goes-on =
              subst (λ n. Leads n (action_of insn) (jump_of i insn) t.index) at_index
              (leads s t (action_of insn) (jump_of i insn) lands-somewhere acts)

          next : IsNext t.index
          next = elim goes-on [ inl e ↦ inl (next-suc i t.index (action_of insn) e) | inr e ↦ inr e ]

          flows : (r : ℕ) → lean.live t.index r ≡ true → (written (action_of insn) ≡ Some r) ⊎ (lean.live s.index r ≡ true)
          flows r live = elim (is_lean.flows t.index r goes-on live) [
            | inl w ↦ inl w
            | inr h ↦ inr (ap (λ n. lean.live n r) at_index ∙ h)
          ]

          after-inside : t.index < length code
          after-inside =
              let at_s : slice_get code s.index ≡ Some insn = ap (slice_get code) at_index ∙ here in
              let low : s.index < length code = slice_get_within code s.index insn at_s in
              let k : IsAt (length code) (insn_outcome insn s).1 =
              insn_outcome-keeps code insn s ok at_s (ok.encoded i insn here) (record { index = low; state = state }) in
              subst (λ (q : Step × State). q.1.index < length code) whole k.index

          -- the next index has no branch that is joined, if this one has no compare
          next-ready : (y : X86) → form_at lean i ≢ Compare → IsPrepared (form_at lean t.index) code t y
          next-ready y other =
              ready-if (form_at lean t.index) code t y (is_lean.kept t.index goes-on)
              (λ jump e.
              let n = insn-there code t.index after-inside in
              absurd (other (joined-after lean code lives i t.index insn n.0 jump here n.1 next e).1))

          moves-by : (v : State) (l : Lands call v x) → v.index ≡ t.index → IsSeen lean t v → IsPrepared (form_at lean t.index) code t l.end → Moves call t x
          moves-by v l index then_same then_ready = record {
            count = l.count;
            on = elim l.on [ inl some ↦ inl some | inr far ↦ inr (omega (arith, far, index)) ];
            few = l.few;
            brief = l.brief;
            end = l.end;
            reaches = l.reaches;
            next = next;
            agrees = record { at = l.at ∙ ap offset index; seen = v; same = then_same; agrees = l.agrees; ready = then_ready };
          }

          -- the state that is seen moves too
          whole-moves : form_at lean i ≡ Whole → Moves call t x
          whole-moves form =
              let reads : ReadsLive lean s.index (action_of insn) = subst (λ n. ReadsLive lean n (action_of insn)) (sym at_index) (fits-as Whole form) in
              let m = moves-so lean s seen same state (action_of insn) (jump_of i insn) t reads flows acts in
              let v : State = m.then_seen in
              let moved : insn_outcome insn seen ≡ (moves.Moved, v) =
              ap (λ n. action_outcome (action_of insn) (jump_of n insn) seen) seen_index ∙ m.moved in
              let at_seen : slice_get code seen.index ≡ Some insn = ap (slice_get code) seen_index ∙ here in
              let k : IsAt (length code) (insn_outcome insn seen).1 =
              insn_outcome-keeps code insn seen ok at_seen (ok.encoded i insn here)
              (record { index = slice_get_within code seen.index insn at_seen; state = same.state }) in
              let v-state : IsState v = subst (λ (q : Step × State). IsState q.1) moved k.state in
              let l = lands-on call seen v x same.state lent seen_index at_middle agrees form moved in
              moves-by v l m.index (record { index = m.index; memory = m.memory; rights = m.rights; state = v-state; live = m.live })
              (next-ready l.end (λ e. let wrong : Whole ≡ Compare = sym form ∙ e in absurd cc))

          -- nothing is done
          dead-moves : form_at lean i ≡ Dead → Moves call t x
          dead-moves form =
              let d : IsDeadWrite lean i insn = fits-as Dead form in
              let w =
              write-only lean s seen same state (action_of insn) (jump_of i insn) d.to t flows d.writes
              (ap (λ n. lean.live (suc n) d.to) at_index ∙ d.dead) acts in
              let v : State = record seen { index = t.index } in
              let index : t.index ≡ suc i = w.0 ∙ ap suc at_index in
              let none : insns ≡ [] = ap (λ f. form_code p f (action_of insn)) form in
              let end : ending ≡ [] = ap (λ f. form_end p f (action_of insn) (jump_of i insn)) form in
              let start : x.at ≡ x.at + 0 = omega arith in
              let stays : EndsInAgreement p call [] x v =
              record { end = x; runs = refl; at = start; agrees = agrees-index p call places seen t.index x agrees } in
              let l =
              (falls call seen v x same.state lent seen_index at_middle agrees (subst Straight (sym none) no-insn) end
              (subst (λ c. EndsInAgreement p call c x v) (sym none) stays) index).0 in
              moves-by v l refl (seen-on lean s seen same state t w.1)
              (next-ready l.end (λ e. let wrong : Dead ≡ Compare = sym form ∙ e in absurd cc))

          -- the flags of a compare
          compare-moves : form_at lean i ≡ Compare → Moves call t x
          compare-moves form =
              let f = fits-as Compare form in
              let jump : X86Cond = f.1.0 in
              let j : AreJoined lean code i jump = f.1.2 in
              let own : action_of insn ≡ actions.Compute j.to (Applied j.op j.left j.right) =
              ap action_of (same_Some insn j.compare (sym here ∙ j.first)) ∙ j.compares in
              let w =
              write-only lean s seen same state (action_of insn) (jump_of i insn) j.to t flows (ap written own)
              (ap (λ n. lean.live (suc n) j.to) at_index ∙ j.dead) acts in
              let v : State = record seen { index = t.index } in
              let index : t.index ≡ suc i = w.0 ∙ ap suc at_index in
              let seq : insns ≡ ready_cmp_code p j.left j.right =
              ap (λ g. form_code p g (action_of insn)) form ∙ ap (compare_flags p) own in
              let end : ending ≡ [] = ap (λ g. form_end p g (action_of insn) (jump_of i insn)) form in
              let placed : ReadsPlaced p (actions.Compute j.to (Applied j.op j.left j.right)) =
              subst (ReadsPlaced p) own (of.reads i insn here (ap reads_operands form)) in
              let fit : HasOperands (actions.Compute j.to (Applied j.op j.left j.right)) =
              subst HasOperands own (action_of-operands insn (ok.encoded i insn here)) in
              let d : DecidesJoined p call j.op j.left j.right j.cond jump x seen =
              joins p call j.op j.left j.right j.cond jump seen x places placed.0 placed.1 fit.1 same.state lent agrees j.joined in
              let comes : EndsInAgreement p call insns x v = record {
                end = d.comes.end;
                runs = subst (λ c. x86_straight c x ≡ Some d.comes.end) (sym seq) d.comes.runs;
                at = d.comes.at ∙ ap (λ c. x.at + total_length c) (sym seq);
                agrees = agrees-index p call places seen t.index d.comes.end d.comes.agrees;
              } in
              let all : Straight insns = subst Straight (sym seq) (flags-straight p places call j.left j.right fit.0 fit.1) in
              let l = falls call seen v x same.state lent seen_index at_middle agrees all end comes index in
              let flags_are : l.0.end.flags ≡ Some d.flags = l.1 ∙ d.set in
              let reads : ReadsLive lean s.index (actions.Compute j.to (Applied j.op j.left j.right)) =
              subst (λ n. ReadsLive lean n (actions.Compute j.to (Applied j.op j.left j.right))) (sym at_index) (subst (ReadsLive lean i) own f.0) in
              let word : word_of j.op (read_reg seen.regs j.left) (rhs_word seen.regs j.right) ≡ read_reg t.regs j.to =
              computed-live lean s seen same state j.to (Applied j.op j.left j.right) reads
              ∙ sym (wrote-word s t j.to (Applied j.op j.left j.right) (jump_of i insn) state j.register
              (ap (λ a. action_outcome a (jump_of i insn) s) (sym own) ∙ acts)) in
              let decide : FlagsDecide jump code t l.0.end = record {
                flags = d.flags;
                set = flags_are;
                says = λ other c r at is.
                    let branch : other ≡ j.branch = same_Some other j.branch (sym at ∙ ap (slice_get code) index ∙ j.second) in
                    let both : actions.Branching (When c r) ≡ actions.Branching (When j.cond j.to) = sym is ∙ ap action_of branch ∙ j.branches in
                    d.says ∙ ap (takes j.cond) word ∙ same-branch c j.cond r j.to t.regs both;
              } in
              let joined : form_at lean t.index ≡ Joined jump = ap (form_at lean) index ∙ f.1.1 in
              moves-by v l.0 refl (seen-on lean s seen same state t w.1) (subst (λ g. IsPrepared g code t l.0.end) (sym joined) decide)

          -- the flags decide
          joined-moves : (jump : X86Cond) → form_at lean i ≡ Joined jump → Moves call t x
          joined-moves jump form =
              let b = compared-before lean code lives i insn jump here form in
              let j : AreJoined lean code b.before jump = b.joined in
              let own : action_of insn ≡ actions.Branching (When j.cond j.to) =
              ap action_of (same_Some insn j.branch (sym here ∙ ap (slice_get code) b.next ∙ j.second)) ∙ j.branches in
              let to = branch-target (length code) i insn (When j.cond j.to) own (ok.inside i insn here) in
              let d : FlagsDecide jump code s x = subst (λ g. IsPrepared g code s x) form ready in
              let taken : Bool = takes j.cond (read_reg s.regs j.to) in
              let says : cond_holds jump d.flags ≡ taken = d.says insn j.cond j.to (ap (slice_get code) at_index ∙ here) own in
              let seq : insns ≡ [] = ap (λ g. form_code p g (action_of insn)) form in
              let end : ending ≡ GoIf jump to.0 ∷ [] =
              ap (λ g. form_end p g (action_of insn) (jump_of i insn)) form ∙ ap (joined_code jump) to.1 in
              let at_after : x.at ≡ after = let m = at_middle in let z : total_length insns ≡ 0 = ap total_length seq in omega (arith, m, z) in
              let g = jumps-if jump to.0 taken d.flags x agrees.machine at_after end to.2 d.set says in
              let k : ℕ = cond taken to.0 (suc i) in
              let is : t ≡ record s { index = k } =
              ap (λ (q : Step × State). q.1) (sym acts) ∙ ap (λ a. (action_outcome a (jump_of i insn) s).1) own
              ∙ ap (λ o. state_at s (cond taken o (Some (s.index + 1)))) to.1
              ∙ branched s at_index to.0 taken in
              let index : k ≡ t.index = ap (λ (q : State). q.index) (sym is) in
              let v : State = record seen { index = t.index } in
              let few = g.few in
              let brief = g.brief in
              let l : Lands call v x = record {
                count = g.count;
                on = inl g.some;
                few = omega (arith, few);
                brief = omega (arith, brief);
                end = g.end;
                reaches = g.reaches;
                at = g.at ∙ ap offset index;
                agrees = agrees-index p call places seen t.index g.end (agrees-same p call seen x g.end places agrees g.same);
              } in
              let only =
              branch-only lean s seen same state (When j.cond j.to) k t
              (λ r live. elim (flows r live) [ inl w ↦ inl (sym (ap written own) ∙ w) | inr h ↦ inr h ]) is in
              moves-by v l refl (seen-on lean s seen same state t only)
              (next-ready l.end (λ e. let wrong : Joined jump ≡ Compare = sym form ∙ e in absurd cc))

          by-form : (f : Form) → form_at lean i ≡ f → Moves call t x
          by-form Whole e = whole-moves e
          by-form Dead e = dead-moves e
          by-form Compare e = compare-moves e
          by-form (Joined jump) e = joined-moves jump e
          by-form Gone e = absurd (there e)

          -- from the sequence to the next block
          pub moves-on : Moves call t x
          moves-on = by-form (form_at lean i) refl

        -- ---- a return

        -- as many steps as there are instructions end the call, with the word of register 0
        pub record EndsCall : Type 0 where
          pub count : ℕ
          pub all : count ≡ length ending
          pub end : X86
          pub left : x86_run text count x ≡ (outcomes.Left, end)
          pub returns : IsCallEnd call (slice_index s.regs 0) 0 s end

        ends-as : (f : Form) → form_at lean i ≡ f → action_of insn ≡ actions.Return → EndsCall
        ends-as Whole form is =
            let e = ends-here call seen seen x same.state lent seen_index at_middle agrees form is in
            let reads : ReadsLive lean s.index actions.Return =
            subst (λ n. ReadsLive lean n actions.Return) (sym at_index) (subst (ReadsLive lean i) is (fits-as Whole form)) in
            record { count = e.count; all = e.all; end = e.end; left = e.left; returns = end-seen lean call s seen same state reads e.end e.returns }
        ends-as Dead form is =
            let d : IsDeadWrite lean i insn = fits-as Dead form in
            let wrong : None ≡ Some d.to = sym (ap written is) ∙ d.writes in absurd cc
        ends-as Compare form is =
            let j = (fits-as Compare form).1.2 in
            let wrong : actions.Return ≡ actions.Compute j.to (Applied j.op j.left j.right) =
            sym is ∙ ap action_of (same_Some insn j.compare (sym here ∙ j.first)) ∙ j.compares in absurd cc
        ends-as (Joined jump) form is =
            let b = compared-before lean code lives i insn jump here form in
            let wrong : actions.Return ≡ actions.Branching (When b.joined.cond b.joined.to) =
            sym is ∙ ap action_of (same_Some insn b.joined.branch (sym here ∙ ap (slice_get code) b.next ∙ b.joined.second)) ∙ b.joined.branches in
            absurd cc
        ends-as Gone form is = absurd (there form)

        pub returns-so : (v : State) → insn_outcome insn s ≡ (moves.Returned, v) → EndsCall × (v ≡ s)
        returns-so v e = let r = returned s (action_of insn) (jump_of s.index insn) v e in (ends-as (form_at lean i) refl r.0, r.1)
