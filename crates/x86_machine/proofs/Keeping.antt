-- What a step keeps: sixteen words, a memory of words, aligned spans; and the rights.
use Rattle.std.proofs.Common.{◌≡◌, ℕ, zero, suc, ◌+◌, ◌*◌, ◌%◌, ◌^◌, ◌<◌, Bool, true, false, List, length, slice_index, slice_set, drop, Option, Some}
use Rattle.std.proofs.Common.{None, refl, sym, ap, ◌∙◌, arith, ℤ, pos, negsuc, FitsSigned, inl, inr, length-set, if◌then◌else◌}
use Rattle.std.specs.Int.{w32}
use Rattle.std.proofs.lemmas.Bool.{cases_eq, cases_lt, cond_both}
use Rattle.std.proofs.lemmas.List.{get_or-set_same, get_or-set_other, set_past}
use Rattle.std.proofs.lemmas.Nat.{mod_below, shr_le}
use Rattle.word_ops.specs.declared.Op.TheVariants as ops
use Rattle.word_ops.specs.Memory.{read}
use Rattle.word_ops.specs.Rights.{allowed}
use Rattle.word_ops.proofs.Bounds.{shifted_signed-below}
use Rattle.word_ops.proofs.EachOp.{word_of-below}
use Rattle.word_ops.proofs.Memories.{IsMemory-write, read-below}
use Rattle.x86_words.specs.declared.operators.AluOp.{AluOp}
use Rattle.x86_words.specs.declared.operators.AluOp.TheVariants as alu
use Rattle.x86_words.specs.declared.operators.ShiftOp.{ShiftOp}
use Rattle.x86_words.specs.declared.operators.ShiftOp.TheVariants as shift
use Rattle.x86_words.specs.declared.insn.X86Insn.{X86Insn}
use Rattle.x86_words.specs.declared.insn.X86Insn.TheVariants.{Mov, MovImm, MovZero, MovAbs, Load, Store, Alu, AluImm, AluLoad, Lea, LeaScaled}
use Rattle.x86_words.specs.declared.insn.X86Insn.TheVariants.{ShiftImm, ShiftCl, Not, Test, TestImm, Set, MovByte, MovTwo, MovFour, JumpIf, Jump, Ret}
use Rattle.x86_words.specs.declared.insn.X86Insn.TheVariants.{Nop}
use Rattle.x86_words.specs.Codes.{scale_factor}
use Rattle.x86_words.specs.Encoding.{length_of, FitsFields}
use Rattle.x86_words.proofs.Fronts.{begins}
use Rattle.x86_machine.specs.declared.flags.Flags.{Flags}
use Rattle.x86_machine.specs.declared.outcome.X86Step.{X86Step}
use Rattle.x86_machine.specs.declared.outcome.X86Step.TheVariants as steps
use Rattle.x86_machine.specs.declared.outcome.X86Outcome.{X86Outcome}
use Rattle.x86_machine.specs.declared.outcome.X86Outcome.TheVariants as outcomes
use Rattle.x86_machine.specs.Flags.{alu_word, shift_word, cond_holds}
use Rattle.x86_machine.specs.Machine.{X86, IsX86, extended, with_low_byte, puts, loads, stores, operates, shifts, asks, jumps, jump_offset}
use Rattle.x86_machine.specs.Machine.{disp_address, x86_outcome, fetched, x86_step_at, x86_step, x86_ends_with, x86_run}

-- ---- words

pub words-set : (regs : List ℕ) (to word : ℕ) → ((r : ℕ) → slice_index regs r < 2 ^ 64) → word < 2 ^ 64 →
    (q : ℕ) → slice_index (slice_set regs to word) q < 2 ^ 64
words-set regs to word h w q = elim (cases_eq q to) [
  | inl e ↦ elim (cases_lt to (length regs)) [
    | inl within ↦ rw (e, get_or-set_same regs to word 0 within) w
    | inr past ↦ rw (set_past regs to word past) (h q)
  ]
  | inr apart ↦ rw (get_or-set_other regs to q word 0 apart) (h q)
]

extended-below : (z : ℤ) → FitsSigned w32 z → extended z < 2 ^ 64
extended-below (pos n) h = let b : n < 2 ^ 31 = h.sfits in omega (arith, b)
extended-below (negsuc n) h = omega arith

alu_word-below : (op : AluOp) (a b : ℕ) → a < 2 ^ 64 → b < 2 ^ 64 → alu_word op a b < 2 ^ 64
alu_word-below alu.Add a b p q = word_of-below ops.Add a b p q
alu_word-below alu.Or a b p q = word_of-below ops.Bis a b p q
alu_word-below alu.And a b p q = word_of-below ops.Band a b p q
alu_word-below alu.Sub a b p q = word_of-below ops.Sub a b p q
alu_word-below alu.Xor a b p q = word_of-below ops.Xor a b p q
alu_word-below alu.Cmp a b p q = word_of-below ops.Sub a b p q

pub shift_word-below : (op : ShiftOp) (a count : ℕ) → a < 2 ^ 64 → shift_word op a count < 2 ^ 64
shift_word-below shift.Shl a count p = mod_below (a * 2 ^ (count % 64)) (2 ^ 64) (omega arith)
shift_word-below shift.Shr a count p = omega (arith, p, shr_le a (count % 64))
shift_word-below shift.Sar a count p = shifted_signed-below a (count % 64) p

pub low_byte-below : (a : ℕ) (b : Bool) → a < 2 ^ 64 → with_low_byte a b < 2 ^ 64
low_byte-below a true p = omega (arith, p)
low_byte-below a false p = omega (arith, p)

module _ (x : X86) (next : ℕ) where
  -- ---- the rights

  abbrev SameRights : X86Step × X86 → Type 0
  SameRights q = q.1.rights ≡ x.rights

  loads-rights : (a : ℕ) (go : ℕ → X86Step × X86) → ((word : ℕ) → SameRights (go word)) → SameRights (loads x a go)
  loads-rights a go h = cond_both (allowed x.rights.reads a) _ _ SameRights (λ _. h (read x.memory a)) (λ _. refl)

  stores-rights : (a word : ℕ) → SameRights (stores x next a word)
  stores-rights a word = cond_both (allowed x.rights.writes a) _ _ SameRights (λ _. refl) (λ _. refl)

  asks-rights : (o : Option Flags) (go : Flags → X86Step × X86) → ((f : Flags) → SameRights (go f)) → SameRights (asks x o go)
  asks-rights None go h = refl
  asks-rights (Some f) go h = h f

  jumps-rights : (o : Option ℕ) → SameRights (jumps x o)
  jumps-rights None = refl
  jumps-rights (Some n) = refl

  outcome-rights : (i : X86Insn) → SameRights (x86_outcome x next i)
  outcome-rights (Load to base disp) = loads-rights (disp_address x base disp) (puts x next to) (λ _. refl)
  outcome-rights (Store base disp from) = stores-rights (disp_address x base disp) (slice_index x.regs from)
  outcome-rights (AluLoad op to base disp) = loads-rights (disp_address x base disp) (operates x next op to) (λ _. refl)
  outcome-rights (Set c to) = asks-rights x.flags _ (λ f. refl)
  outcome-rights (JumpIf c disp) = asks-rights x.flags _ (λ f. jumps-rights _)
  outcome-rights (Jump disp) = jumps-rights (jump_offset next disp)
  outcome-rights i = refl

  -- ---- a state stays one

  abbrev Keeps : X86Step × X86 → Type 0
  Keeps q = IsX86 q.1

  module _ (is : IsX86 x) where
    puts-keeps : (to word : ℕ) → word < 2 ^ 64 → Keeps (puts x next to word)
    puts-keeps to word w = record {
      count = length-set x.regs to word ∙ is.count;
      words = words-set x.regs to word is.words w;
      memory = is.memory;
      rights = is.rights;
    }

    loads-keeps : (a : ℕ) (go : ℕ → X86Step × X86) → ((word : ℕ) → word < 2 ^ 64 → Keeps (go word)) → Keeps (loads x a go)
    loads-keeps a go h = cond_both (allowed x.rights.reads a) _ _ Keeps (λ _. h (read x.memory a) (read-below x.memory a is.memory)) (λ _. is)

    stores-keeps : (a word : ℕ) → a < 2 ^ 64 → word < 2 ^ 64 → Keeps (stores x next a word)
    stores-keeps a word p w =
        cond_both (allowed x.rights.writes a) _ _ Keeps
        (λ _. record { count = is.count; words = is.words; memory = IsMemory-write x.memory a word is.memory p w; rights = is.rights }) (λ _. is)

    -- an operator other than cmp
    writes-keeps : (f : Option Flags) (to word : ℕ) → word < 2 ^ 64 → IsX86 (record x { at = next; regs = slice_set x.regs to word; flags = f })
    writes-keeps f to word w = record
        { count = length-set x.regs to word ∙ is.count; words = words-set x.regs to word is.words w; memory = is.memory; rights = is.rights }

    operates-keeps : (op : AluOp) (to b : ℕ) → b < 2 ^ 64 → Keeps (operates x next op to b)
    operates-keeps alu.Add to b p = writes-keeps _ to _ (alu_word-below alu.Add (slice_index x.regs to) b (is.words to) p)
    operates-keeps alu.Or to b p = writes-keeps _ to _ (alu_word-below alu.Or (slice_index x.regs to) b (is.words to) p)
    operates-keeps alu.And to b p = writes-keeps _ to _ (alu_word-below alu.And (slice_index x.regs to) b (is.words to) p)
    operates-keeps alu.Sub to b p = writes-keeps _ to _ (alu_word-below alu.Sub (slice_index x.regs to) b (is.words to) p)
    operates-keeps alu.Xor to b p = writes-keeps _ to _ (alu_word-below alu.Xor (slice_index x.regs to) b (is.words to) p)
    operates-keeps alu.Cmp to b p = record { count = is.count; words = is.words; memory = is.memory; rights = is.rights }

    shifts-keeps : (op : ShiftOp) (to count : ℕ) → Keeps (shifts x next op to count)
    shifts-keeps op to count = writes-keeps None to _ (shift_word-below op (slice_index x.regs to) count (is.words to))

    -- all but registers and memory
    parts-keep : (at : ℕ) (f : Option Flags) → IsX86 (record x { at = at; flags = f })
    parts-keep at f = record { count = is.count; words = is.words; memory = is.memory; rights = is.rights }

    asks-keeps : (o : Option Flags) (go : Flags → X86Step × X86) → ((f : Flags) → Keeps (go f)) → Keeps (asks x o go)
    asks-keeps None go h = is
    asks-keeps (Some f) go h = h f

    jumps-keeps : (o : Option ℕ) → Keeps (jumps x o)
    jumps-keeps None = is
    jumps-keeps (Some n) = record { count = is.count; words = is.words; memory = is.memory; rights = is.rights }

    address-below : (base : ℕ) (disp : ℤ) → disp_address x base disp < 2 ^ 64
    address-below base disp = mod_below (slice_index x.regs base + extended disp) (2 ^ 64) (omega arith)

    cut-below : (a n : ℕ) → 0 < n → n < 2 ^ 64 → a % n < 2 ^ 64
    cut-below a n p q = omega (arith, q, mod_below a n p)

    outcome-keeps : (i : X86Insn) → FitsFields i → Keeps (x86_outcome x next i)
    outcome-keeps (Mov to from) h = puts-keeps to _ (is.words from)
    outcome-keeps (MovImm to imm) h = puts-keeps to _ (extended-below imm h.1)
    outcome-keeps (MovZero to imm) h = puts-keeps to _ (omega (arith, h.1))
    outcome-keeps (MovAbs to imm) h = puts-keeps to _ h.1
    outcome-keeps (Load to base disp) h = loads-keeps (disp_address x base disp) (puts x next to) (puts-keeps to)
    outcome-keeps (Store base disp from) h = stores-keeps (disp_address x base disp) (slice_index x.regs from) (address-below base disp) (is.words from)
    outcome-keeps (Alu op to from) h = operates-keeps op to _ (is.words from)
    outcome-keeps (AluImm op to imm) h = operates-keeps op to _ (extended-below imm h.1)
    outcome-keeps (AluLoad op to base disp) h = loads-keeps (disp_address x base disp) (operates x next op to) (operates-keeps op to)
    outcome-keeps (Lea to base disp) h = puts-keeps to _ (address-below base disp)
    outcome-keeps (LeaScaled to base index s) h = puts-keeps to _
        (mod_below (slice_index x.regs base + scale_factor s * slice_index x.regs index) (2 ^ 64) (omega arith))
    outcome-keeps (ShiftImm op to count) h = shifts-keeps op to count
    outcome-keeps (ShiftCl op to) h = shifts-keeps op to _
    outcome-keeps (Not to) h = puts-keeps to _ (omega arith)
    outcome-keeps (Test left right) h = parts-keep next _
    outcome-keeps (TestImm left imm) h = parts-keep next _
    outcome-keeps (Set c to) h = asks-keeps x.flags _ (λ f. puts-keeps to _ (low_byte-below (slice_index x.regs to) (cond_holds c f) (is.words to)))
    outcome-keeps (MovByte to from) h = puts-keeps to _ (cut-below (slice_index x.regs from) (2 ^ 8) (omega arith) (omega arith))
    outcome-keeps (MovTwo to from) h = puts-keeps to _ (cut-below (slice_index x.regs from) (2 ^ 16) (omega arith) (omega arith))
    outcome-keeps (MovFour to from) h = puts-keeps to _ (cut-below (slice_index x.regs from) (2 ^ 32) (omega arith) (omega arith))
    outcome-keeps (JumpIf c disp) h = asks-keeps x.flags _ (λ f. jumps-keeps (if cond_holds c f then jump_offset next disp else Some next))
    outcome-keeps (Jump disp) h = jumps-keeps (jump_offset next disp)
    outcome-keeps Ret h = is
    outcome-keeps Nop h = parts-keep next x.flags

-- ---- steps and runs

step_at-rights : (o : Option X86Insn) (x : X86) → (x86_step_at o x).1.rights ≡ x.rights
step_at-rights None x = refl
step_at-rights (Some i) x = outcome-rights x (x.at + length_of i) i

ends-rights : (s : X86Step) (y : X86) (on : X86Outcome × X86) → on.1.rights ≡ y.rights → (x86_ends_with s y on).1.rights ≡ y.rights
ends-rights steps.Moved y on h = h
ends-rights steps.Left y on h = refl
ends-rights steps.Stuck y on h = refl

pub run-rights : (code : List ℕ) (n : ℕ) (x : X86) → (x86_run code n x).1.rights ≡ x.rights
run-rights code zero x = refl
run-rights code (suc n) x =
    let p = x86_step code x in
    ends-rights p.0 p.1 (x86_run code n p.1) (run-rights code n p.1) ∙ step_at-rights (fetched code x.at) x

kept : (code : List ℕ) (x : X86) → IsX86 x → (o : Option X86Insn) → fetched code x.at ≡ o → IsX86 (x86_step_at o x).1
kept code x is None e = is
kept code x is (Some i) e = outcome-keeps x (x.at + length_of i) is i (begins (drop x.at code) i e).encodes.insn.widths

pub step-keeps : (code : List ℕ) (x : X86) → IsX86 x → IsX86 (x86_step code x).1
step-keeps code x is = kept code x is (fetched code x.at) refl

-- ---- runs one behind the other

moved-on : (p : X86Step × X86) (on : X86Outcome × X86) (u : X86) → x86_ends_with p.0 p.1 on ≡ (outcomes.OutOfSteps, u) →
    (p.0 ≡ steps.Moved) × (on ≡ (outcomes.OutOfSteps, u))
moved-on (steps.Moved, t) on u e = (refl, e)
moved-on (steps.Left, t) on u e = let wrong : outcomes.Left ≡ outcomes.OutOfSteps = ap (λ q. q.0) e in (cc, cc)
moved-on (steps.Stuck, t) on u e = let wrong : outcomes.Stuck ≡ outcomes.OutOfSteps = ap (λ q. q.0) e in (cc, cc)

run-behind : (code : List ℕ) (k n : ℕ) (x u : X86) → x86_run code k x ≡ (outcomes.OutOfSteps, u) → x86_run code (k + n) x ≡ x86_run code n u
run-behind code zero n x u e =
    let none : 0 + n ≡ n = omega arith in
    ap (λ m. x86_run code m x) none ∙ ap (x86_run code n) (ap (λ q. q.1) e)
run-behind code (suc k) n x u e =
    let p = x86_step code x in
    let m = moved-on p (x86_run code k p.1) u e in
    let one : suc k + n ≡ suc (k + n) = omega arith in
    ap (λ j. x86_run code j x) one ∙ ap (λ (q : X86Step). x86_ends_with q p.1 (x86_run code (k + n) p.1)) m.0 ∙ run-behind code k n p.1 u m.1

pub runs-join : (code : List ℕ) (n k : ℕ) (x y : X86) → x86_run code n x ≡ (outcomes.OutOfSteps, y) → x86_run code k y ≡ x86_run code (n + k) x
runs-join code n k x y e = sym (run-behind code n k x y e)
