-- Lists of instructions that bring a word into a register, and the words of operators.
use Rattle.std.proofs.Common.{◌≡◌, ℕ, ◌+◌, ◌%◌, ◌^◌, ◌<◌, ◌≤◌, Bool, true, false, List, [], ◌∷◌, ◌++◌, slice_index, slice_set, Option, Some, None, pos}
use Rattle.std.proofs.Common.{refl, ap, ◌∙◌, subst, arith}
use Rattle.std.proofs.lemmas.Nat.{mod_below}
use Rattle.word_ops.specs.declared.Op.{Op}
use Rattle.word_ops.specs.Words.{word_of, flag_of}
use Rattle.word_ops.proofs.EachOp.{word_of-below}
use Rattle.x86_words.specs.declared.operators.AluOp.{AluOp}
use Rattle.x86_words.specs.declared.operators.ShiftOp.{ShiftOp}
use Rattle.x86_words.specs.declared.operators.X86Cond.{X86Cond}
use Rattle.x86_words.specs.declared.insn.X86Insn.{X86Insn}
use Rattle.x86_words.specs.declared.insn.X86Insn.TheVariants.{Alu, AluImm, ShiftImm, ShiftCl, Set, MovByte}
use Rattle.x86_words.specs.Encoding.{length_of}
use Rattle.x86_machine.specs.declared.flags.Flags.{Flags}
use Rattle.x86_machine.specs.declared.outcome.X86Step.{X86Step}
use Rattle.x86_machine.specs.declared.outcome.X86Step.TheVariants as steps
use Rattle.x86_machine.specs.Flags.{alu_word, alu_regs, alu_flags, cond_holds, shift_word}
use Rattle.x86_machine.specs.Machine.{X86, IsX86, extended, asks, puts, with_low_byte, x86_outcome}
use Rattle.x86_machine.proofs.Keeping.{low_byte-below, shift_word-below}
use Rattle.native_steps.specs.Places.{RAX}
use Rattle.native_steps.proofs.Straights.{Runs, none-run, then-run, both-run}
use Rattle.native_steps.proofs.Frames.{wrote, SameTo, to-same, to-trans, to-wrote, wrote-same, wrote-is, wrote-reads}

-- the instructions bring a word into a register, and change nothing but that and temporaries
pub record Gives (work : ℕ) (code : List X86Insn) (x : X86) (word : ℕ) : Type 0 where
  pub end : X86
  pub runs : Runs code x end
  pub same : SameTo work x end
  pub brings : slice_index end.regs work ≡ word

pub gives-as : (work : ℕ) (code : List X86Insn) (x : X86) (v w : ℕ) → v ≡ w → Gives work code x v → Gives work code x w
gives-as work code x v w e g = record { end = g.end; runs = g.runs; same = g.same; brings = g.brings ∙ e }

-- instructions that lead to a state, and the rest
pub after-code : (work : ℕ) (code rest : List X86Insn) (x y : X86) (word : ℕ) → Runs code x y → SameTo work x y → Gives work rest y word →
    Gives work (code ++ rest) x word
after-code work code rest x y word runs same g = record {
  end = g.end;
  runs = both-run code rest x y g.end runs g.runs;
  same = to-trans work x y g.end same g.same;
  brings = g.brings;
}

-- one instruction that writes a temporary, and the rest
pub then-gives : (work : ℕ) (i : X86Insn) (rest : List X86Insn) (x : X86) (f : Option Flags) (to v word : ℕ) → IsX86 x → to < 2 → v < 2 ^ 64 →
    x86_outcome x (x.at + length_of i) i ≡ (steps.Moved, wrote x (x.at + length_of i) f to v) →
    Gives work rest (wrote x (x.at + length_of i) f to v) word →
    Gives work (i ∷ rest) x word
then-gives work i rest x f to v word is low below e g =
    let y = wrote x (x.at + length_of i) f to v in
    record {
      end = g.end;
      runs = then-run i rest x y g.end e refl g.runs;
      same = to-trans work x y g.end (to-same work x y (wrote-same x (x.at + length_of i) f to v is low below)) g.same;
      brings = g.brings;
    }

-- one that writes the register, and the rest
pub work-gives : (work : ℕ) (i : X86Insn) (rest : List X86Insn) (x : X86) (f : Option Flags) (v word : ℕ) → IsX86 x → v < 2 ^ 64 →
    x86_outcome x (x.at + length_of i) i ≡ (steps.Moved, wrote x (x.at + length_of i) f work v) →
    Gives work rest (wrote x (x.at + length_of i) f work v) word →
    Gives work (i ∷ rest) x word
work-gives work i rest x f v word is below e g =
    let y = wrote x (x.at + length_of i) f work v in
    record {
      end = g.end;
      runs = then-run i rest x y g.end e refl g.runs;
      same = to-trans work x y g.end (to-wrote x (x.at + length_of i) f work v is below) g.same;
      brings = g.brings;
    }

-- the last one, which writes the register
pub last-gives : (work : ℕ) (i : X86Insn) (x : X86) (f : Option Flags) (word : ℕ) → IsX86 x → work < 16 → word < 2 ^ 64 →
    x86_outcome x (x.at + length_of i) i ≡ (steps.Moved, wrote x (x.at + length_of i) f work word) →
    Gives work (i ∷ []) x word
last-gives work i x f word is low below e =
    let y = wrote x (x.at + length_of i) f work word in
    record {
      end = y;
      runs = then-run i [] x y y e refl (none-run y);
      same = to-wrote x (x.at + length_of i) f work word is below;
      brings = wrote-reads x (x.at + length_of i) f work word is low;
    }

-- ---- one operator

-- an operator of the processor that writes its word, which is that of one of the Alpha
pub record IsAluFor (o : AluOp) (op : Op) : Type 0 where
  pub writes : (regs : List ℕ) (to b : ℕ) → alu_regs o regs to b ≡ slice_set regs to (alu_word o (slice_index regs to) b)
  pub word : (a b : ℕ) → alu_word o a b ≡ word_of op a b

-- it writes its register
alu-outcome : (o : AluOp) (op : Op) (x : X86) (next work b v w : ℕ) → IsAluFor o op → slice_index x.regs work ≡ v → b ≡ w →
    ◌≡◌ {A = X86Step × X86} (
      steps.Moved,
      record x { at = next; regs = alu_regs o x.regs work b; flags = Some (alu_flags o (slice_index x.regs work) b) },
    ) (steps.Moved, wrote x next (Some (alu_flags o v w)) work (word_of op v w))
alu-outcome o op x next work b v w is first second =
    let to : List ℕ → Flags → X86Step × X86 = λ regs f. (steps.Moved, record x { at = next; regs = regs; flags = Some f }) in
    ap (λ regs. to regs (alu_flags o (slice_index x.regs work) b)) (is.writes x.regs work b ∙ ap (slice_set x.regs work) (is.word (slice_index x.regs work) b))
    ∙ ap (λ a. to (slice_set x.regs work (word_of op a b)) (alu_flags o a b)) first
    ∙ ap (λ c. to (slice_set x.regs work (word_of op v c)) (alu_flags o v c)) second

-- by a register
pub alu-gives : (o : AluOp) (op : Op) (x : X86) (work q v w : ℕ) → IsAluFor o op → IsX86 x → work < 16 → slice_index x.regs work ≡ v →
    slice_index x.regs q ≡ w → Gives work (Alu o work q ∷ []) x (word_of op v w)
alu-gives o op x work q v w is machine low first second =
    last-gives work (Alu o work q) x (Some (alu_flags o v w)) (word_of op v w) machine low
    (word_of-below op v w (subst (λ k. k < 2 ^ 64) first (machine.words work)) (subst (λ k. k < 2 ^ 64) second (machine.words q)))
    (alu-outcome o op x (x.at + 3) work (slice_index x.regs q) v w is first second)

-- by a literal
pub alu_imm-gives : (o : AluOp) (op : Op) (x : X86) (work n v : ℕ) → IsAluFor o op → IsX86 x → work < 16 → n < 2 ^ 8 → slice_index x.regs work ≡ v →
    Gives work (AluImm o work (pos n) ∷ []) x (word_of op v n)
alu_imm-gives o op x work n v is machine low small first =
    last-gives work (AluImm o work (pos n)) x (Some (alu_flags o v n)) (word_of op v n) machine low
    (word_of-below op v n (subst (λ k. k < 2 ^ 64) first (machine.words work)) (omega (arith, small)))
    (alu-outcome o op x (x.at + 7) work (extended (pos n)) v n is first (omega (arith, small)))

-- ---- compares

low-byte : (a : ℕ) (b : Bool) → with_low_byte a b % 2 ^ 8 ≡ flag_of b
low-byte a true = omega arith
low-byte a false = omega arith

-- what is cut to the low n values
pub cut-below : (a n : ℕ) → 0 < n → n ≤ 2 ^ 64 → a % n < 2 ^ 64
cut-below a n p q = omega (arith, q, mod_below a n p)

-- 1 where the condition holds of the flags, else 0
pub set-gives : (work : ℕ) (c : X86Cond) (x : X86) (f : Flags) (t : Bool) → IsX86 x → work < 16 → x.flags ≡ Some f → cond_holds c f ≡ t →
    Gives work (Set c RAX ∷ MovByte work RAX ∷ []) x (flag_of t)
set-gives work c x f t is low known e =
    let word : ℕ = with_low_byte (slice_index x.regs 0) (cond_holds c f) in
    let below : word < 2 ^ 64 = low_byte-below (slice_index x.regs 0) (cond_holds c f) (is.words 0) in
    let z : X86 = wrote x (x.at + 4) x.flags 0 word in
    let z-is : IsX86 z = wrote-is x (x.at + 4) x.flags 0 word is below in
    let read : slice_index z.regs 0 ≡ word = wrote-reads x (x.at + 4) x.flags 0 word is (omega arith) in
    let cut : slice_index z.regs 0 % 2 ^ 8 ≡ flag_of t = ap (λ w. w % 2 ^ 8) read ∙ low-byte (slice_index x.regs 0) (cond_holds c f) ∙ ap flag_of e in
    let does : x86_outcome x (x.at + 4) (Set c RAX) ≡ (steps.Moved, z) =
    ap (λ (o : Option Flags). asks x o (λ g. puts x (x.at + 4) 0 (with_low_byte (slice_index x.regs 0) (cond_holds c g)))) known in
    then-gives work (Set c RAX) (MovByte work RAX ∷ []) x x.flags 0 word (flag_of t) is (omega arith) below does
    (gives-as work (MovByte work RAX ∷ []) z (slice_index z.regs 0 % 2 ^ 8) (flag_of t) cut
    (last-gives work (MovByte work RAX) z z.flags (slice_index z.regs 0 % 2 ^ 8) z-is low
    (cut-below (slice_index z.regs 0) (2 ^ 8) (omega arith) (omega arith)) refl))

-- ---- shifts

pub twice-mod : (b : ℕ) → b % 64 % 64 ≡ b % 64
twice-mod b = omega arith

-- a shift of the processor by a count below 64 is one of the Alpha
pub record IsShiftFor (o : ShiftOp) (op : Op) : Type 0 where
  pub word : (a b : ℕ) → shift_word o a (b % 64) ≡ word_of op a b

pub shift_imm-gives : (o : ShiftOp) (op : Op) (x : X86) (work n v : ℕ) → IsShiftFor o op → IsX86 x → work < 16 → slice_index x.regs work ≡ v →
    Gives work (ShiftImm o work (n % 64) ∷ []) x (word_of op v n)
shift_imm-gives o op x work n v is machine low first =
    let word : ℕ = shift_word o (slice_index x.regs work) (n % 64) in
    gives-as work (ShiftImm o work (n % 64) ∷ []) x word (word_of op v n) (ap (λ a. shift_word o a (n % 64)) first ∙ is.word v n)
    (last-gives work (ShiftImm o work (n % 64)) x None word machine low (shift_word-below o (slice_index x.regs work) (n % 64) (machine.words work)) refl)

pub shift_cl-gives : (o : ShiftOp) (op : Op) (x : X86) (work v w : ℕ) → IsShiftFor o op → IsX86 x → work < 16 → slice_index x.regs work ≡ v →
    slice_index x.regs 1 ≡ w → Gives work (ShiftCl o work ∷ []) x (word_of op v w)
shift_cl-gives o op x work v w is machine low first second =
    let word : ℕ = shift_word o (slice_index x.regs work) (slice_index x.regs 1 % 64) in
    gives-as work (ShiftCl o work ∷ []) x word (word_of op v w)
    (ap (λ a. shift_word o a (slice_index x.regs 1 % 64)) first ∙ ap (λ c. shift_word o v (c % 64)) second ∙ is.word v w)
    (last-gives work (ShiftCl o work) x None word machine low
    (shift_word-below o (slice_index x.regs work) (slice_index x.regs 1 % 64) (machine.words work)) refl)
