-- The words and the flags that operators give, and when a condition holds.
-- Intel 64 and IA-32 Architectures Software Developer's Manual, volume 1: section 3.4.3.1, "Status Flags", and appendix B, "EFLAGS Condition
-- Codes"; volume 2: "Operation" and "Flags Affected" of each instruction's page. The adjust and parity flags aren't modelled: no condition
-- of the subset reads them.
use Rattle.std.specs.Prelude.{◌≡◌, ℕ, ◌+◌, ◌-◌, ◌^◌, ◌<◌, Bool, true, false, not, ◌||◌, ◌==◌, nat_le, nat_lt, bit_and, ℤ, pos, negsuc, ◌+ℤ◌, ◌-ℤ◌, List, slice_index, slice_set}
use Rattle.word_ops.specs.declared.Op.TheVariants as ops
use Rattle.word_ops.specs.declared.Rel.TheVariants.{Eq, Ult, Ule, Slt, Sle}
use Rattle.word_ops.specs.Words.{word_of, signed, test_of}
use Rattle.x86_words.specs.declared.operators.AluOp.{AluOp}
use Rattle.x86_words.specs.declared.operators.AluOp.TheVariants.{Add, Or, And, Sub, Xor, Cmp}
use Rattle.x86_words.specs.declared.operators.ShiftOp.{ShiftOp}
use Rattle.x86_words.specs.declared.operators.ShiftOp.TheVariants.{Shl, Shr, Sar}
use Rattle.x86_words.specs.declared.operators.X86Cond.{X86Cond}
use Rattle.x86_words.specs.declared.operators.X86Cond.TheVariants.{Below, AboveOrEqual, Equal, NotEqual, BelowOrEqual, Above, Sign, NoSign, Less, GreaterOrEqual, LessOrEqual, Greater}
use Rattle.x86_machine.specs.declared.flags.Flags.{Flags}

-- the word of an operator: sums and differences modulo 2^64
abbrev pub alu_word : AluOp → ℕ → ℕ → ℕ
alu_word Add a b = word_of ops.Add a b
alu_word Or a b = word_of ops.Bis a b
alu_word And a b = word_of ops.Band a b
alu_word Sub a b = word_of ops.Sub a b
alu_word Xor a b = word_of ops.Xor a b
alu_word Cmp a b = word_of ops.Sub a b

-- the word of a shift by a count below 64
abbrev pub shift_word : ShiftOp → ℕ → ℕ → ℕ
shift_word Shl a count = word_of ops.Sll a count
shift_word Shr a count = word_of ops.Srl a count
shift_word Sar a count = word_of ops.Sra a count

-- the highest bit
abbrev pub is_high : ℕ → Bool
is_high word = nat_le (2 ^ 63) word

-- a number that 64 bits of two's complement don't hold
abbrev pub is_outside : ℤ → Bool
is_outside (pos n) = nat_le (2 ^ 63) n
is_outside (negsuc n) = nat_le (2 ^ 63) n

-- the flags of a result, given CF and OF
abbrev pub result_flags : ℕ → Bool → Bool → Flags
result_flags word carry overflow = record { carry = carry; zero = word == 0; sign = is_high word; overflow = overflow }

-- "ADD", "SUB", "CMP": CF is the carry or the borrow, OF says that the signed result isn't in range. "AND", "OR", "XOR": CF and OF are cleared.
abbrev pub alu_flags : AluOp → ℕ → ℕ → Flags
alu_flags Add a b = result_flags (alu_word Add a b) (nat_le (2 ^ 64) (a + b)) (is_outside (signed a +ℤ signed b))
alu_flags Or a b = result_flags (alu_word Or a b) false false
alu_flags And a b = result_flags (alu_word And a b) false false
alu_flags Sub a b = result_flags (alu_word Sub a b) (nat_lt a b) (is_outside (signed a -ℤ signed b))
alu_flags Xor a b = result_flags (alu_word Xor a b) false false
alu_flags Cmp a b = result_flags (alu_word Cmp a b) (nat_lt a b) (is_outside (signed a -ℤ signed b))

-- the registers after an operator whose operands are a register and a word: "CMP" writes none
abbrev pub alu_regs : AluOp → List ℕ → ℕ → ℕ → List ℕ
alu_regs Cmp regs to b = regs
alu_regs op regs to b = slice_set regs to (alu_word op (slice_index regs to) b)

-- whether two flags differ
abbrev pub differ : Bool → Bool → Bool
differ true b = not b
differ false b = b

-- Whether the condition holds.
abbrev pub cond_holds : X86Cond → Flags → Bool
cond_holds Below f = f.carry
cond_holds AboveOrEqual f = not f.carry
cond_holds Equal f = f.zero
cond_holds NotEqual f = not f.zero
cond_holds BelowOrEqual f = f.carry || f.zero
cond_holds Above f = not (f.carry || f.zero)
cond_holds Sign f = f.sign
cond_holds NoSign f = not f.sign
cond_holds Less f = differ f.sign f.overflow
cond_holds GreaterOrEqual f = not (differ f.sign f.overflow)
cond_holds LessOrEqual f = f.zero || differ f.sign f.overflow
cond_holds Greater f = not (f.zero || differ f.sign f.overflow)

-- After a compare of two words the conditions say which relations hold of them.
pub record AfterCmp (a b : ℕ) : Type 0 where
  pub equal : cond_holds Equal (alu_flags Cmp a b) ≡ test_of Eq a b
  pub below : cond_holds Below (alu_flags Cmp a b) ≡ test_of Ult a b
  pub below_or_equal : cond_holds BelowOrEqual (alu_flags Cmp a b) ≡ test_of Ule a b
  pub less : cond_holds Less (alu_flags Cmp a b) ≡ test_of Slt a b
  pub less_or_equal : cond_holds LessOrEqual (alu_flags Cmp a b) ≡ test_of Sle a b

-- After `test a,a` the conditions say how a compares with 0; after `test a,1`, `e` says that bit 0 is clear.
pub record AfterTest (a : ℕ) : Type 0 where
  pub equal : cond_holds Equal (alu_flags And a a) ≡ test_of Eq a 0
  pub sign : cond_holds Sign (alu_flags And a a) ≡ test_of Slt a 0
  pub less_or_equal : cond_holds LessOrEqual (alu_flags And a a) ≡ test_of Sle a 0
  pub low : cond_holds Equal (alu_flags And a 1) ≡ (bit_and a 1 == 0)

-- `sub f,1` takes one from a count that isn't 0, and borrows exactly if it is 0.
pub record AfterSubOne (f : ℕ) : Type 0 where
  pub word : 0 < f → alu_word Sub f 1 ≡ f - 1
  pub below : cond_holds Below (alu_flags Sub f 1) ≡ test_of Eq f 0
