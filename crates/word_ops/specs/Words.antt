-- Words are whole numbers below 2 ^ 64: what each operator gives, and when each relation holds.
-- Alpha Architecture Handbook, "Integer Arithmetic Instructions" and "Logical and Shift Instructions".
use Rattle.std.specs.Prelude.{◌≡◌, ◌↔◌, ℕ, ◌+◌, ◌-◌, ◌*◌, ◌/◌, ◌%◌, ◌^◌, Bool, if◌then◌else◌, ◌==◌, nat_lt, nat_le, bit_and, bit_or, int_lt, int_le, ℤ}
use Rattle.std.specs.Int.{cast_signed, w64}
use Rattle.std.specs.Int.Bits.{bit_xor}
use Rattle.word_ops.specs.declared.Op.{Op}
use Rattle.word_ops.specs.declared.Op.TheVariants.{Add, Sub, Band, Bis, Sll, Srl, Cmpeq, Cmplt, Cmple, Cmpult, Cmpule, Xor, Bic, S4add, S8add, Sra, Extb, Extw, Extl}
use Rattle.word_ops.specs.declared.Rel.{Rel}
use Rattle.word_ops.specs.declared.Rel.TheVariants.{Eq, Ult, Ule, Slt, Sle}

-- a word read in two's complement
abbrev pub signed : ℕ → ℤ
signed a = cast_signed w64 a

-- whether the relation holds of two words
abbrev pub test_of : Rel → ℕ → ℕ → Bool
test_of Eq a b = a == b
test_of Ult a b = nat_lt a b
test_of Ule a b = nat_le a b
test_of Slt a b = int_lt (signed a) (signed b)
test_of Sle a b = int_le (signed a) (signed b)

-- The number that a word stands for in two's complement, plus 2 ^ 63: its order is the signed order.
abbrev pub excess_of : ℕ → ℕ
excess_of a = (a + 2 ^ 63) % 2 ^ 64

-- a word that is 1 exactly where P holds, and 0 exactly where it doesn't
pub record IsFlagOf (word : ℕ) (P : Type 0) : Type 0 where
  pub set : (word ≡ 1) ↔ P
  pub clear : (word ≡ 0) ↔ (P → ⊥)

-- 1 where the test is true, else 0
abbrev pub flag_of : Bool → ℕ
flag_of b = if b then 1 else 0

-- A word shifted to the right by a count, copies of its sign in: as the number it stands for in two's complement, rounded down.
abbrev pub shifted_signed : ℕ → ℕ → ℕ
shifted_signed a k = if nat_lt a (2 ^ 63) then a / 2 ^ k else 2 ^ 64 - 1 - (2 ^ 64 - 1 - a) / 2 ^ k

-- the bits of a word from a byte's place on, where the second word names the place modulo 8
abbrev pub from_byte : ℕ → ℕ → ℕ
from_byte a b = a / 2 ^ (8 * (b % 8))

-- What the operator gives: sums and differences wrap, and a shift takes its count modulo 64.
abbrev pub word_of : Op → ℕ → ℕ → ℕ
word_of Add a b = (a + b) % 2 ^ 64
word_of Sub a b = (a + (2 ^ 64 - b)) % 2 ^ 64
word_of Band a b = bit_and a b
word_of Bis a b = bit_or a b
word_of Sll a b = a * 2 ^ (b % 64) % 2 ^ 64
word_of Srl a b = a / 2 ^ (b % 64)
word_of Cmpeq a b = flag_of (test_of Eq a b)
word_of Cmplt a b = flag_of (test_of Slt a b)
word_of Cmple a b = flag_of (test_of Sle a b)
word_of Cmpult a b = flag_of (test_of Ult a b)
word_of Cmpule a b = flag_of (test_of Ule a b)
word_of Xor a b = bit_xor a b
word_of Bic a b = bit_and a (bit_xor b (2 ^ 64 - 1))
word_of S4add a b = (a * 4 + b) % 2 ^ 64
word_of S8add a b = (a * 8 + b) % 2 ^ 64
word_of Sra a b = shifted_signed a (b % 64)
word_of Extb a b = from_byte a b % 2 ^ 8
word_of Extw a b = from_byte a b % 2 ^ 16
word_of Extl a b = from_byte a b % 2 ^ 32
