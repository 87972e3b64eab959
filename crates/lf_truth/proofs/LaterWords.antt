-- What the later rules say of numbers.
use Rattle.std.proofs.Common.{◌≡◌, ℕ, ◌+◌, ◌-◌, ◌*◌, ◌%◌, ◌^◌, ◌<◌, ◌≤◌, arith}
use Rattle.std.proofs.lemmas.Nat.{mod_below}

-- four times a word is the word shifted by 2
pub s4_def : (a b : ℕ) → (a * 4 + b) % 2 ^ 64 ≡ (a * 2 ^ (2 % 64) % 2 ^ 64 + b) % 2 ^ 64
s4_def a b = omega arith

-- eight times a word is the word shifted by 3
pub s8_def : (a b : ℕ) → (a * 8 + b) % 2 ^ 64 ≡ (a * 2 ^ (3 % 64) % 2 ^ 64 + b) % 2 ^ 64
s8_def a b = omega arith

-- a remainder is below the number
pub rest_le : (x n : ℕ) → 0 < n → x % n ≤ n - 1
rest_le x n h = omega (arith, mod_below x n h)

-- a difference of greater words is greater
pub sub_lo : (a b c : ℕ) → a < 2 ^ 64 → b < 2 ^ 64 → c < 2 ^ 64 → b ≤ a → c ≤ b → (b + (2 ^ 64 - c)) % 2 ^ 64 ≤ (a + (2 ^ 64 - c)) % 2 ^ 64
sub_lo a b c ha hb hc h k = omega arith
