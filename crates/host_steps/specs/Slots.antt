-- The places of the registers.
use Rattle.std.specs.Prelude.{◌≡◌, ℕ, List, length, slice_index, slice_set, replicate}

-- 32 places, the last with 0
pub record AreSlots (words : List ℕ) : Type 0 where
  pub count : length words ≡ 32
  pub last : slice_index words 31 ≡ 0

-- registers 0 to 30 that are 0 but for 16, 17 and 18, the first three arguments of the calling standard
abbrev pub argument_regs : ℕ → ℕ → ℕ → List ℕ
argument_regs r16 r17 r18 = slice_set (slice_set (slice_set (replicate 31 0) 16 r16) 17 r17) 18 r18
