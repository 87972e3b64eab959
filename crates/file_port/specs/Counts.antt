-- Counts of faults. A count stays at the greatest u64.
use Rattle.std.specs.Prelude.{◌≡◌, ℕ, ◌+◌, ◌-◌, ◌^◌, ◌<◌, ◌≤◌, min}

-- the count after one more
abbrev pub count_after : ℕ → ℕ
count_after n = min (n + 1) (2 ^ 64 - 1)

-- The count went up by one or more. At the greatest u64 it stays, and there this always holds.
pub record Rose (before now : ℕ) : Type 0 where
  pub later : before ≤ now
  pub more : count_after before ≤ now
  pub fits : now < 2 ^ 64

-- The count stands, and below its top: so nothing was counted.
pub record IsQuiet (before now : ℕ) : Type 0 where
  pub stands : now ≡ before
  pub below : before < 2 ^ 64 - 1
