-- Calls of an object in memory that are to fail, by their numbers, and what a failing one keeps.
use Rattle.std.specs.Prelude.{ℕ, ◌/◌, ◌==◌, Bool, List, length, take}
use Rattle.std.specs.List.{list_any}

-- a list of failing calls has this one
abbrev pub is_failing : List ℕ → ℕ → Bool
is_failing failing call = list_any (λ n. n == call) failing

-- the first half of the bytes, rounded down
abbrev pub first_half : List ℕ → List ℕ
first_half bytes = take (length bytes / 2) bytes
