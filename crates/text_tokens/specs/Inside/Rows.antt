-- The rows of registers without addresses, and numbers while they are read.
use Rattle.std.specs.Prelude.{ℕ, ◌^◌, nat_lt, if◌then◌else◌, List, map, Option, Some, None}
use Rattle.text_tokens.specs.declared.registers.Row.{Row}

-- the rows without addresses
abbrev pub rows_view : List Row → List (List ℕ × List ℕ)
rows_view rows = map (λ r. (r.0.now, r.1.now)) rows

-- the number, where it is a word
abbrev pub if_word : ℕ → Option ℕ
if_word n = if nat_lt n (2 ^ 64) then Some n else None
