-- What answers of calls say.
use Rattle.std.specs.Prelude.{◌≡◌, ℕ, ◌^◌, ◌<◌, ◌≤◌, Option, Some, None}
use Rattle.text_tokens.specs.declared.numbers.Number.{Number}
use Rattle.text_tokens.specs.declared.numbers.Number.TheVariants as N

-- which number a lexeme is, if it is one, and whether it is a word
abbrev pub IsNumberAnswer : Option ℕ → Number → Type 0
IsNumberAnswer number N.NoNumber = number ≡ None
IsNumberAnswer number (N.Word n) = (number ≡ Some n) × (n < 2 ^ 64)
IsNumberAnswer number N.Large = (n : ℕ) × (number ≡ Some n) × (2 ^ 64 ≤ n)
