-- Parts of a text that have no line's end, no blank, or nothing else.
use Rattle.std.specs.Prelude.{◌≡◌, ℕ, true, false, ◌==◌, List}
use Rattle.std.specs.List.{AllByRecursion}
use Rattle.agent_script.specs.Lines.{parts_words}

-- no LF is among the bytes
abbrev pub HasNoEnd : List ℕ → Type 0
HasNoEnd text = AllByRecursion (λ b. (b == 10) ≡ false) text

-- no blank is among the bytes
abbrev pub HasNoBlank : List ℕ → Type 0
HasNoBlank text = AllByRecursion (λ b. parts_words b ≡ false) text

-- the bytes are blanks
abbrev pub IsBlank : List ℕ → Type 0
IsBlank text = AllByRecursion (λ b. parts_words b ≡ true) text
