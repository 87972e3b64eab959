-- The register that a step changes.
use Rattle.std.specs.Prelude.{ℕ, ◌+◌, ◌==◌, if◌then◌else◌, List, [], ◌∷◌, ◌++◌, codes, decimal}
use Rattle.pcc_lines.specs.Line.{hex_digits}

-- a register's number and its new word
abbrev pub word_text : ℕ → ℕ → List ℕ
word_text r word = codes " r" ++ decimal r ++ codes "=" ++ hex_digits 16 word

-- the first register, from number r on, whose word after a step isn't the one before; nothing where each has its word
abbrev pub change_text : ℕ → List ℕ → List ℕ → List ℕ
change_text r (before ∷ befores) (after ∷ afters) =
    if before == after then change_text (r + 1) befores afters else word_text r after
change_text r befores afters = []
