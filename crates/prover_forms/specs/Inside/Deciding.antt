-- A relation of two words that may be there.
use Rattle.std.specs.Prelude.{ℕ, Bool, false, Option, Some}
use Rattle.word_ops.specs.declared.Rel.{Rel}
use Rattle.word_ops.specs.Words.{test_of}

-- whether both words are there, and the relation holds of them
abbrev pub words_hold : Rel → Option ℕ → Option ℕ → Bool
words_hold r (Some v) (Some w) = test_of r v w
words_hold r _ _ = false
