-- The lines of a text by number.
use Rattle.std.specs.Prelude.{ℕ, zero, suc, List, slice_get, Option, None}
use Rattle.text_tokens.specs.Lines.{lines_of}

-- the line of a number, from 1
abbrev pub numbered_line : List ℕ → ℕ → Option (List ℕ)
numbered_line text zero = None
numbered_line text (suc k) = slice_get (lines_of text) k
