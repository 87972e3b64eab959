-- The lines of a script and their words. LF ends a line, and the last may lack it; a CR is no more
-- than a byte of its word.
use Rattle.std.specs.Prelude.{ℕ, Bool, false, ◌||◌, ◌==◌, if◌then◌else◌, List, [], ◌∷◌}

-- a byte in front of the first of texts
abbrev pub before_first : ℕ → List (List ℕ) → List (List ℕ)
before_first b [] = (b ∷ []) ∷ []
before_first b (text ∷ texts) = (b ∷ text) ∷ texts

-- the lines of a script
abbrev pub script_lines : List ℕ → List (List ℕ)
script_lines [] = []
script_lines (b ∷ bs) = if b == 10 then [] ∷ script_lines bs else before_first b (script_lines bs)

-- blank and tab part words
abbrev pub parts_words : ℕ → Bool
parts_words b = (b == 32) || (b == 9)

-- whether a text goes on with one of these
abbrev pub begins_parted : List ℕ → Bool
begins_parted [] = false
begins_parted (b ∷ bs) = parts_words b

-- The words of a line, parted by one or more blanks. Before blanks at its front and behind those at
-- its end stands an empty word,
-- and an empty line is one.
abbrev pub line_words : List ℕ → List (List ℕ)
line_words [] = [] ∷ []
line_words (b ∷ bs) =
    if parts_words b
    then (if begins_parted bs then line_words bs else [] ∷ line_words bs)
    else before_first b (line_words bs)
