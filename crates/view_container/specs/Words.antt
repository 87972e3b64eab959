-- What comments say of the words of code.
use Rattle.std.specs.Prelude.{ℕ, ◌/◌, ◌%◌, ◌^◌, List, ◌∷◌, ◌++◌, decimal, length, slice_get}
use Rattle.std.specs.List.{range_with_len}
use Rattle.std.specs.Int.{w32, to_be_bytes}
use Rattle.hex.specs.Hex.{encode_lower}
use Rattle.alpha_cfg.specs.CodeBytes.{code_word_at}
use Rattle.view_entries.specs.SourceLines.{source_place}

-- the indices of the words, of four bytes each
abbrev pub indices_of : List ℕ → List ℕ
indices_of code = range_with_len 0 (length code / 4)

-- the index of a word, and the word as eight hexadecimal digits
abbrev pub indexed_word : List ℕ → ℕ → List ℕ
indexed_word code i = decimal i ++ (32 ∷ encode_lower (to_be_bytes w32 (code_word_at code i)))

-- the comment of the instruction at an index: `7 44220401 line 12`, the index, the word, and the
-- i-th of the lines, where there are so many
abbrev pub word_comment : List ℕ → List ℕ → ℕ → List ℕ
word_comment code lines i = indexed_word code i ++ source_place (slice_get lines i)

-- the hint of the word at an index, if that is a return: its 14 lowest bits
abbrev pub word_hint : List ℕ → ℕ → ℕ
word_hint code i = code_word_at code i % 2 ^ 14
