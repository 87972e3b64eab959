-- The digits of bytes, one byte after another.
use Rattle.std.proofs.Common.{◌≡◌, ℕ, ◌+◌, ◌<◌, List, [], ◌∷◌, ◌++◌, take, length, get_or, sym, ap, ◌∙◌}
use Rattle.std.proofs.lemmas.Grind.{flat_map-append}
use Rattle.std.proofs.lemmas.List.{append-nil, take_more}
use Rattle.pcc_lines.specs.Line.{hex_digits, hex_bytes}

pub none-added : (old bytes : List ℕ) → old ≡ old ++ hex_bytes (take 0 bytes)
none-added old bytes = sym (append-nil old)

-- one byte more
pub one-added : (bytes : List ℕ) (i d : ℕ) → i < length bytes
    → hex_bytes (take (i + 1) bytes) ≡ hex_bytes (take i bytes) ++ hex_digits 2 (get_or bytes i d)
one-added bytes i d h =
    let last : List ℕ = hex_digits 2 (get_or bytes i d) in
    ap hex_bytes (take_more bytes i d h)
    ∙ flat_map-append (hex_digits 2) (take i bytes) (get_or bytes i d ∷ [])
    ∙ ap (λ l. hex_bytes (take i bytes) ++ l) (append-nil last)
