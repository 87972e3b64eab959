-- The packets of `demo N`.
use Rattle.std.specs.Prelude.{ℕ, zero, suc, ◌+◌, ◌*◌, ◌%◌, List, [], ◌∷◌, ◌++◌}

-- so many bytes, the first of which is that number, and each later one more, all modulo 256
abbrev pub rising_bytes : ℕ → ℕ → List ℕ
rising_bytes first zero = []
rising_bytes first (suc count) = rising_bytes first count ++ ((first + count) % 256 ∷ [])

-- packet number k: its length rises by N from packet to packet, from 64 on and below 65,536, and its byte j is N + k + j
abbrev pub demo_packet : ℕ → ℕ → List ℕ
demo_packet n k = rising_bytes (n + k) (64 + k * n % 65472)
