-- The place of a quadword in a span.
use Rattle.std.specs.Prelude.{◌≡◌, ℕ, ◌+◌, ◌*◌, ◌<◌, true, false, [], ◌∷◌, Option, Some, None}
use Rattle.word_ops.specs.Rights.{allowed}

-- An address of the span has the place of its quadword, and any other has none.
abbrev pub IsPlaceOf : ℕ → ℕ → ℕ → Option ℕ → Type 0
IsPlaceOf base count a None = allowed ((base, count) ∷ []) a ≡ false
IsPlaceOf base count a (Some place) = (allowed ((base, count) ∷ []) a ≡ true) × (place < count) × (a ≡ base + 8 * place)
