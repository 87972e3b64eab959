-- What an iterator over packets yields.
use Rattle.std.specs.Prelude.{◌≡◌, ℕ, List, [], ◌∷◌, Option, Some, None}
use Rattle.std.specs.Borrow.{Bor}

-- the first packet that is left, and none exactly where none is left
abbrev pub YieldsPacket : List (List ℕ) → Option (Bor (List ℕ)) → List (List ℕ) → Type 0
YieldsPacket old None new = (old ≡ []) × (new ≡ [])
YieldsPacket old (Some packet) new = old ≡ packet.now ∷ new
