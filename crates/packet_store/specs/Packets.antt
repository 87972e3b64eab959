-- A packet file: any number of packets, each behind its length.
use Rattle.std.specs.Prelude.{◌≡◌, ℕ, ◌+◌, ◌<◌, ◌≤◌, ◌⊎◌, List, [], ◌∷◌, ◌++◌, length, take}
use Rattle.std.specs.Int.{to_le_bytes, from_le_bytes, w32}
use Rattle.packet_store.specs.declared.reader.TheConstants.{MAX_PACKET}
use Rattle.packet_store.specs.declared.fault.PacketFault.{PacketFault}
use Rattle.packet_store.specs.declared.fault.PacketFault.TheVariants.{Cut, TooLong}

-- four bytes of length, and the packet
abbrev pub packet_encoding : List ℕ → List ℕ
packet_encoding packet = to_le_bytes w32 (length packet) ++ packet

-- packets, each behind its length
abbrev pub packets_encoding : List (List ℕ) → List ℕ
packets_encoding [] = []
packets_encoding (packet ∷ packets) = packet_encoding packet ++ packets_encoding packets

-- packets of at most MAX_PACKET bytes
abbrev pub AreShort : List (List ℕ) → Type 0
AreShort [] = Unit {0}
AreShort (packet ∷ packets) = (length packet ≤ MAX_PACKET) × AreShort packets

-- whole packets, and nothing behind them
abbrev pub IsWhole : List ℕ → Type 0
IsWhole bytes = (packets : List (List ℕ)) × AreShort packets × (bytes ≡ packets_encoding packets)

-- the length that the next packet claims
abbrev pub claimed_length : List ℕ → ℕ
claimed_length bytes = from_le_bytes w32 (take 4 bytes)

-- no packet stands at the front of these bytes, which aren't empty
abbrev pub IsBadFront : List ℕ → PacketFault → Type 0
IsBadFront bytes (Cut offset) = (0 < length bytes) × ((length bytes < 4) ⊎ ((claimed_length bytes ≤ MAX_PACKET) × (length bytes < 4 + claimed_length bytes)))
IsBadFront bytes (TooLong offset) = (4 ≤ length bytes) × (MAX_PACKET < claimed_length bytes)

-- the offset of a fault
abbrev pub offset_of : PacketFault → ℕ
offset_of (Cut offset) = offset
offset_of (TooLong offset) = offset

-- the first fault of the file, behind whole packets
pub record IsFirstFault (bytes : List ℕ) (fault : PacketFault) : Type 0 where
  pub packets : List (List ℕ)
  pub short : AreShort packets
  pub rest : List ℕ
  pub split : bytes ≡ packets_encoding packets ++ rest
  pub offset : offset_of fault ≡ length (packets_encoding packets)
  pub bad : IsBadFront rest fault
