-- Packets at the front of bytes.
use Rattle.std.proofs.Common.{◌≡◌, ℕ, zero, suc, ◌+◌, ◌<◌, ◌≤◌, List, [], ◌∷◌, ◌++◌, length, take, drop, get_or, arith, sym, ◌∙◌, ap, append_assoc, append-nil, length-append, inl, inr, subst}
use Rattle.std.proofs.lemmas.List.{take-append-drop, length-take-le}
use Rattle.std.proofs.lemmas.Nat.{le_bytes_4, from_le_bytes-to_le_bytes_4}
use Rattle.std.specs.Int.{to_le_bytes, w32}
use Rattle.packet_store.specs.Packets.{packet_encoding, claimed_length, packets_encoding, AreShort, IsWhole, IsBadFront}
use Rattle.packet_store.specs.declared.fault.PacketFault.{PacketFault}
use Rattle.packet_store.specs.declared.fault.PacketFault.TheVariants.{Cut, TooLong}

-- bytes stay bytes in a front
bytes_in_take : (n : ℕ) (xs : List ℕ) → ((i : ℕ) → get_or xs i 0 < 256) → (i : ℕ) → get_or (take n xs) i 0 < 256
bytes_in_take zero xs each i = omega arith
bytes_in_take (suc n) [] each i = omega arith
bytes_in_take (suc n) (x ∷ xs) each zero = each 0
bytes_in_take (suc n) (x ∷ xs) each (suc i) = bytes_in_take n xs (λ k. each (suc k)) i

pub framed_front : (bytes p rest : List ℕ) (n : ℕ) → 4 ≤ length bytes → ((i : ℕ) → get_or bytes i 0 < 256) → n ≡ claimed_length bytes → p ≡ take n (drop 4 bytes) → rest ≡ drop n (drop 4 bytes) → length p ≡ n → bytes ≡ packet_encoding p ++ rest
framed_front bytes p rest n long each count front back len =
    let four : length (take 4 bytes) ≡ 4 = length-take-le 4 bytes long in
    let head : to_le_bytes w32 (length p) ≡ take 4 bytes = rw len (le_bytes_4 (take 4 bytes) n four (bytes_in_take 4 bytes each) count) in
    let body : p ++ rest ≡ drop 4 bytes = rw (front, back) (take-append-drop n (drop 4 bytes)) in
    let whole : take 4 bytes ++ drop 4 bytes ≡ bytes = take-append-drop 4 bytes in
    sym (append_assoc (to_le_bytes w32 (length p)) p rest ∙ ap (λ x. x ++ (p ++ rest)) head ∙ ap (λ x. take 4 bytes ++ x) body ∙ whole)

-- packets read so far, and the bytes behind them
pub record ReadSoFar (bytes rest : List ℕ) (offset : ℕ) : Type 0 where
  pub packets : List (List ℕ)
  pub short : AreShort packets
  pub split : bytes ≡ packets_encoding packets ++ rest
  pub offset_is : offset ≡ length (packets_encoding packets)

packets_encoding-append : (ps : List (List ℕ)) (p : List ℕ) → packets_encoding (ps ++ p ∷ []) ≡ packets_encoding ps ++ packet_encoding p
packets_encoding-append [] p = append-nil (packet_encoding p)
packets_encoding-append (q ∷ ps) p = ap (λ x. packet_encoding q ++ x) (packets_encoding-append ps p) ∙ sym (append_assoc (packet_encoding q) (packets_encoding ps) (packet_encoding p))

AreShort-append : (ps : List (List ℕ)) (p : List ℕ) → AreShort ps → length p ≤ 65535 → AreShort (ps ++ p ∷ [])
AreShort-append [] p h l = (l, tt)
AreShort-append (q ∷ ps) p h l = (h.0, AreShort-append ps p h.1 l)

pub ReadSoFar-more : (bytes rest p after : List ℕ) (offset : ℕ) → ReadSoFar bytes rest offset → rest ≡ packet_encoding p ++ after → length p ≤ 65535 → ReadSoFar bytes after (offset + (4 + length p))
ReadSoFar-more bytes rest p after offset so_far e l = record {
  packets = so_far.packets ++ p ∷ [];
  short = AreShort-append so_far.packets p so_far.short l;
  split = so_far.split ∙ ap (λ x. packets_encoding so_far.packets ++ x) e ∙ sym (append_assoc (packets_encoding so_far.packets) (packet_encoding p) after) ∙ ap (λ x. x ++ after) (sym (packets_encoding-append so_far.packets p));
  offset_is = rw (packets_encoding-append so_far.packets p) (simp length-append (omega (arith, so_far.offset_is)));
}

pub claimed_length-packet_encoding : (p x : List ℕ) → length p ≤ 65535 → claimed_length (packet_encoding p ++ x) ≡ length p
claimed_length-packet_encoding p x short = from_le_bytes-to_le_bytes_4 (length p) (omega arith)

-- no fault stands at the front of whole packets
pub whole_or_empty : (bytes : List ℕ) (fault : PacketFault) → IsBadFront bytes fault → IsWhole bytes → bytes ≡ []
whole_or_empty bytes fault bad whole = at whole.0 whole.1 whole.2 where
  clash : (p : List ℕ) (ps : List (List ℕ)) (f : PacketFault) → length p ≤ 65535 → IsBadFront (packet_encoding p ++ packets_encoding ps) f → ⊥
  clash p ps (Cut offset) short b =
      let c = claimed_length-packet_encoding p (packets_encoding ps) short in
      let l = length-append (packet_encoding p) (packets_encoding ps) in
      elim b.1 [ inl few ↦ absurd (omega (arith, l)) | inr cut ↦ absurd (omega (arith, l, c, cut.1)) ]
  clash p ps (TooLong offset) short b = let c = claimed_length-packet_encoding p (packets_encoding ps) short in absurd (omega (arith, c, b.1))

  at : (packets : List (List ℕ)) → AreShort packets → bytes ≡ packets_encoding packets → bytes ≡ []
  at [] short e = e
  at (p ∷ ps) short e = absurd (clash p ps fault short.0 (subst (λ x. IsBadFront x fault) e bad))
