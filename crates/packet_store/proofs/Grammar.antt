-- Bytes are whole packets or have a first fault, so that what they read as says which.
use Rattle.std.proofs.Common.{◌↔◌, ◌≡◌, ℕ, zero, suc, ◌+◌, ◌-◌, ◌≤◌, ◌⊎◌, inl, inr, List, [], ◌∷◌, ◌++◌, length, take, drop, Result, Ok, Err, arith, refl, sym, ◌∙◌, ap, subst, append_assoc, length-append}
use Rattle.std.proofs.lemmas.Bool.{cases_lt}
use Rattle.std.proofs.lemmas.List.{get_or-drop, length-drop, length-take-le}
use Rattle.term_table.specs.Bytes.{IsBytes}
use Rattle.packet_store.specs.Packets.{packet_encoding, claimed_length, packets_encoding, AreShort, IsWhole, IsBadFront, IsFirstFault, offset_of}
use Rattle.packet_store.specs.PacketDecoding.{decoded_packets}
use Rattle.packet_store.specs.declared.fault.PacketFault.{PacketFault}
use Rattle.packet_store.specs.declared.fault.PacketFault.TheVariants.{Cut, TooLong}
use Rattle.packet_store.proofs.Frames.{framed_front}
use Rattle.packet_store.proofs.Readings.{decoded_packets-whole, decoded_packets-fault}

-- a file with a first fault
record HasFault (bytes : List ℕ) : Type 0 where
  fault : PacketFault
  first : IsFirstFault bytes fault

IsBytes-drop : (n : ℕ) (bytes : List ℕ) → IsBytes bytes → IsBytes (drop n bytes)
IsBytes-drop n bytes h i = rw (get_or-drop n bytes i 0) (h (n + i))

at_front : (bytes : List ℕ) (fault : PacketFault) → offset_of fault ≡ 0 → IsBadFront bytes fault → HasFault bytes
at_front bytes fault at bad = record { fault = fault; first = record { packets = []; short = tt; rest = bytes; split = refl; offset = at; bad = bad } }

-- the same fault, further back
moved_by : ℕ → PacketFault → PacketFault
moved_by n (Cut at) = Cut (n + at)
moved_by n (TooLong at) = TooLong (n + at)

offset_of-moved_by : (n : ℕ) (fault : PacketFault) → offset_of (moved_by n fault) ≡ n + offset_of fault
unfolding moved_by
offset_of-moved_by n (Cut at) = refl
offset_of-moved_by n (TooLong at) = refl

IsBadFront-moved_by : (n : ℕ) (bytes : List ℕ) (fault : PacketFault) → IsBadFront bytes fault → IsBadFront bytes (moved_by n fault)
unfolding moved_by
IsBadFront-moved_by n bytes (Cut at) bad = bad
IsBadFront-moved_by n bytes (TooLong at) bad = bad

-- one packet more in front
behind : (p rest bytes : List ℕ) → length p ≤ 65535 → bytes ≡ packet_encoding p ++ rest → IsWhole rest ⊎ HasFault rest → IsWhole bytes ⊎ HasFault bytes
behind p rest bytes short e (inl whole) = inl (p ∷ whole.0, (short, whole.1), e ∙ ap (λ x. packet_encoding p ++ x) whole.2)
behind p rest bytes short e (inr has) =
    let f : IsFirstFault rest has.fault = has.first in
    let n : ℕ = length (packet_encoding p) in
    let l : length (packet_encoding p ++ packets_encoding f.packets) ≡ n + length (packets_encoding f.packets) = length-append (packet_encoding p) (packets_encoding f.packets) in
    let at : offset_of (moved_by n has.fault) ≡ n + offset_of has.fault = offset_of-moved_by n has.fault in
    inr
    (record {
      fault = moved_by n has.fault;
      first = record {
        packets = p ∷ f.packets;
        short = (short, f.short);
        rest = f.rest;
        split = e ∙ ap (λ x. packet_encoding p ++ x) f.split ∙ sym (append_assoc (packet_encoding p) (packets_encoding f.packets) f.rest);
        offset = omega (arith, l, at, f.offset);
        bad = IsBadFront-moved_by n f.rest has.fault f.bad;
      };
    })

either_within : (n : ℕ) (bytes : List ℕ) → length bytes ≤ n → IsBytes bytes → IsWhole bytes ⊎ HasFault bytes
either_within n [] few are = inl ([], tt, refl)
either_within zero (b ∷ bytes) few are = absurd (omega arith)
either_within (suc n) (b ∷ tail) few are =
    let bytes : List ℕ = b ∷ tail in
    let c : ℕ = claimed_length bytes in
    elim (cases_lt (length bytes) 4) [
      | inl cut ↦ inr (at_front bytes (Cut 0) refl (omega arith, inl cut))
      | inr enough ↦ elim (cases_lt 65535 c) [
        | inl long ↦ inr (at_front bytes (TooLong 0) refl (enough, long))
        | inr short ↦ elim (cases_lt (length bytes) (4 + c)) [
          | inl cut ↦ inr (at_front bytes (Cut 0) refl (omega arith, inr (short, cut)))
          | inr room ↦
              let body : length (drop 4 bytes) ≡ length bytes - 4 = length-drop 4 bytes in
              let rest : List ℕ = drop c (drop 4 bytes) in
              let left : length rest ≡ length (drop 4 bytes) - c = length-drop c (drop 4 bytes) in
              let len : length (take c (drop 4 bytes)) ≡ c = length-take-le c (drop 4 bytes) (omega (arith, body)) in
              let e : bytes ≡ packet_encoding (take c (drop 4 bytes)) ++ rest = framed_front bytes (take c (drop 4 bytes)) rest c enough are refl refl refl len in
              behind (take c (drop 4 bytes)) rest bytes (omega (arith, len)) e (either_within n rest (omega (arith, left, body)) (IsBytes-drop c (drop 4 bytes) (IsBytes-drop 4 bytes are)))
        ]
      ]
    ]

either : (bytes : List ℕ) → IsBytes bytes → IsWhole bytes ⊎ HasFault bytes
either bytes are = either_within (length bytes) bytes (omega arith) are

abbrev done : List (List ℕ) → Result (List (List ℕ)) PacketFault
done ps = Ok ps

same_packets : (ps qs : List (List ℕ)) → done ps ≡ done qs → ps ≡ qs
same_packets ps qs e = cc

abbrev failed : PacketFault → Result (List (List ℕ)) PacketFault
failed f = Err f

same_fault : (f g : PacketFault) → failed f ≡ failed g → f ≡ g
same_fault f g e = cc

pub whole_exactly : (bytes : List ℕ) (ps : List (List ℕ)) → IsBytes bytes → (decoded_packets bytes ≡ Ok ps) ↔ (AreShort ps × (bytes ≡ packets_encoding ps))
whole_exactly bytes ps are = (λ read. back read (either bytes are), λ h. decoded_packets-whole bytes ps h.0 h.1) where
  back : decoded_packets bytes ≡ Ok ps → IsWhole bytes ⊎ HasFault bytes → AreShort ps × (bytes ≡ packets_encoding ps)
  back read (inl whole) =
      let same : whole.0 ≡ ps = same_packets whole.0 ps (sym (decoded_packets-whole bytes whole.0 whole.1 whole.2) ∙ read) in
      subst (λ qs. AreShort qs × (bytes ≡ packets_encoding qs)) same (whole.1, whole.2)
  back read (inr has) = let wrong : done ps ≡ failed has.fault = sym read ∙ decoded_packets-fault bytes has.fault has.first in absurd (cc)

pub fault_exactly : (bytes : List ℕ) (fault : PacketFault) → IsBytes bytes → (decoded_packets bytes ≡ Err fault) ↔ IsFirstFault bytes fault
fault_exactly bytes fault are = (λ read. back read (either bytes are), decoded_packets-fault bytes fault) where
  back : decoded_packets bytes ≡ Err fault → IsWhole bytes ⊎ HasFault bytes → IsFirstFault bytes fault
  back read (inl whole) = let wrong : failed fault ≡ done whole.0 = sym read ∙ decoded_packets-whole bytes whole.0 whole.1 whole.2 in absurd (cc)
  back read (inr has) =
      let same : has.fault ≡ fault = same_fault has.fault fault (sym (decoded_packets-fault bytes has.fault has.first) ∙ read) in
      subst (IsFirstFault bytes) same has.first
