-- What packet files read as is what they encode.
use Rattle.std.proofs.Common.{◌≡◌, ℕ, zero, suc, ◌+◌, ◌<◌, ◌≤◌, nat_lt, ◌==◌, false, true, List, [], ◌∷◌, ◌++◌, length, Result, Ok, Err, arith, refl, sym, ◌∙◌, ap, append_assoc, length-append, inl, inr, subst}
use Rattle.std.proofs.Math.Seq.{take-append_seam, drop-append_seam}
use Rattle.std.proofs.lemmas.Bool.{cases_lt, lt-ltb, le-ltb, eqb-true}
use Rattle.packet_store.specs.Packets.{packet_encoding, claimed_length, packets_encoding, AreShort, IsWhole, IsBadFront, IsFirstFault, offset_of}
use Rattle.packet_store.specs.PacketDecoding.{decoded_front, with_packet, and_then, packets_within, decoded_packets, or_none, whole_packets}
use Rattle.packet_store.specs.declared.fault.PacketFault.{PacketFault}
use Rattle.packet_store.specs.declared.fault.PacketFault.TheVariants.{Cut, TooLong}
use Rattle.packet_store.proofs.Frames.{claimed_length-packet_encoding}

-- a packet at the front is read
pub decoded_front-packet_encoding : (offset : ℕ) (p rest : List ℕ) → length p ≤ 65535 → decoded_front offset (packet_encoding p ++ rest) ≡ Ok (p, rest)
unfolding decoded_front
decoded_front-packet_encoding offset p rest short =
    let c : claimed_length (packet_encoding p ++ rest) ≡ length p = claimed_length-packet_encoding p rest short in
    let l : length (packet_encoding p ++ rest) ≡ length (packet_encoding p) + length rest = length-append (packet_encoding p) rest in
    let few : nat_lt (length (packet_encoding p ++ rest)) 4 ≡ false = le-ltb (length (packet_encoding p ++ rest)) 4 (omega (arith, l)) in
    let long : nat_lt 65535 (length p) ≡ false = le-ltb 65535 (length p) short in
    let cut : nat_lt (length (packet_encoding p ++ rest)) (4 + length p) ≡ false = le-ltb (length (packet_encoding p ++ rest)) (4 + length p) (omega (arith, l)) in
    rw (few, c, long, cut, take-append_seam p rest, drop-append_seam p rest) refl

-- and so is what is wrong there
decoded_front-bad : (offset : ℕ) (bytes : List ℕ) (fault : PacketFault) → IsBadFront bytes fault → offset_of fault ≡ offset → decoded_front offset bytes ≡ Err fault
unfolding decoded_front
decoded_front-bad offset bytes (Cut at) bad e = elim (cases_lt (length bytes) 4) [
  | inl few ↦ rw (lt-ltb (length bytes) 4 few, e) refl
  | inr enough ↦ elim bad.1 [
    | inl few ↦ absurd (omega (arith, few))
    | inr cut ↦ rw (le-ltb (length bytes) 4 enough, le-ltb 65535 (claimed_length bytes) cut.0, lt-ltb (length bytes) (4 + claimed_length bytes) cut.1, e) refl
  ]
]
decoded_front-bad offset bytes (TooLong at) bad e = rw (le-ltb (length bytes) 4 bad.0, lt-ltb 65535 (claimed_length bytes) bad.1, e) refl

packets_within-nil : (k offset : ℕ) → packets_within k offset [] ≡ Ok []
packets_within-nil zero offset = refl
packets_within-nil (suc k) offset = refl

packets_within-some : (k offset : ℕ) (bytes : List ℕ) → 0 < length bytes → packets_within (suc k) offset bytes ≡ and_then (decoded_front offset bytes) (λ packet rest. with_packet packet (packets_within k (offset + (4 + length packet)) rest))
packets_within-some k offset [] some = absurd (omega arith)
packets_within-some k offset (b ∷ bytes) some = refl

packets_within-packet_encoding : (k offset : ℕ) (p rest : List ℕ) → length p ≤ 65535 → packets_within (suc k) offset (packet_encoding p ++ rest) ≡ with_packet p (packets_within k (offset + (4 + length p)) rest)
packets_within-packet_encoding k offset p rest short =
    let l : length (packet_encoding p ++ rest) ≡ length (packet_encoding p) + length rest = length-append (packet_encoding p) rest in
    packets_within-some k offset (packet_encoding p ++ rest) (omega (arith, l))
    ∙ ap (λ r. and_then r (λ packet after. with_packet packet (packets_within k (offset + (4 + length packet)) after))) (decoded_front-packet_encoding offset p rest short)

packets_within-packets_encoding : (k offset : ℕ) (ps : List (List ℕ)) → length (packets_encoding ps) ≤ k → AreShort ps → packets_within k offset (packets_encoding ps) ≡ Ok ps
packets_within-packets_encoding k offset [] enough short = packets_within-nil k offset
packets_within-packets_encoding zero offset (p ∷ ps) enough short =
    let l : length (packet_encoding p ++ packets_encoding ps) ≡ length (packet_encoding p) + length (packets_encoding ps) = length-append (packet_encoding p) (packets_encoding ps) in absurd (omega (arith, l))
packets_within-packets_encoding (suc k) offset (p ∷ ps) enough short =
    let l : length (packet_encoding p ++ packets_encoding ps) ≡ length (packet_encoding p) + length (packets_encoding ps) = length-append (packet_encoding p) (packets_encoding ps) in
    packets_within-packet_encoding k offset p (packets_encoding ps) short.0
    ∙ ap (with_packet p) (packets_within-packets_encoding k (offset + (4 + length p)) ps (omega (arith, l)) short.1)

some_bad : (bytes : List ℕ) (fault : PacketFault) → IsBadFront bytes fault → 0 < length bytes
some_bad bytes (Cut at) bad = bad.0
some_bad bytes (TooLong at) bad = omega (arith, bad.0)

packets_within-fault : (k offset : ℕ) (ps : List (List ℕ)) (rest : List ℕ) (fault : PacketFault) → length (packets_encoding ps ++ rest) ≤ k → AreShort ps → IsBadFront rest fault → offset_of fault ≡ offset + length (packets_encoding ps) → packets_within k offset (packets_encoding ps ++ rest) ≡ Err fault
packets_within-fault zero offset [] rest fault enough short bad e = let some : 0 < length rest = some_bad rest fault bad in absurd (omega arith)
packets_within-fault (suc k) offset [] rest fault enough short bad e =
    let here : offset_of fault ≡ offset = omega (arith, e) in
    packets_within-some k offset rest (some_bad rest fault bad)
    ∙ ap (λ r. and_then r (λ packet after. with_packet packet (packets_within k (offset + (4 + length packet)) after))) (decoded_front-bad offset rest fault bad here)
packets_within-fault zero offset (p ∷ ps) rest fault enough short bad e =
    let l : length ((packet_encoding p ++ packets_encoding ps) ++ rest) ≡ length (packet_encoding p ++ packets_encoding ps) + length rest = length-append (packet_encoding p ++ packets_encoding ps) rest in
    let some : 0 < length rest = some_bad rest fault bad in absurd (omega (arith, l))
packets_within-fault (suc k) offset (p ∷ ps) rest fault enough short bad e =
    let apart : (packet_encoding p ++ packets_encoding ps) ++ rest ≡ packet_encoding p ++ (packets_encoding ps ++ rest) = append_assoc (packet_encoding p) (packets_encoding ps) rest in
    let l : length (packet_encoding p ++ (packets_encoding ps ++ rest)) ≡ length (packet_encoding p) + length (packets_encoding ps ++ rest) = length-append (packet_encoding p) (packets_encoding ps ++ rest) in
    let m : length (packet_encoding p ++ packets_encoding ps) ≡ length (packet_encoding p) + length (packets_encoding ps) = length-append (packet_encoding p) (packets_encoding ps) in
    let n : length ((packet_encoding p ++ packets_encoding ps) ++ rest) ≡ length (packet_encoding p ++ (packets_encoding ps ++ rest)) = ap length apart in
    ap (packets_within (suc k) offset) apart
    ∙ packets_within-packet_encoding k offset p (packets_encoding ps ++ rest) short.0
    ∙ ap (with_packet p) (packets_within-fault k (offset + (4 + length p)) ps rest fault (omega (arith, l, n)) short.1 bad (omega (arith, m, e)))

pub decoded_packets-whole : (bytes : List ℕ) (ps : List (List ℕ)) → AreShort ps → bytes ≡ packets_encoding ps → decoded_packets bytes ≡ Ok ps
unfolding decoded_packets
decoded_packets-whole bytes ps short e = rw e (packets_within-packets_encoding (length (packets_encoding ps)) 0 ps (omega arith) short)

pub decoded_packets-fault : (bytes : List ℕ) (fault : PacketFault) → IsFirstFault bytes fault → decoded_packets bytes ≡ Err fault
unfolding decoded_packets
decoded_packets-fault bytes fault f = rw f.split (packets_within-fault (length (packets_encoding f.packets ++ f.rest)) 0 f.packets f.rest fault (omega arith) f.short f.bad (omega (arith, f.offset)))

pub whole_packets-whole : (bytes : List ℕ) (ps : List (List ℕ)) → AreShort ps → bytes ≡ packets_encoding ps → whole_packets bytes ≡ ps
unfolding whole_packets
whole_packets-whole bytes ps short e = ap or_none (decoded_packets-whole bytes ps short e)

-- what a file without a fault has
pub record HasPackets (bytes : List ℕ) : Type 0 where
  pub short : AreShort (whole_packets bytes)
  pub encoded : bytes ≡ packets_encoding (whole_packets bytes)
  pub read : Ok (whole_packets bytes) ≡ decoded_packets bytes

pub HasPackets-whole : (bytes : List ℕ) → IsWhole bytes → HasPackets bytes
HasPackets-whole bytes whole =
    let is : whole_packets bytes ≡ whole.0 = whole_packets-whole bytes whole.0 whole.1 whole.2 in
    record {
      short = subst (λ ps. AreShort ps) (sym is) whole.1;
      encoded = whole.2 ∙ ap packets_encoding (sym is);
      read = rw is (sym (decoded_packets-whole bytes whole.0 whole.1 whole.2));
    }

-- ---- one packet further

the_packet : Result (List ℕ × List ℕ) PacketFault → List ℕ
the_packet (Ok split) = split.0
the_packet (Err fault) = []

the_rest : Result (List ℕ × List ℕ) PacketFault → List ℕ
the_rest (Ok split) = split.1
the_rest (Err fault) = []

-- the bytes behind a packet
pub record GoesOn (bytes packet rest : List ℕ) : Type 0 where
  pub whole : IsWhole rest
  pub first : whole_packets bytes ≡ packet ∷ whole_packets rest

pub goes_on : (bytes packet rest : List ℕ) → IsWhole bytes → bytes ≡ packet_encoding packet ++ rest → length packet ≤ 65535 → GoesOn bytes packet rest
unfolding the_packet the_rest
goes_on bytes packet rest whole e short = at whole.0 whole.1 whole.2 where
  at : (ps : List (List ℕ)) → AreShort ps → bytes ≡ packets_encoding ps → GoesOn bytes packet rest
  at [] are is =
      let l : length (packet_encoding packet ++ rest) ≡ length (packet_encoding packet) + length rest = length-append (packet_encoding packet) rest in
      let none : length (packet_encoding packet ++ rest) ≡ 0 = ap length (sym e ∙ is) in
      absurd (omega (arith, l, none))
  at (q ∷ qs) are is =
      let both : decoded_front 0 (packet_encoding packet ++ rest) ≡ decoded_front 0 (packet_encoding q ++ packets_encoding qs) = ap (decoded_front 0) (sym e ∙ is) in
      let same : Ok (packet, rest) ≡ Ok (q, packets_encoding qs) = sym (decoded_front-packet_encoding 0 packet rest short) ∙ both ∙ decoded_front-packet_encoding 0 q (packets_encoding qs) are.0 in
      let p : packet ≡ q = ap the_packet same in
      let r : rest ≡ packets_encoding qs = ap the_rest same in
      record {
        whole = (qs, are.1, r);
        first = whole_packets-whole bytes (q ∷ qs) are is ∙ ap (λ x. x ∷ qs) (sym p) ∙ ap (λ x. packet ∷ x) (sym (whole_packets-whole rest qs are.1 r));
      }

pub whole_packets-nil : (bytes : List ℕ) → bytes ≡ [] → whole_packets bytes ≡ []
whole_packets-nil bytes e = whole_packets-whole bytes [] tt e

pub empty_list : (bytes : List ℕ) → (length bytes == 0) ≡ true → bytes ≡ []
empty_list [] e = refl
empty_list (b ∷ bytes) e = let none : length (b ∷ bytes) ≡ 0 = eqb-true (length (b ∷ bytes)) 0 e in absurd (omega arith)

-- a packet takes four bytes or more
length-encoding_of : (ps : List (List ℕ)) → length ps ≤ length (packets_encoding ps)
length-encoding_of [] = omega arith
length-encoding_of (p ∷ ps) =
    let l : length (packet_encoding p ++ packets_encoding ps) ≡ length (packet_encoding p) + length (packets_encoding ps) = length-append (packet_encoding p) (packets_encoding ps) in
    let ih : length ps ≤ length (packets_encoding ps) = length-encoding_of ps in
    omega (arith, l, ih)

pub length-whole_packets : (bytes : List ℕ) → IsWhole bytes → length (whole_packets bytes) ≤ length bytes
length-whole_packets bytes whole =
    let h = HasPackets-whole bytes whole in
    let l : length (whole_packets bytes) ≤ length (packets_encoding (whole_packets bytes)) = length-encoding_of (whole_packets bytes) in
    let e : length bytes ≡ length (packets_encoding (whole_packets bytes)) = ap length h.encoded in
    omega (arith, l, e)
