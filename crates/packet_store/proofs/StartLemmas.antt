-- Starts lie in the arena, and are states.
use Rattle.std.proofs.Common.{◌≡◌, ℕ, ◌+◌, ◌-◌, ◌*◌, ◌/◌, ◌%◌, ◌^◌, ◌<◌, ◌≤◌, ◌==◌, min, Bool, true, false, if◌then◌else◌, List, [], ◌∷◌, length, take, slice_index}
use Rattle.std.proofs.Common.{nat_lt, Option, Some, None, refl, subst, arith, inl, inr}
use Rattle.std.proofs.lemmas.Bool.{cases_lt, ltb-false}
use Rattle.std.proofs.lemmas.Option.{none-some, same_Some}
use Rattle.std.proofs.lemmas.List.{get_or-take, get_or_past, length-take}
use Rattle.policy_set.specs.declared.kind.PolicyKind.{PolicyKind}
use Rattle.policy_set.specs.declared.kind.PolicyKind.TheVariants.{Filter, Tag, Table}
use Rattle.alpha_cfg.specs.Machine.{IsState}
use Rattle.word_ops.specs.Memory.{Memory}
use Rattle.reference_machine.specs.Arena.{quadword, sum_of}
use Rattle.reference_machine.specs.Agents.{IsInArena, AreInArena}
use Rattle.reference_machine.specs.Starts.{StartView, Fits, HasWords, start_state}
use Rattle.reference_machine.proofs.Fresh.{both_in}
use Rattle.reference_machine.proofs.Starting.{start_state-is}
use Rattle.term_table.specs.Bytes.{IsBytes}
use Rattle.packet_store.specs.PolicyStarts.{least_packet, kind_start, start_from, filter_start, tag_start, table_start, quadwords_of, unused}

-- a span of an arena that begins at the base
span_in : (base p count : ℕ) → base ≤ p → (p - base) % 8 ≡ 0 → p + 8 * count ≤ base + 8 * 8194 → IsInArena base (p, count)
span_in base p count from aligned to = record { from = from; aligned = aligned; to = to }

unused_in : (base : ℕ) → IsInArena base (unused base)
unused_in base = span_in base base 0 (omega arith) (omega arith) (omega arith)

two_in : (base : ℕ) (s t : ℕ × ℕ) → IsInArena base s → IsInArena base t → AreInArena base (s ∷ t ∷ [])
two_in base s t p q = both_in (IsInArena base) s t p q

filter_fits : (base : ℕ) (packet : List ℕ) → length packet ≤ 65535 → Fits base (filter_start base packet)
filter_fits base packet short =
    let scratch : IsInArena base (base, 2) = span_in base base 2 (omega arith) (omega arith) (omega arith) in
    let whole : IsInArena base (base + 16, quadwords_of packet) = span_in base (base + 16) (quadwords_of packet) (omega arith) (omega arith) (omega arith) in
    record {
      bytes_in = whole;
      region_in = span_in base (base + 16) 0 (omega arith) (omega arith) (omega arith);
      reads_in = two_in base (base, 2) (base + 16, quadwords_of packet) scratch whole;
      writes_in = two_in base (base, 2) (unused base) scratch (unused_in base);
    }

filter_words : (base : ℕ) (packet : List ℕ) → base < 2 ^ 32 → length packet ≤ 65535 → IsBytes packet → HasWords (filter_start base packet)
filter_words base packet low short bytes = record { r16 = omega arith; r17 = omega arith; r18 = omega arith; bytes = bytes }

tag_span : (base : ℕ) (b : Bool) → IsInArena base (if b then unused base else (base + 8, 1))
tag_span base true = unused_in base
tag_span base false = span_in base (base + 8) 1 (omega arith) (omega arith) (omega arith)

sixteen : (packet : List ℕ) → 16 ≤ length packet → length (take 16 packet) ≡ 16
sixteen packet enough = let e : length (take 16 packet) ≡ min 16 (length packet) = length-take 16 packet in omega (arith, e)

tag_fits : (base : ℕ) (packet : List ℕ) → 16 ≤ length packet → Fits base (tag_start base packet)
tag_fits base packet enough =
    let e : length (take 16 packet) ≡ 16 = sixteen packet enough in
    let two : IsInArena base (base, 2) = span_in base base 2 (omega arith) (omega arith) (omega arith) in
    record {
      bytes_in = span_in base base ((length (take 16 packet) + 7) / 8) (omega arith) (omega arith) (omega (arith, e));
      region_in = two;
      reads_in = two_in base (base, 2) (unused base) two (unused_in base);
      writes_in =
          two_in base (if quadword packet 0 == 0 then unused base else (base + 8, 1)) (unused base) (tag_span base (quadword packet 0 == 0)) (unused_in base);
    }

front_bytes : (n : ℕ) (packet : List ℕ) → IsBytes packet → IsBytes (take n packet)
front_bytes n packet bytes i = elim (cases_lt i n) [
  | inl within ↦ rw (get_or-take n packet i 0 within) (bytes i)
  | inr past ↦
      let l : length (take n packet) ≡ min n (length packet) = length-take n packet in
      let e : slice_index (take n packet) i ≡ 0 = get_or_past (take n packet) i 0 (omega (arith, l)) in
      omega (arith, e)
]

pub tag_words : (base : ℕ) (packet : List ℕ) → base < 2 ^ 32 → IsBytes packet → HasWords (tag_start base packet)
tag_words base packet low bytes = record { r16 = omega arith; r17 = omega arith; r18 = omega arith; bytes = front_bytes 16 packet bytes }

table_fits : (base : ℕ) (packet : List ℕ) → length packet ≤ 65535 → Fits base (table_start base packet)
table_fits base packet short =
    let all : IsInArena base (base, quadwords_of packet) = span_in base base (quadwords_of packet) (omega arith) (omega arith) (omega arith) in
    let spans : AreInArena base ((base, quadwords_of packet) ∷ unused base ∷ []) = two_in base (base, quadwords_of packet) (unused base) all (unused_in base) in
    record { bytes_in = all; region_in = all; reads_in = spans; writes_in = spans }

table_words : (base : ℕ) (packet : List ℕ) → base < 2 ^ 32 → length packet ≤ 65535 → IsBytes packet → HasWords (table_start base packet)
table_words base packet low short bytes = record { r16 = omega arith; r17 = omega arith; r18 = omega arith; bytes = bytes }

-- what a policy's start is, in an arena that begins at the base
pub record IsGood (base : ℕ) (setup : StartView) : Type 0 where
  pub fits : Fits base setup
  pub words : HasWords setup

pub filter_good : (base : ℕ) (packet : List ℕ) → base < 2 ^ 32 → length packet ≤ 65535 → IsBytes packet → IsGood base (filter_start base packet)
filter_good base packet low short bytes = record { fits = filter_fits base packet short; words = filter_words base packet low short bytes }

pub tag_good : (base : ℕ) (packet : List ℕ) → base < 2 ^ 32 → 16 ≤ length packet → IsBytes packet → IsGood base (tag_start base packet)
tag_good base packet low enough bytes = record { fits = tag_fits base packet enough; words = tag_words base packet low bytes }

pub table_good : (base : ℕ) (packet : List ℕ) → base < 2 ^ 32 → length packet ≤ 65535 → IsBytes packet → IsGood base (table_start base packet)
table_good base packet low short bytes = record { fits = table_fits base packet short; words = table_words base packet low short bytes }

-- ---- each kind

-- a kind's start is one
pub kind-good : (base : ℕ) (kind : PolicyKind) (packet : List ℕ) → base < 2 ^ 32 → least_packet kind ≤ length packet → length packet ≤ 65535 → IsBytes packet
    → IsGood base (kind_start kind base packet)
kind-good base Filter packet low enough short bytes = filter_good base packet low short bytes
kind-good base Tag packet low enough short bytes = tag_good base packet low enough bytes
kind-good base Table packet low enough short bytes = table_good base packet low short bytes

-- where its region isn't empty it is at the base
kind-sum : (base : ℕ) (kind : PolicyKind) (packet : List ℕ) (m : Memory)
    → sum_of m base (kind_start kind base packet).region ≡ sum_of m (kind_start kind base packet).at (kind_start kind base packet).region
kind-sum base Filter packet m = refl
kind-sum base Tag packet m = refl
kind-sum base Table packet m = refl

-- a start is that of its kind, on a packet that isn't too short
pub start_from-is : (base : ℕ) (kind : PolicyKind) (packet : List ℕ) (setup : StartView) → start_from base (Some kind) packet ≡ Some setup
    → (least_packet kind ≤ length packet) × (kind_start kind base packet ≡ setup)
unfolding start_from
start_from-is base kind packet setup e = by (nat_lt (length packet) (least_packet kind)) refl e
  where
    by : (b : Bool) → nat_lt (length packet) (least_packet kind) ≡ b → (if b then None else Some (kind_start kind base packet)) ≡ Some setup
        → (least_packet kind ≤ length packet) × (kind_start kind base packet ≡ setup)
    by true q h = cc
    by false q h = (ltb-false (length packet) (least_packet kind) q, same_Some (kind_start kind base packet) setup h)

pub start_from-good : (base : ℕ) (kind : Option PolicyKind) (packet : List ℕ) (setup : StartView)
    → base < 2 ^ 32 → length packet ≤ 65535 → IsBytes packet →
    start_from base kind packet ≡ Some setup → IsGood base setup
unfolding start_from
start_from-good base None packet setup low short bytes e = absurd (none-some setup e)
start_from-good base (Some kind) packet setup low short bytes e =
    let s = start_from-is base kind packet setup e in
    subst (IsGood base) s.1 (kind-good base kind packet low s.0 short bytes)

-- the sum of a start's region is that at the base
pub start_from-sum : (base : ℕ) (kind : Option PolicyKind) (packet : List ℕ) (setup : StartView) (m : Memory)
    → start_from base kind packet ≡ Some setup → sum_of m base setup.region ≡ sum_of m setup.at setup.region
unfolding start_from
start_from-sum base None packet setup m e = absurd (none-some setup e)
start_from-sum base (Some kind) packet setup m e =
    subst (λ (s : StartView). sum_of m base s.region ≡ sum_of m s.at s.region) (start_from-is base kind packet setup e).1 (kind-sum base kind packet m)

-- it is a state of the machine
pub good-state : (base : ℕ) (setup : StartView) → base % 8 ≡ 0 → base < 2 ^ 32 → IsGood base setup → IsState (start_state base setup)
good-state base setup aligned low good = start_state-is base setup aligned (omega arith) good.fits good.words

pub start_from-state : (base : ℕ) (kind : Option PolicyKind) (packet : List ℕ) (setup : StartView)
    → base % 8 ≡ 0 → base < 2 ^ 32 →
    length packet ≤ 65535 → IsBytes packet → start_from base kind packet ≡ Some setup
    → IsState (start_state base setup)
start_from-state base kind packet setup aligned low short bytes e =
    good-state base setup aligned low (start_from-good base kind packet setup low short bytes e)
