-- The start states meet their policies' preconditions.
use Rattle.std.proofs.Common.{◌≡◌, ◌≢◌, ℕ, ◌+◌, ◌-◌, ◌*◌, ◌/◌, ◌%◌, ◌<◌, ◌≤◌, ◌^◌, true, false, Option, Some, None, List, [], ◌∷◌, length, take, bit_and}
use Rattle.std.proofs.Common.{eqb, cond, ap, refl, sym, ◌∙◌, subst, arith}
use Rattle.std.proofs.lemmas.Nat.{and_mask}
use Rattle.std.proofs.lemmas.Bool.{ltb-true, eqb-true, le-leb, lt-ltb, eq-eqb, ne_eqb}
use Rattle.std.proofs.lemmas.List.{get_or-take}
use Rattle.std.proofs.lemmas.Option.{none-some}
use Rattle.word_ops.specs.Memory.{Memory, read}
use Rattle.word_ops.specs.Rights.{Rights, allowed}
use Rattle.word_ops.proofs.Spans.{allowed-from}
use Rattle.formula_tree.specs.Truth.{IsTrueIn}
use Rattle.policy_set.specs.Policies.{filter_pre, tag_pre, table_pre, pre_of}
use Rattle.policy_set.specs.declared.kind.PolicyKind.{PolicyKind}
use Rattle.policy_set.specs.declared.kind.PolicyKind.TheVariants.{Filter, Tag, Table}
use Rattle.policy_set.specs.Views.{PolicyView, IsPolicy}
use Rattle.policy_set.proofs.Closed.{kind-formulas}
use Rattle.reference_machine.specs.Arena.{quadword, placed_word}
use Rattle.reference_machine.specs.Starts.{StartView, start_state}
use Rattle.reference_machine.proofs.Starting.{read-start}
use Rattle.packet_store.specs.PolicyStarts.{filter_start, tag_start, table_start, least_packet, kind_start, start_from}
use Rattle.packet_store.proofs.StartLemmas.{start_from-is}
use Rattle.packet_store.specs.StartMeets.{StartMeetsIn}

-- 31 registers, all 0 but r16 to r18
abbrev start_regs : ℕ → ℕ → ℕ → List ℕ
start_regs a b c = 0 ∷ 0 ∷ 0 ∷ 0 ∷ 0 ∷ 0 ∷ 0 ∷ 0 ∷ 0 ∷ 0 ∷ 0 ∷ 0 ∷ 0 ∷ 0 ∷ 0 ∷ 0 ∷ a ∷ b ∷ c ∷ 0 ∷ 0 ∷ 0 ∷ 0 ∷ 0 ∷ 0 ∷ 0 ∷ 0 ∷ 0 ∷ 0 ∷ 0 ∷ 0 ∷ []

-- scratch of two quadwords and the packet behind it may be loaded, scratch stored
abbrev filter_rights : ℕ → ℕ → Rights
filter_rights base len = record { reads = (base, 2) ∷ (base + 16, (len + 7) / 8) ∷ []; writes = (base, 2) ∷ (base, 0) ∷ [] }

multiple : (i : ℕ) → eqb (bit_and i 7) 0 ≡ true → i % 8 ≡ 0
multiple i t = sym (and_mask i 3) ∙ eqb-true (bit_and i 7) 0 t

-- the address of a quadword of the first or the second span
in_first : (span other : ℕ × ℕ) (a k : ℕ) → k < span.1 → a ≡ span.0 + 8 * k → allowed (span ∷ other ∷ []) a ≡ true
in_first span other a k lt e = allowed-from (span ∷ other ∷ []) a (span, (0, omega arith, refl), (k, lt, e))

in_second : (span other : ℕ × ℕ) (a k : ℕ) → k < other.1 → a ≡ other.0 + 8 * k → allowed (span ∷ other ∷ []) a ≡ true
in_second span other a k lt e = allowed-from (span ∷ other ∷ []) a (other, (1, omega arith, refl), (k, lt, e))

filter_meets : (base len : ℕ) (m : Memory) → base < 2 ^ 32 → 64 ≤ len → len ≤ 65535 →
    IsTrueIn (filter_rights base len) filter_pre (record { regs = start_regs (base + 16) len base; memory = m; left = 0 }) []
filter_meets base len m low least most = (
  le-leb 64 len least,
  (
    (λ i hi t.
        let lt : i < len = ltb-true i len t.0 in
        let al : i % 8 ≡ 0 = multiple i t.1 in
        let e : (base + 16 + i) % 2 ^ 64 ≡ base + 16 + i = omega arith in
        rw e (in_second (base, 2) (base + 16, (len + 7) / 8) (base + 16 + i) (i / 8) (omega arith) (omega arith))),
    (
      (λ j hj t.
          let lt : j < 16 = ltb-true j 16 t.0 in
          let al : j % 8 ≡ 0 = multiple j t.1 in
          let e : (base + j) % 2 ^ 64 ≡ base + j = omega arith in
          rw e
          (in_first (base, 2) (base + 16, (len + 7) / 8) (base + j) (j / 8) (omega arith) (omega arith), in_first (base, 2) (base, 0) (base + j) (j / 8) (omega arith) (omega arith))),
      (λ i hi j hj t same.
          let lt : i < len = ltb-true i len t.0.0 in
          let lt' : j < 16 = ltb-true j 16 t.1.0 in
          let e : (base + 16 + i) % 2 ^ 64 ≡ (base + j) % 2 ^ 64 = eqb-true ((base + 16 + i) % 2 ^ 64) ((base + j) % 2 ^ 64) same in
          absurd (omega arith)),
    ),
  ),
)

-- the second quadword may be stored where the first isn't 0
tag_meets : (base : ℕ) (m : Memory) (ws : List (ℕ × ℕ)) → base < 2 ^ 32 → (read m base ≢ 0 → allowed ws (base + 8) ≡ true) →
    IsTrueIn (record { reads = (base, 2) ∷ (base, 0) ∷ []; writes = ws }) tag_pre (record { regs = start_regs base 0 0; memory = m; left = 0 }) []
tag_meets base m ws low second =
    let first : (base + 0) % 2 ^ 64 ≡ base = omega arith in
    let next : (base + 8) % 2 ^ 64 ≡ base + 8 = omega arith in (
      rw first (in_first (base, 2) (base, 0) base 0 (omega arith) (omega arith)),
      (
        rw next (in_first (base, 2) (base, 0) (base + 8) 1 (omega arith) (omega arith)),
        (λ t. rw next (second (λ zero_there. t (eq-eqb (read m ((base + 0) % 2 ^ 64)) 0 (ap (read m) first ∙ zero_there))))),
      ),
    )

table_meets : (base count : ℕ) (m : Memory) → base < 2 ^ 32 → count ≤ 8192 →
    IsTrueIn (record { reads = (base, count) ∷ (base, 0) ∷ []; writes = (base, count) ∷ (base, 0) ∷ [] }) table_pre
    (record { regs = start_regs base count 0; memory = m; left = 0 }) []
table_meets base count m low most = (
  lt-ltb count 65536 (omega arith),
  (λ i hi t.
      let lt : i < count = ltb-true i count t in
      let e : (base + i * 2 ^ (3 % 64) % 2 ^ 64) % 2 ^ 64 ≡ base + 8 * i = omega arith in
      rw e (in_first (base, count) (base, 0) (base + 8 * i) i lt refl, in_first (base, count) (base, 0) (base + 8 * i) i lt refl)),
)

pub filter_begins : (base : ℕ) (p : List ℕ) → base < 2 ^ 32 → 64 ≤ length p → length p ≤ 65535 → StartMeetsIn base (filter_start base p) filter_pre
filter_begins base p low least most = filter_meets base (length p) (start_state base (filter_start base p)).memory low least most

pub table_begins : (base : ℕ) (p : List ℕ) → base < 2 ^ 32 → length p ≤ 65535 → StartMeetsIn base (table_start base p) table_pre
table_begins base p low most = table_meets base ((length p + 7) / 8) (start_state base (table_start base p)).memory low (omega arith)

first_word : (p : List ℕ) → quadword (take 16 p) 0 ≡ quadword p 0
first_word p = rw (get_or-take 16 p 0 0 (omega arith), get_or-take 16 p 1 0 (omega arith), get_or-take 16 p 2 0 (omega arith), get_or-take 16 p 3 0 (omega arith), get_or-take 16 p 4 0 (omega arith), get_or-take 16 p 5 0 (omega arith), get_or-take 16 p 6 0 (omega arith), get_or-take 16 p 7 0 (omega arith)) refl

second : (base q : ℕ) → q ≢ 0 → allowed ((cond (eqb q 0) (base, 0) (base + 8, 1)) ∷ (base, 0) ∷ []) (base + 8) ≡ true
second base q apart = let e : eqb q 0 ≡ false = ne_eqb q 0 apart in rw e (in_first (base + 8, 1) (base, 0) (base + 8) 0 (omega arith) (omega arith))

-- the first quadword of the memory at a tag's start
read_first : (base : ℕ) (p : List ℕ) → read (start_state base (tag_start base p)).memory base ≡ quadword p 0
read_first base p =
    let m : Memory = (start_state base (tag_start base p)).memory in
    let here : base ≡ base + 8 * 0 = omega arith in
    let place : (base - base) / 8 ≡ 0 = omega arith in
    ap (read m) here ∙ read-start base (tag_start base p) 0 (omega arith) ∙ ap (λ q. placed_word q (take 16 p) 0) place ∙ first_word p

pub tag_begins : (base : ℕ) (p : List ℕ) → base < 2 ^ 32 → StartMeetsIn base (tag_start base p) tag_pre
tag_begins base p low =
    let m : Memory = (start_state base (tag_start base p)).memory in
    tag_meets base m ((cond (eqb (quadword p 0) 0) (base, 0) (base + 8, 1)) ∷ (base, 0) ∷ []) low
    (λ ne. second base (quadword p 0) (λ z. ne (read_first base p ∙ z)))

-- a kind's start meets its precondition
pub kind-begins : (base : ℕ) (kind : PolicyKind) (packet : List ℕ) → base < 2 ^ 32 → least_packet kind ≤ length packet → length packet ≤ 65535
    → StartMeetsIn base (kind_start kind base packet) (pre_of kind)
kind-begins base Filter packet low enough short = filter_begins base packet low enough short
kind-begins base Tag packet low enough short = tag_begins base packet low
kind-begins base Table packet low enough short = table_begins base packet low short

start_from-meets-kind : (base : ℕ) (kind : PolicyKind) (packet : List ℕ) (setup : StartView)
    → base < 2 ^ 32 → length packet ≤ 65535 →
    start_from base (Some kind) packet ≡ Some setup → StartMeetsIn base setup (pre_of kind)
start_from-meets-kind base kind packet setup low short e =
    let s = start_from-is base kind packet setup e in
    subst (λ (x : StartView). StartMeetsIn base x (pre_of kind)) s.1 (kind-begins base kind packet low s.0 short)

-- what meets the precondition of the kind meets the policy's
pub meets-policy : (base : ℕ) (policy : PolicyView) (kind : PolicyKind) (setup : StartView)
    → IsPolicy policy → policy.kind ≡ Some kind →
    StartMeetsIn base setup (pre_of kind) → StartMeetsIn base setup policy.pre
meets-policy base policy kind setup is e h =
    subst (λ F. StartMeetsIn base setup F) (sym (kind-formulas policy kind is e).0) h

meets-by-kind : (base : ℕ) (policy : PolicyView) (packet : List ℕ) (setup : StartView)
    → IsPolicy policy → base < 2 ^ 32 → length packet ≤ 65535 →
    (o : Option PolicyKind) → policy.kind ≡ o → start_from base o packet ≡ Some setup
    → StartMeetsIn base setup policy.pre
unfolding start_from
meets-by-kind base policy packet setup is low short None k e = absurd (none-some setup e)
meets-by-kind base policy packet setup is low short (Some kind) k e =
    meets-policy base policy kind setup is k
    (start_from-meets-kind base kind packet setup low short e)

-- every start meets its policy's precondition
pub start_from-meets : (base : ℕ) (policy : PolicyView) (packet : List ℕ) (setup : StartView)
    → IsPolicy policy → base < 2 ^ 32 → length packet ≤ 65535 →
    start_from base policy.kind packet ≡ Some setup → StartMeetsIn base setup policy.pre
start_from-meets base policy packet setup is low short e =
    meets-by-kind base policy packet setup is low short policy.kind refl e
