-- The start of each policy on a packet, in an arena of 8,194 quadwords from a base on: from 65,536 on, where an agent is alone.
-- A span that isn't used is (base, 0).
use Rattle.std.specs.Prelude.{ℕ, ◌+◌, ◌/◌, ◌==◌, nat_lt, if◌then◌else◌, List, [], ◌∷◌, length, take, Option, Some, None}
use Rattle.policy_set.specs.declared.kind.PolicyKind.{PolicyKind}
use Rattle.policy_set.specs.declared.kind.PolicyKind.TheVariants.{Filter, Tag, Table}
use Rattle.policy_set.specs.Views.{PolicyView}
use Rattle.reference_machine.specs.declared.layout.TheConstants.{ARENA}
use Rattle.reference_machine.specs.Arena.{quadword}
use Rattle.reference_machine.specs.Starts.{StartView}

-- how many quadwords the bytes fill, the last padded with zeros
abbrev pub quadwords_of : List ℕ → ℕ
quadwords_of bytes = (length bytes + 7) / 8

-- a span of no quadwords
abbrev pub unused : ℕ → ℕ × ℕ
unused base = (base, 0)

-- two quadwords of scratch, and the packet behind them; both may be loaded, and scratch stored
abbrev pub filter_start : ℕ → List ℕ → StartView
filter_start base packet = record {
  r16 = base + 16;
  r17 = length packet;
  r18 = base;
  bytes = packet;
  at = base + 16;
  region = 0;
  reads = (base, 2) ∷ (base + 16, quadwords_of packet) ∷ [];
  writes = (base, 2) ∷ unused base ∷ [];
}

-- the first 16 bytes; both quadwords may be loaded, and the second stored where the first isn't 0
abbrev pub tag_start : ℕ → List ℕ → StartView
tag_start base packet = record {
  r16 = base;
  r17 = 0;
  r18 = 0;
  bytes = take 16 packet;
  at = base;
  region = 2;
  reads = (base, 2) ∷ unused base ∷ [];
  writes = (if quadword packet 0 == 0 then unused base else (base + 8, 1)) ∷ unused base ∷ [];
}

-- the packet's quadwords, all of which may be loaded and stored
abbrev pub table_start : ℕ → List ℕ → StartView
table_start base packet = record {
  r16 = base;
  r17 = quadwords_of packet;
  r18 = 0;
  bytes = packet;
  at = base;
  region = quadwords_of packet;
  reads = (base, quadwords_of packet) ∷ unused base ∷ [];
  writes = (base, quadwords_of packet) ∷ unused base ∷ [];
}

-- how many bytes a packet has at least for a kind of policy
abbrev pub least_packet : PolicyKind → ℕ
least_packet Filter = 64
least_packet Tag = 16
least_packet Table = 0

-- the start of a kind of policy on a packet
abbrev pub kind_start : PolicyKind → ℕ → List ℕ → StartView
kind_start Filter = filter_start
kind_start Tag = tag_start
kind_start Table = table_start

-- The start of a policy's kind on a packet, if that isn't too short; to a policy without a kind each packet is.
unfoldable pub start_from : ℕ → Option PolicyKind → List ℕ → Option StartView
start_from base None packet = None
start_from base (Some kind) packet =
    if nat_lt (length packet) (least_packet kind) then None else Some (kind_start kind base packet)

-- the start of an agent that is alone
abbrev pub start_of : PolicyView → List ℕ → Option StartView
start_of policy packet = start_from ARENA policy.kind packet
