-- The fields of a host as what it holds.
use Rattle.std.specs.Prelude.{◌≡◌, ℕ, ◌<◌, ◌≤◌, length, true}
use Rattle.word_ops.specs.Rights.{Rights}
use Rattle.reference_machine.specs.declared.layout.TheConstants.{ARENA, QUADWORDS}
use Rattle.reference_machine.specs.Arena.{IsZeroFrom}
use Rattle.reference_machine.specs.Agents.{EndBy}
use Rattle.host_steps.specs.Operations.{AreOperations}
use Rattle.safe_host.specs.declared.host.Host.TheInside.{Inside}
use Rattle.safe_host.specs.Hosts.{HostView, RightsFit}

-- what the fields hold
abbrev pub host_view : Inside → HostView
host_view h = record { accepted = h.accepted; index = h.index; regs = h.slots; words = h.words.items; region = h.region; live = h.live }

-- some rights fit, with some number of steps left, whose stores end at a place of the arena or
-- before it
abbrev pub HasRightsBefore : ℕ → HostView → Type 0
HasRightsBefore end h =
    (left : ℕ) × (rights : Rights) × RightsFit h left rights × EndBy ARENA end rights.writes

-- what holds of every host
pub record IsHost (h : Inside) : Type 0 where
  pub operations : AreOperations h.accepted.code h.operations.items
  pub words_len : length h.words.items ≡ QUADWORDS
  pub region_within : h.region ≤ QUADWORDS
  pub within : h.live ≡ true → h.index < length h.accepted.code
  pub end_within : h.end ≤ QUADWORDS
  pub past_end : IsZeroFrom h.end h.words.items
  pub rights : h.live ≡ true → HasRightsBefore h.end (host_view h)
