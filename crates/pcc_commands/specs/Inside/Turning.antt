-- What is made of a script's loads.
use Rattle.std.specs.Prelude.{ℕ, suc, List, [], ◌∷◌, map, Vec}
use Rattle.std.specs.Global.{Global}
use Rattle.pcc_commands.specs.Stages.Hosting.{Member}
use Rattle.pcc_commands.specs.Inside.Standing.{HasStart}
use Rattle.pcc_commands.specs.declared.commands.host.Admitted.{Admitted}

-- an agent without where it lies in memory
abbrev pub member_view : Admitted → Member
member_view m = record { policy = m.accepted.policy; code = m.accepted.code; packet = m.packet.items }

-- so of all
abbrev pub members_view : Vec Admitted Global → List Member
members_view members = map member_view members.items

-- the packet of each, the first of which is agent a, has a start
abbrev pub AreReadyFrom : ℕ → List Admitted → Type 0
AreReadyFrom a [] = Unit {0}
AreReadyFrom a (m ∷ members) = HasStart a m.accepted.policy m.packet.items × AreReadyFrom (suc a) members
