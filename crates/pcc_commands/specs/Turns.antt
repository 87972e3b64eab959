-- The agents of a host, as the definition of `host` has them.
use Rattle.std.specs.Prelude.{ℕ, List, [], ◌∷◌, Vec}
use Rattle.std.specs.Global.{Global}
use Rattle.agent_host.specs.Agents.{HostedView}
use Rattle.pcc_commands.specs.Stages.Hosting.{Member}

-- the agents of a host with their packets
abbrev pub members_with : List HostedView → List (Vec ℕ Global) → List Member
members_with [] packets = []
members_with (m ∷ host) [] = []
members_with (m ∷ host) (packet ∷ packets) = record { policy = m.accepted.policy; code = m.accepted.code; packet = packet.items } ∷ members_with host packets
