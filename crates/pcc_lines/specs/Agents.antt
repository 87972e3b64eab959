-- Lines of the agents of a host.
use Rattle.std.specs.Prelude.{ℕ, List, ◌++◌, codes, decimal, Option, Some, None}
use Rattle.alpha_cfg.specs.declared.outcome.Outcome.{Outcome}
use Rattle.policy_set.specs.declared.kind.PolicyKind.{PolicyKind}
use Rattle.pcc_lines.specs.Results.{outcome_text}

-- a line of agent a
abbrev pub agent_line : ℕ → List ℕ → List ℕ
agent_line a line = codes "agent " ++ (decimal a ++ (codes " " ++ line))

-- the packet file of an agent has no packet
abbrev pub no_packet_line : List ℕ
no_packet_line = codes "no packet\n"

-- the packet of an agent is short
abbrev pub short_line : List ℕ
short_line = codes "short\n"

-- what a turn came to under a policy of the kind, and the sum of the region at its end; no outcome
-- where the agent had returned before
abbrev pub turn_text : Option PolicyKind → Option Outcome → ℕ → List ℕ
turn_text kind None sum = codes "done"
turn_text kind (Some outcome) sum = outcome_text kind outcome sum

-- the line of turn number t, of agent a
unfoldable pub turn_line : Option PolicyKind → ℕ → ℕ → Option Outcome → ℕ → List ℕ
turn_line kind t a outcome sum =
    codes "turn " ++ (decimal t ++ (codes " " ++ (decimal a
    ++ (codes ": " ++ (turn_text kind outcome sum ++ codes "\n")))))
