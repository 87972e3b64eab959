-- `host SCRIPT`: the agents that a script loads run by turns.
use Rattle.std.specs.Prelude.{ℕ, ◌+◌, ◌%◌, ◌^◌, if◌then◌else◌, List, [], ◌∷◌, ◌++◌, slice_get, Option, Some, None}
use Rattle.alpha_cfg.specs.Machine.{State, run_of}
use Rattle.alpha_cfg.specs.declared.outcome.Outcome.{Outcome}
use Rattle.reference_machine.specs.Arena.{sum_of}
use Rattle.reference_machine.specs.Starts.{StartView, start_state}
use Rattle.packet_store.specs.PolicyStarts.{start_from}
use Rattle.agent_host.specs.Agents.{base_of}
use Rattle.alpha_turns.specs.declared.turns.Turn.{Turn}
use Rattle.alpha_turns.specs.Turns.{may_go_on, budget_of}
use Rattle.pcc_lines.specs.Agents.{turn_line}
use Rattle.pcc_stages.specs.Stage.{Stage, ◌>>=◌}
use Rattle.pcc_stages.specs.Runs.{Effect}
use Rattle.pcc_stages.specs.Stages.Common.{printing}
use Rattle.pcc_commands.specs.Stages.Hosting.{Member, script_of, agents_from}

-- the run of agent a alone from a start in its part, of at most so many steps, by the machine that tests every access
abbrev pub alone : ℕ → Member → StartView → ℕ → Outcome × State
alone a agent setup steps = run_of agent.code steps (start_state (base_of a) setup)

-- how a turn of so many steps ends where those before gave the agent that many: as its run alone with the sum; none where it had
-- returned before
abbrev pub turn_outcome : ℕ → Member → StartView → ℕ → ℕ → Option Outcome
turn_outcome a agent setup before steps =
    if may_go_on (alone a agent setup before).0 then Some (alone a agent setup (before + steps)).0 else None

-- the sum of its region behind so many steps
abbrev pub region_sum : ℕ → Member → StartView → ℕ → ℕ
region_sum a agent setup steps = sum_of (alone a agent setup steps).1.memory setup.at setup.region % 2 ^ 64

-- the line of turn number t from a start, by the sum of the agent's own budgets before
abbrev pub turn_line_from : ℕ → Turn → ℕ → Member → Option StartView → List ℕ
turn_line_from t turn before agent None = []
turn_line_from t turn before agent (Some setup) =
    turn_line agent.policy.kind t turn.agent
    (turn_outcome turn.agent agent setup before turn.budget)
    (region_sum turn.agent agent setup (before + turn.budget))

-- the same of the agent's own start
abbrev pub agent_turn_line : ℕ → Turn → ℕ → Option Member → List ℕ
agent_turn_line t turn before None = []
agent_turn_line t turn before (Some agent) =
    turn_line_from t turn before agent
    (start_from (base_of turn.agent) agent.policy.kind agent.packet)

-- the lines of turns, the first of which is number t, by those before
abbrev pub turn_lines : List Member → ℕ → List Turn → List Turn → List ℕ
turn_lines agents t before [] = []
turn_lines agents t before (turn ∷ turns) =
    agent_turn_line t turn (budget_of turn.agent before) (slice_get agents turn.agent) ++ turn_lines agents (t + 1) (before ++ turn ∷ []) turns

-- the script with all that may be wrong with it, then each load in order, and then the turns
unfoldable pub host_command : List ℕ → Stage Effect
host_command name = do
  script ← script_of name
  agents ← agents_from 0 script.loads
  printing (turn_lines agents 0 [] script.turns)
