-- Agents that take turns, each with code, registers and a memory of its own. Runs are those of the machine that tests each access.
-- Necula and Lee, OSDI 1996 (code of several producers in one kernel); turns are this project's own.
use Rattle.std.specs.Prelude.{ℕ, ◌+◌, ◌==◌, Bool, true, false, List, [], ◌∷◌, slice_get, slice_set, Option, Some, None, if◌then◌else◌}
use Rattle.alpha_words.specs.declared.insn.Insn.{Insn}
use Rattle.alpha_cfg.specs.declared.outcome.Outcome.{Outcome}
use Rattle.alpha_cfg.specs.declared.outcome.Outcome.TheVariants as outcomes
use Rattle.alpha_cfg.specs.Machine.{State, run_of}
use Rattle.alpha_turns.specs.declared.turns.Turn.{Turn}

-- its code, its state, and how its last run ended: out of steps too where none was made
pub record Agent : Type 0 where
  pub code : List Insn
  pub state : State
  pub outcome : Outcome

-- whether a run that ended so may go on
abbrev pub may_go_on : Outcome → Bool
may_go_on outcomes.OutOfSteps = true
may_go_on (outcomes.Returned word) = false
may_go_on (outcomes.Blocked index kind addr) = false

-- the agent as a run leaves it
abbrev pub left_by : Agent → Outcome × State → Agent
left_by agent run = record { code = agent.code; state = run.1; outcome = run.0 }

-- the agent after one more run of at most n steps; one that ended stays as it is
abbrev pub run_on : ℕ → Agent → Agent
run_on n agent = if may_go_on agent.outcome then left_by agent (run_of agent.code n agent.state) else agent

-- the agents with this one's run in its place
abbrev pub with_run : Turn → List Agent → Option Agent → List Agent
with_run turn agents None = agents
with_run turn agents (Some agent) = slice_set agents turn.agent (run_on turn.budget agent)

-- the agents after a turn: the list with one member replaced
abbrev pub after_turn : Turn → List Agent → List Agent
after_turn turn agents = with_run turn agents (slice_get agents turn.agent)

-- the agents after turns in their order
abbrev pub after_turns : List Turn → List Agent → List Agent
after_turns [] agents = agents
after_turns (turn ∷ turns) agents = after_turns turns (after_turn turn agents)

-- what the turn gives agent a
abbrev pub share_of : ℕ → Turn → ℕ
share_of a turn = if turn.agent == a then turn.budget else 0

-- the sum of the budgets of agent a's own turns
abbrev pub budget_of : ℕ → List Turn → ℕ
budget_of a [] = 0
budget_of a (turn ∷ turns) = share_of a turn + budget_of a turns

-- what a turn answers: how its run ended, and none where the agent had ended before
abbrev pub answer_from : ℕ → Agent → Option Outcome
answer_from n agent = if may_go_on agent.outcome then Some (run_of agent.code n agent.state).0 else None
