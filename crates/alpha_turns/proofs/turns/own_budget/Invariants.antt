use Rattle.std.proofs.Common.{◌≡◌, ◌+◌, drop}
use Rattle.alpha_turns.specs.Turns.{budget_of}
use Rattle.alpha_turns.proofs.turns.own_budget.Given as goal

abbrev pub invariant-loop-turn : goal.invariant-loop-turn
invariant-loop-turn l = budget_of l.agent l.turns ≡ l.budget + budget_of l.agent (drop l.turn-index l.turns)
