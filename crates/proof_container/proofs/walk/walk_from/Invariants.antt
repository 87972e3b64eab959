use Rattle.proof_container.specs.Postorder.{entries}
use Rattle.proof_container.specs.Inside.Walked.{IsUnderWay, steps_cost}
use Rattle.proof_container.specs.Walks.{root_trees}
use Rattle.proof_container.proofs.walk.walk_from.Given as goal

abbrev pub invariant-loop-step : goal.invariant-loop-step
invariant-loop-step l = IsUnderWay l.table (entries (root_trees l.table l.invs l.lemmas l.fn.proof)) l.walk l.steps.items

abbrev pub decreases-loop-step : goal.decreases-loop-step
decreases-loop-step l = steps_cost l.table l.steps.items
