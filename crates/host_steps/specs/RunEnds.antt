-- How a run ends that tests no access.
use Rattle.std.specs.Prelude.{Bool, true, false}
use Rattle.alpha_cfg.specs.declared.outcome.Outcome.{Outcome}
use Rattle.alpha_cfg.specs.declared.outcome.Outcome.TheVariants as outcomes
use Rattle.host_steps.specs.declared.ended.Ended.{Ended}
use Rattle.host_steps.specs.declared.ended.Ended.TheVariants as ended

-- an end of such a run, as one of the testing machine's: no access is blocked
abbrev pub outcome_of : Ended → Outcome
outcome_of (ended.Returned word) = outcomes.Returned word
outcome_of ended.OutOfSteps = outcomes.OutOfSteps

-- whether the run may go on
abbrev pub goes_on_after : Ended → Bool
goes_on_after (ended.Returned word) = false
goes_on_after ended.OutOfSteps = true
