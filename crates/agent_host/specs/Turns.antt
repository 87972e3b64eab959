-- What a turn of an agent comes to.
use Rattle.std.specs.Prelude.{◌≡◌, ℕ, Option, Some, None}
use Rattle.alpha_cfg.specs.declared.outcome.Outcome.{Outcome}
use Rattle.alpha_cfg.specs.declared.outcome.Outcome.TheVariants as outcomes
use Rattle.word_ops.specs.Rights.{Rights}
use Rattle.host_steps.specs.declared.ended.Ended.{Ended}
use Rattle.host_steps.specs.declared.ended.Ended.TheVariants as ended
use Rattle.host_steps.specs.Parts.{IsPartRunUnder, ReturnedInBound}
use Rattle.agent_host.specs.declared.phase.Phase.{Phase}
use Rattle.agent_host.specs.declared.phase.Phase.TheVariants as phases
use Rattle.agent_host.specs.declared.turned.Turned.{Turned}
use Rattle.agent_host.specs.declared.turned.Turned.TheVariants as turned
use Rattle.agent_host.specs.Agents.{HostedView, annotated_code, part_of, RightsFitAgent}

-- whether the agent may go on behind a run that ended so
abbrev pub phase_after : Ended → Phase
phase_after (ended.Returned word) = phases.Returned
phase_after ended.OutOfSteps = phases.Ready

-- An agent that hadn't returned ran with the budget, and the run ended so: under all rights that
-- fit, with so many steps left, it is the run of the machine that tests each access; where it was
-- out of steps, they fit again, the budget fewer being left; where its steps are bounded and the
-- budget is at least what is left, it has returned. So it has where the budget is at least the
-- bound. What was accepted, and the place and the size of part and region, stay.
pub record RunsTo (budget : ℕ) (result : Ended) (was is : HostedView) : Type 0 where
  pub ready : was.phase ≡ phases.Ready
  pub under : (left : ℕ) (rights : Rights) → RightsFitAgent was left rights
      → IsPartRunUnder (annotated_code was.accepted) (part_of was) budget left result
      (part_of is) rights
  pub returns : ReturnedInBound was.accepted.bound budget result
  pub kept : is ≡ record was {
    index = is.index;
    regs = is.regs;
    words = is.words;
    phase =
        phase_after result;
  }

-- An agent that has returned stays as it is; any other runs.
abbrev pub TurnsTo : ℕ → Turned → HostedView → HostedView → Type 0
TurnsTo budget (turned.Returned word) was is = RunsTo budget (ended.Returned word) was is
TurnsTo budget turned.OutOfSteps was is = RunsTo budget ended.OutOfSteps was is
TurnsTo budget turned.Done was is = (was.phase ≡ phases.Returned) × (is ≡ was)

-- what a turn answers, as an outcome of the machine that tests each access; none where nothing was
-- run
abbrev pub outcome_shown : Turned → Option Outcome
outcome_shown (turned.Returned word) = Some (outcomes.Returned word)
outcome_shown turned.OutOfSteps = Some outcomes.OutOfSteps
outcome_shown turned.Done = None
