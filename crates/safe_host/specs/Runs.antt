-- What loading and running a host come to.
use Rattle.std.specs.Prelude.{◌≡◌, ℕ, ◌≤◌, Bool, true, false, Option, Some, None, IsSome}
use Rattle.word_ops.specs.Rights.{Rights}
use Rattle.alpha_cfg.specs.Machine.{run_of}
use Rattle.reference_machine.specs.Starts.{StartView}
use Rattle.packet_store.specs.StartMeets.{StartMeets}
use Rattle.vcgen.specs.Safety.{IsReturn, all_steps, steps_after}
use Rattle.host_steps.specs.declared.ended.Ended.{Ended}
use Rattle.host_steps.specs.declared.ended.Ended.TheVariants as ended
pub use Rattle.host_steps.specs.RunEnds.{outcome_of, goes_on_after}
use Rattle.safe_host.specs.Hosts.{HostView, state_under, RightsFit, host_at, start_rights}

-- A packet that is short leaves the host; any other brings it to the policy's start, which meets
-- the precondition and whose rights fit, all steps of the bound being left.
abbrev pub Loads : HostView → Option StartView → HostView → Bool → Type 0
Loads old None new loaded = (loaded ≡ false) × (new ≡ old)
Loads old (Some setup) new loaded =
    (loaded ≡ true) × (new ≡ host_at old.accepted setup) × StartMeets setup old.accepted.policy.pre
    × RightsFit new (all_steps old.accepted.bound) (start_rights setup)

-- Under these rights, so many steps being left, the run is that of the machine that tests each
-- access; where it was out of steps, they fit again, the budget fewer being left; where steps are
-- bounded and the budget is at least what is left, it has returned.
pub record IsRunUnder (old : HostView) (budget left : ℕ) (result : Ended) (new : HostView)
    (rights : Rights) : Type 0 where
  pub same : run_of old.accepted.code budget (state_under old rights)
      ≡ (outcome_of result, state_under new rights)
  pub fits : result ≡ ended.OutOfSteps
      → RightsFit new (steps_after old.accepted.bound budget left) rights
  pub returns : IsSome old.accepted.bound → left ≤ budget → IsReturn (outcome_of result)

-- the same under all rights that fit before
abbrev pub IsRun : HostView → ℕ → Ended → HostView → Type 0
IsRun old budget result new =
    (left : ℕ) (rights : Rights) → RightsFit old left rights
    → IsRunUnder old budget left result new rights
