-- The container of version 2 that one of version 1 is upgraded to.
use Rattle.std.specs.Prelude.{ℕ, List, Result, Ok, Err}
use Rattle.policy_set.specs.Views.{PolicyView, IsPolicy}
use Rattle.proof_container.specs.declared.container.Head.TheVariants.{Number}
use Rattle.pcc_gate.specs.Accepted.{IsAccepted}
use Rattle.pcc_gate.specs.declared.refusal.Refusal.TheVariants as refusal
use Rattle.bounds_prover.specs.declared.fault.Measure.TheVariants.{Bytes}
use Rattle.gate_upgrade.specs.Upgrading.{upgraded_container}
use Rattle.gate_upgrade.specs.declared.fault.UpgradeFlaw.{UpgradeFlaw}
use Rattle.gate_upgrade.specs.declared.fault.UpgradeFlaw.TheVariants as flaw
use Rattle.pcc_c.specs.declared.reason.Reason.{Reason}
use Rattle.pcc_c.specs.declared.reason.Reason.TheVariants as reason

-- why a container isn't upgraded
abbrev pub upgrade_reason : UpgradeFlaw → Reason
upgrade_reason (flaw.TooLong length) = reason.Refused (refusal.TooLong length)
upgrade_reason (flaw.Malformed offset what) = reason.Refused (refusal.Malformed offset what)
upgrade_reason flaw.Already = reason.Already
upgrade_reason (flaw.OtherPolicy n) = reason.Refused (refusal.OtherPolicy (Number n))
upgrade_reason (flaw.TooBig size) = reason.TooBig Bytes size

-- what upgrading makes
abbrev pub upgrade_made : Result (List ℕ) UpgradeFlaw → Result (List ℕ) Reason
upgrade_made (Ok made) = Ok made
upgrade_made (Err e) = Err (upgrade_reason e)

-- what `pcc_upgrade` makes: the container of version 2 that the one in the bytes is upgraded to
abbrev pub upgrade_answer : List ℕ → Result (List ℕ) Reason
upgrade_answer bytes = upgrade_made (upgraded_container bytes)

-- each policy under which the first bytes are accepted accepts the second
abbrev pub KeepsAcceptance : List ℕ → List ℕ → Type 0
KeepsAcceptance bytes out =
    (policy : PolicyView) → IsPolicy policy → IsAccepted policy bytes → IsAccepted policy out
