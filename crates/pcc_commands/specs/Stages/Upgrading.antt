-- Stages that upgrade a container.
use Rattle.std.specs.Prelude.{ℕ, List, Result, Ok, Err}
use Rattle.proof_container.specs.declared.container.Head.TheVariants.{Number}
use Rattle.bounds_prover.specs.Names.{measure_name}
use Rattle.bounds_prover.specs.declared.fault.Measure.TheVariants.{Bytes}
use Rattle.gate_upgrade.specs.declared.fault.UpgradeFlaw.{UpgradeFlaw}
use Rattle.gate_upgrade.specs.declared.fault.UpgradeFlaw.TheVariants as flaw
use Rattle.gate_upgrade.specs.Upgrading.{upgraded_container}
use Rattle.pcc_lines.specs.Fixed.{already_line}
use Rattle.pcc_lines.specs.Proving.{too_big_line}
use Rattle.pcc_lines.specs.Refusals.{refusal_line}
use Rattle.pcc_gate.specs.declared.refusal.Refusal.TheVariants as refusal
use Rattle.pcc_stages.specs.Exits.{Exit}
use Rattle.pcc_stages.specs.Stage.{Stage, stops, gives, ◌>>=◌}
use Rattle.pcc_stages.specs.Stages.Common.{refused}
use Rattle.pcc_stages.specs.Stages.Containers.{container_bytes_of}

-- nothing is upgraded, and why
abbrev pub not_upgraded : UpgradeFlaw → Exit
not_upgraded (flaw.TooLong length) = refused (refusal_line (refusal.TooLong length))
not_upgraded (flaw.Malformed offset what) = refused (refusal_line (refusal.Malformed offset what))
not_upgraded flaw.Already = refused already_line
not_upgraded (flaw.OtherPolicy n) = refused (refusal_line (refusal.OtherPolicy (Number n)))
not_upgraded (flaw.TooBig size) = refused (too_big_line (measure_name Bytes) size)

-- what upgrading makes
abbrev pub container_upgraded : Result (List ℕ) UpgradeFlaw → Stage (List ℕ)
container_upgraded (Ok bytes) = gives bytes
container_upgraded (Err e) = stops (not_upgraded e)

-- the bytes of the container of version 2 that the bytes are upgraded to, or why there is none
unfoldable pub upgraded_in : List ℕ → Stage (List ℕ)
upgraded_in bytes = container_upgraded (upgraded_container bytes)

-- the same of the container in the file of the name
unfoldable pub upgraded_of : List ℕ → Stage (List ℕ)
upgraded_of name = do
  bytes ← container_bytes_of name
  upgraded_in bytes
