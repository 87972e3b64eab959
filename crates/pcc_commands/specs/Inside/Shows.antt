-- What the gate says: a stop of its own, or accepted code, and what that shows.
use Rattle.std.specs.Prelude.{length}
use Rattle.pcc_gate.specs.Views.{AcceptedView}
use Rattle.pcc_stages.specs.declared.refused_line.RefusedLine.TheVariants as refused_line
use Rattle.pcc_stages.specs.declared.stops.Stop.{Stop}
use Rattle.pcc_stages.specs.declared.stops.Stop.TheVariants as stop
use Rattle.pcc_commands.specs.Stages.Judging.{Shown}

-- a stop of the gate
abbrev pub IsOfGate : Stop → Type 0
IsOfGate (stop.Refused (refused_line.Container refusal)) = Unit {0}
IsOfGate stop.Memory = Unit {0}
IsOfGate other = ⊥

-- its code, and how many invariants it has
abbrev pub shown_by : AcceptedView → Shown
shown_by a = record { code = a.code; invariants = length a.invs }
