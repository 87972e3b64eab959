-- What ran out, as a fault of the gate.
use Rattle.hereditary_subst.specs.declared.exhausted.Exhausted.{Exhausted}
use Rattle.hereditary_subst.specs.declared.exhausted.Exhausted.TheVariants as exhausted
use Rattle.pcc_gate.specs.declared.fault.GateFault.{GateFault}
use Rattle.pcc_gate.specs.declared.fault.GateFault.TheVariants.{Memory, Results}

-- memory, or the results that may be kept
abbrev pub gate_shortage_of : Exhausted → GateFault
gate_shortage_of exhausted.Memory = Memory
gate_shortage_of exhausted.Results = Results
