-- What ran out, as a reason for no source.
use Rattle.hereditary_subst.specs.declared.exhausted.Exhausted.{Exhausted}
use Rattle.hereditary_subst.specs.declared.exhausted.Exhausted.TheVariants as exhausted
use Rattle.view_container.specs.declared.stop.Stop.{Stop}
use Rattle.view_container.specs.declared.stop.Stop.TheVariants.{Memory, Results}

-- memory, or the results that may be kept
abbrev pub stop_of : Exhausted → Stop
stop_of exhausted.Memory = Memory
stop_of exhausted.Results = Results
