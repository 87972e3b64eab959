use Rattle.native_steps.proofs.Assigning.{none-lawful}
use Rattle.native_steps.proofs.places.Places.nowhere.Goals as goal

pub invariant_of-result : goal.invariant_of-result
invariant_of-result c = none-lawful
