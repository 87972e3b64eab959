use Rattle.host_steps.proofs.Places.{read-place}
use Rattle.host_steps.proofs.slots.Slots.read.Goals as goal

pub returns : goal.returns
returns c = rw (← c.self.view_is, ← c.number.ensures.value) (read-place c.self.inside.words c.number.result c.self.invariant c.number.ensures.below)
