use Rattle.std.proofs.Common.{arith}
use Rattle.host_steps.proofs.Places.{write-place}
use Rattle.host_steps.proofs.slots.Slots.write.Goals as goal

pub returns : goal.returns
returns c =
    rw (← c.self.view_is, ← c.number.ensures.value)
    (write-place c.self.inside.words c.number.result c.args.word (omega (arith, c.requires, c.number.ensures.value)))
