use Rattle.std.proofs.Common.{◌<◌, arith}
use Rattle.native_steps.specs.declared.places.Place.TheVariants.{Slot}
use Rattle.native_steps.proofs.Assigning.{assigned-lawful}
use Rattle.native_steps.proofs.places.Places.assign_slot.Goals as goal

pub invariant_of-self : goal.invariant_of-self
invariant_of-self c =
    let low : c.number.result < 31 = omega (arith, c.number.ensures.value, c.requires) in
    assigned-lawful c.self.inside.regs c.number.result Slot c.self.invariant low tt
