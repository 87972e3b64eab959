use Rattle.std.proofs.Common.{refl, sym, subst}
use Rattle.native_steps.specs.declared.places.Place.TheVariants.{Slot}
use Rattle.native_steps.specs.Places.{IsSomewhere}
use Rattle.native_translator.proofs.Choices.{somewhere-set}
use Rattle.native_translator.proofs.choosing.assign.Goals as goal

pub returns-clause-placed : goal.returns-clause-placed
returns-clause-placed c =
    subst (λ p. IsSomewhere p c.args.r) (sym c.assign_slot.ensures)
    (somewhere-set c.assign_register-2.new.places c.args.r Slot c.laws.ensures c.requires refl)
