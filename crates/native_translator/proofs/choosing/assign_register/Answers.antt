use Rattle.std.proofs.Common.{refl, sym, subst}
use Rattle.native_steps.specs.declared.places.Place.TheVariants.{Register}
use Rattle.native_steps.specs.Places.{ArePlaces, IsSomewhere}
use Rattle.native_translator.proofs.Choices.{somewhere-set}
use Rattle.native_translator.proofs.choosing.assign_register.Goals as goal

pub returns-then-assign-clause-placed : goal.returns-then-assign-clause-placed
returns-then-assign-clause-placed c e =
    let lawful : ArePlaces c.loop-number.places = subst ArePlaces (sym c.loop-number.invariant) c.laws.ensures in
    subst (λ p. IsSomewhere p c.args.r) (sym c.if-assign.ensures.after)
    (somewhere-set c.loop-number.places c.args.r (Register c.new-to.result) lawful c.requires refl)
