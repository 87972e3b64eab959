use Rattle.std.proofs.Common.{◌≡◌, ◌<◌, true, arith, sym, ap, ◌∙◌}
use Rattle.native_steps.specs.declared.places.Place.TheVariants.{Register}
use Rattle.native_steps.specs.Places.{may_have}
use Rattle.native_steps.proofs.Assigning.{assigned-lawful}
use Rattle.native_steps.proofs.places.Places.assign.Goals as goal

pub invariant_of-self : goal.invariant_of-self
invariant_of-self c =
    let low : c.number.result < 31 = omega (arith, c.number.ensures.value, c.requires) in
    let may : may_have c.self.inside.regs c.args.to ≡ true =
    ap (λ p. may_have p c.args.to) c.self.view_is ∙ sym c.may_have.ensures ∙ c.if-may_have.true in
    assigned-lawful c.self.inside.regs c.number.result (Register c.args.to) c.self.invariant low may
