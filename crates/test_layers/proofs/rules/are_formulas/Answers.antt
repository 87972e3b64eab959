use Rattle.std.proofs.Common.{◌∙◌, sym, refl}
use Rattle.lf_signature.specs.Constants.{declared}
use Rattle.lf_signature.specs.declared.editions.WordSignature.TheVariants.{Sigma3}
use Rattle.test_layers.proofs.rules.are_formulas.Goals as goal

pub first_failing-requires-clause-kept : goal.first_failing-requires-clause-kept
first_failing-requires-clause-kept c = c.new-kept.ensures.kept (declared Sigma3) c.args.table.now

pub returns-in-Ok-None-clause-holds : goal.returns-in-Ok-None-clause-holds
returns-in-Ok-None-clause-holds c =
    c.laws.ensures.holds (declared Sigma3) c.args.table.now c.first_failing.new.table c.args.lemmas.now
    (λ n. refl) c.requires.known c.in-Ok-None.ensures.extends
    (sym c.in-Ok-None.ensures.exact ∙ c.in-Ok-None.field-0-is)
