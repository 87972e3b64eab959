use Rattle.lf_signature.specs.Constants.{declared}
use Rattle.test_lf.proofs.truths.proved.Goals as goal
use Rattle.lf_signature.specs.declared.editions.WordSignature.TheVariants.{Sigma1}

pub proved_formula_with-requires-clause-kept : goal.proved_formula_with-requires-clause-kept
proved_formula_with-requires-clause-kept c = c.new-kept.ensures.kept (declared Sigma1) _
