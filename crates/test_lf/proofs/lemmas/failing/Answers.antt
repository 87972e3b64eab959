use Rattle.lf_signature.specs.Constants.{declared}
use Rattle.lf_signature.specs.declared.editions.WordSignature.TheVariants.{Sigma2}
use Rattle.test_lf.proofs.lemmas.failing.Goals as goal

pub first_failing-requires-clause-kept : goal.first_failing-requires-clause-kept
first_failing-requires-clause-kept c = c.new-kept.ensures.kept (declared Sigma2) c.args.table.now
