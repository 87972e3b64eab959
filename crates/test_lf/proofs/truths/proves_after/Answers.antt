use Rattle.lf_signature.specs.Constants.{declared}
use Rattle.test_lf.proofs.truths.proves_after.Goals as goal
use Rattle.lf_signature.specs.declared.editions.WordSignature.TheVariants.{Sigma1}

pub prove_true_with-requires-clause-kept : goal.prove_true_with-requires-clause-kept
prove_true_with-requires-clause-kept c = c.new-kept.ensures.kept (declared Sigma1) _
