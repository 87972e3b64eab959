use Rattle.lf_signature.specs.Constants.{declared}
use Rattle.test_lf.proofs.rules.pair_sequent.Goals as goal
use Rattle.lf_signature.specs.declared.editions.WordSignature.TheVariants.{Sigma1}

pub cmp_le1-requires-clause-kept : goal.cmp_le1-requires-clause-kept
cmp_le1-requires-clause-kept c = c.new-kept.ensures.kept (declared Sigma1) c.args.table.now
