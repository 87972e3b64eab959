use Rattle.lf_signature.specs.Constants.{declared}
use Rattle.test_lf.proofs.rules.ruled.Goals as goal

pub by_number-requires-clause-kept : goal.by_number-requires-clause-kept
by_number-requires-clause-kept c = c.new-kept.ensures.kept (declared c.args.sig.now) c.args.table.now
