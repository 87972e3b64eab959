use Rattle.lf_signature.specs.Constants.{declared}
use Rattle.test_lf.proofs.rules.bare_sequent.Goals as goal

pub by_rule-requires-clause-kept : goal.by_rule-requires-clause-kept
by_rule-requires-clause-kept c = c.new-kept.ensures.kept (declared c.args.sig.now) c.args.table.now
