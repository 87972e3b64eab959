use Rattle.std.proofs.Common.{[]}
use Rattle.test_lf.proofs.expressions.occurrence.Goals as goal

pub occurs-requires-clause-kept : goal.occurs-requires-clause-kept
occurs-requires-clause-kept c = c.new-kept.ensures [] c.args.table.now
