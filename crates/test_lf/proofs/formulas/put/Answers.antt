use Rattle.std.proofs.Common.{[]}
use Rattle.test_lf.proofs.formulas.put.Goals as goal

pub put_word-requires-clause-kept : goal.put_word-requires-clause-kept
put_word-requires-clause-kept c = c.new-kept.ensures [] c.args.table.now
