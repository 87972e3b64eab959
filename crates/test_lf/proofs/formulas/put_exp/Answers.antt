use Rattle.std.proofs.Common.{[]}
use Rattle.test_lf.proofs.formulas.put_exp.Goals as goal

pub put_word_exp-requires-clause-kept : goal.put_word_exp-requires-clause-kept
put_word_exp-requires-clause-kept c = c.new-kept.ensures [] c.args.table.now
