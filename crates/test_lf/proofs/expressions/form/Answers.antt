use Rattle.std.proofs.Common.{[]}
use Rattle.test_lf.proofs.expressions.form.Goals as goal

pub normal_form-requires-clause-kept : goal.normal_form-requires-clause-kept
normal_form-requires-clause-kept c = c.new-kept.ensures [] c.args.table.now
