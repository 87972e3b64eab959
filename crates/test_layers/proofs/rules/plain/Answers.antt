use Rattle.test_layers.proofs.rules.plain.Goals as goal

pub and_l-requires-clause-kept : goal.and_l-requires-clause-kept
and_l-requires-clause-kept g c = c.new-kept.ensures.kept _ _

pub and_r-requires-clause-kept : goal.and_r-requires-clause-kept
and_r-requires-clause-kept g c = c.new-kept.ensures.kept _ _

pub not_lt-requires-clause-kept : goal.not_lt-requires-clause-kept
not_lt-requires-clause-kept g c = c.new-kept.ensures.kept _ _

pub cmp_no-requires-clause-kept : goal.cmp_no-requires-clause-kept
cmp_no-requires-clause-kept g c = c.new-kept.ensures.kept _ _
