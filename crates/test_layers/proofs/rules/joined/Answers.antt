use Rattle.test_layers.proofs.rules.joined.Goals as goal

pub and_i-requires-clause-kept : goal.and_i-requires-clause-kept
and_i-requires-clause-kept g c = c.new-kept.ensures.kept _ _

pub eq_sub-requires-clause-kept : goal.eq_sub-requires-clause-kept
eq_sub-requires-clause-kept g c = c.new-kept.ensures.kept _ _

pub sub_lo-requires-clause-kept : goal.sub_lo-requires-clause-kept
sub_lo-requires-clause-kept g c = c.new-kept.ensures.kept _ _

pub ule_trans-requires-clause-kept : goal.ule_trans-requires-clause-kept
ule_trans-requires-clause-kept g c = c.new-kept.ensures.kept _ _

pub lt_le-requires-clause-kept : goal.lt_le-requires-clause-kept
lt_le-requires-clause-kept g c = c.new-kept.ensures.kept _ _
