use Rattle.test_layers.proofs.rules.bound.Goals as goal

pub imp_i-requires-clause-kept : goal.imp_i-requires-clause-kept
imp_i-requires-clause-kept g c = c.new-kept.ensures.kept _ _

pub all_i-requires-clause-kept : goal.all_i-requires-clause-kept
all_i-requires-clause-kept g c = c.new-kept.ensures.kept _ _

pub allm_i-requires-clause-kept : goal.allm_i-requires-clause-kept
allm_i-requires-clause-kept g c = c.new-kept.ensures.kept _ _
