use Rattle.test_layers.proofs.rules.axiom.Goals as goal

pub tt_i-requires-clause-kept : goal.tt_i-requires-clause-kept
tt_i-requires-clause-kept g c = c.new-kept.ensures.kept _ _

pub eq_refl-requires-clause-kept : goal.eq_refl-requires-clause-kept
eq_refl-requires-clause-kept g c = c.new-kept.ensures.kept _ _

pub sub_neg-requires-clause-kept : goal.sub_neg-requires-clause-kept
sub_neg-requires-clause-kept g c = c.new-kept.ensures.kept _ _

pub add_assoc-requires-clause-kept : goal.add_assoc-requires-clause-kept
add_assoc-requires-clause-kept g c = c.new-kept.ensures.kept _ _
