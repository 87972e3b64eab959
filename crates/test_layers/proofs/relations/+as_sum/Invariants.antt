use Rattle.test_layers.proofs.relations.+as_sum.Given as goal

abbrev pub decreases-as_sum : goal.decreases-as_sum
decreases-as_sum l = l.fuel
