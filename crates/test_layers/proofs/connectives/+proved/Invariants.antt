use Rattle.test_layers.proofs.connectives.+proved.Given as goal

abbrev pub decreases-proved : goal.decreases-proved
decreases-proved l = l.fuel
