use Rattle.test_layers.proofs.nodes.+opened.Given as goal

abbrev pub decreases-opened : goal.decreases-opened
decreases-opened l = l.fuel
