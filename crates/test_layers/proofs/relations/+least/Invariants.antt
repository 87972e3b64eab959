use Rattle.test_layers.proofs.relations.+least.Given as goal

abbrev pub decreases-least : goal.decreases-least
decreases-least l = l.fuel
