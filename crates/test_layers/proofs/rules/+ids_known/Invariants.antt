use Rattle.std.proofs.Common.{length}
use Rattle.test_layers.proofs.rules.+ids_known.Given as goal

abbrev pub decreases-ids_known : goal.decreases-ids_known
decreases-ids_known l = length l.lemmas.now
