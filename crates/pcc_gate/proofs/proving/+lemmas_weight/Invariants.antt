use Rattle.std.proofs.Common.{length}
use Rattle.pcc_gate.proofs.proving.+lemmas_weight.Given as goal

abbrev pub decreases-lemmas_weight : goal.decreases-lemmas_weight
decreases-lemmas_weight l = length l.lemmas.now
