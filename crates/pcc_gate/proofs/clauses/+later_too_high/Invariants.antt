use Rattle.std.proofs.Common.{length}
use Rattle.pcc_gate.proofs.clauses.+later_too_high.Given as goal

abbrev pub decreases-later_too_high : goal.decreases-later_too_high
decreases-later_too_high l = length l.lemmas.now
