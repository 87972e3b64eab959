use Rattle.std.proofs.Common.{◌-◌}
use Rattle.gate_match.proofs.uses.+are_idle.Given as goal

abbrev pub decreases-are_idle : goal.decreases-are_idle
decreases-are_idle l = 33 - l.k
