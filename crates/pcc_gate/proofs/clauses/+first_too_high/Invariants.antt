use Rattle.std.proofs.Common.{◌-◌, length}
use Rattle.pcc_gate.proofs.clauses.+first_too_high.Given as goal

abbrev pub decreases-first_too_high : goal.decreases-first_too_high
decreases-first_too_high l = length l.invs.now - l.from
