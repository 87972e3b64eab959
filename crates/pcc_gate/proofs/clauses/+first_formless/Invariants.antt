use Rattle.std.proofs.Common.{◌-◌, length}
use Rattle.pcc_gate.proofs.clauses.+first_formless.Given as goal

abbrev pub decreases-first_formless : goal.decreases-first_formless
decreases-first_formless l = length l.invs.now - l.from
