use Rattle.std.proofs.Common.{◌-◌}
use Rattle.prover_bounds.proofs.Scans.{IsScan}
use Rattle.prover_bounds.proofs.choices.by_hyps.Given as goal

abbrev pub invariant-loop-i : goal.invariant-loop-i
invariant-loop-i l = IsScan l.table l.side l.hyps l.e l.fn.last l.best (l.count - l.i)
