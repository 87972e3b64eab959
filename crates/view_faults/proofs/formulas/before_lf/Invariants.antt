use Rattle.std.proofs.Common.{◌≡◌, ◌+◌, drop}
use Rattle.view_faults.specs.FormReports.{before_lf}
use Rattle.view_faults.proofs.formulas.before_lf.Given as goal

abbrev pub invariant-loop-i : goal.invariant-loop-i
invariant-loop-i l = l.i + before_lf (drop l.i l.text) ≡ before_lf l.text
