use Rattle.std.proofs.Common.{◌≡◌, ◌+◌, ◌-◌, ◌≤◌, length, take, reverse}
use Rattle.view_faults.specs.FormReports.{before_lf}
use Rattle.view_faults.proofs.formulas.line_start.Given as goal

abbrev pub invariant-back : goal.invariant-back
invariant-back l = record {
  near : l.start ≤ length l.text;
  counted : before_lf (reverse (take l.start l.text)) + (length l.text - l.start) ≡ before_lf (reverse l.text);
}

abbrev pub decreases-back : goal.decreases-back
decreases-back l = l.start
