use Rattle.std.proofs.Common.{◌≡◌, ◌+◌, drop}
use Rattle.view_source_faults.specs.Spans.{blanks_before}
use Rattle.view_source_faults.proofs.spans.blanks_before.Given as goal

abbrev pub invariant-loop-i : goal.invariant-loop-i
invariant-loop-i l = l.i + blanks_before (drop l.i l.line) ≡ blanks_before l.line
