use Rattle.std.proofs.Common.{◌≡◌, ◌+◌, drop}
use Rattle.view_source_faults.specs.Spans.{printable_before}
use Rattle.view_source_faults.proofs.spans.printable_before.Given as goal

abbrev pub invariant-loop-i : goal.invariant-loop-i
invariant-loop-i l = l.i + printable_before (drop l.i l.line) ≡ printable_before l.line
