use Rattle.std.proofs.Common.{◌≡◌, ◌++◌, map, drop}
use Rattle.view_faults.specs.Marking.{margin_byte}
use Rattle.view_faults.proofs.marking.push_margin.Given as goal

abbrev pub invariant-loop-i : goal.invariant-loop-i
invariant-loop-i l =
    l.out.items ++ map margin_byte (drop l.i l.bytes)
    ≡ l.initial.out.items ++ map margin_byte l.bytes
