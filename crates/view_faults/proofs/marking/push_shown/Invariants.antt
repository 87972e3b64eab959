use Rattle.std.proofs.Common.{◌≡◌, ◌++◌, map, drop}
use Rattle.view_faults.specs.Marking.{shown_byte}
use Rattle.view_faults.proofs.marking.push_shown.Given as goal

abbrev pub invariant-loop-i : goal.invariant-loop-i
invariant-loop-i l =
    l.out.items ++ map shown_byte (drop l.i l.bytes)
    ≡ l.initial.out.items ++ map shown_byte l.bytes
