use Rattle.std.proofs.Common.{◌≡◌, drop}
use Rattle.view_looks.specs.Looks.{is_text}
use Rattle.view_looks.proofs.looks.is_text.Given as goal

abbrev pub invariant-loop-i : goal.invariant-loop-i
invariant-loop-i l = is_text (drop l.i l.bytes) ≡ is_text l.bytes
