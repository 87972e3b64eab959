use Rattle.std.proofs.Common.{◌≡◌, ◌+◌, drop}
use Rattle.view_container.specs.Beside.{common_front}
use Rattle.view_container.proofs.beside.common_front.Given as goal

abbrev pub invariant-loop-i : goal.invariant-loop-i
invariant-loop-i l = l.i + common_front (drop l.i l.code) (drop l.i l.other) ≡ common_front l.code l.other
