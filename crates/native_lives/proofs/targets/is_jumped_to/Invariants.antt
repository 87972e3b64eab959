use Rattle.std.proofs.Common.{◌≡◌, drop}
use Rattle.native_code.specs.Heads.{jump_to}
use Rattle.native_lives.proofs.targets.is_jumped_to.Given as goal

abbrev pub invariant-loop-i : goal.invariant-loop-i
invariant-loop-i l = jump_to l.head l.from (drop l.from l.code) ≡ jump_to l.head l.i (drop l.i l.code)
