use Rattle.std.proofs.Common.{◌≡◌, length}
use Rattle.host_steps.proofs.Growing.{AreFrom}
use Rattle.host_steps.proofs.operations.operations_of.Given as goal

abbrev pub invariant-loop-i : goal.invariant-loop-i
invariant-loop-i l = record {
  count : length l.operations.items ≡ l.i;
  each : AreFrom l.code 0 l.operations.items;
}
