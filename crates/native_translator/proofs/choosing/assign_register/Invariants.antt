use Rattle.std.proofs.Common.{◌≡◌}
use Rattle.native_translator.proofs.choosing.assign_register.Given as goal

abbrev pub invariant-loop-number : goal.invariant-loop-number
invariant-loop-number l = l.places ≡ l.initial.places
