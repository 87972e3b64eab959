use Rattle.std.proofs.Common.{◌≡◌, ◌-◌}
use Rattle.x86_machine.specs.Machine.{x86_run}
use Rattle.x86_machine.proofs.machine.X86Machine.run.Given as goal

abbrev pub invariant-loop : goal.invariant-loop
invariant-loop l = x86_run l.code (l.budget - l.counter) l.self ≡ x86_run l.code l.budget l.fn.self
