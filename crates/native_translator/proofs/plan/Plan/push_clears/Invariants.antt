use Rattle.std.proofs.Common.{◌≡◌, ◌++◌}
use Rattle.native_code.specs.Blocks.{for_registers, clear}
use Rattle.native_lives.specs.Certificates.{lean_of}
use Rattle.native_translator.proofs.plan.Plan.push_clears.Given as goal

abbrev pub invariant-loop-r : goal.invariant-loop-r
invariant-loop-r l = l.out.items ≡ l.initial.out.items ++ for_registers (clear l.self.places (lean_of l.self.lives.forms.items l.self.lives.live.items)) l.r
