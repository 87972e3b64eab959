use Rattle.std.proofs.Common.{◌≡◌, ◌++◌}
use Rattle.native_steps.specs.Places.{place_at}
use Rattle.native_code.specs.Blocks.{for_registers, restore_place}
use Rattle.native_translator.proofs.plan.Plan.push_restores.Given as goal

abbrev pub invariant-loop-number : goal.invariant-loop-number
invariant-loop-number l = l.out.items ≡ l.initial.out.items ++ for_registers (λ r. restore_place (place_at l.self.places r) r) l.number
