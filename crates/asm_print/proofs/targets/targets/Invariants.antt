use Rattle.std.proofs.Common.{◌≡◌, ℕ, false, length, drop, get_or}
use Rattle.std.specs.Prelude.{◌||◌}
use Rattle.asm_print.specs.Targets.{is_target_from, is_target}
use Rattle.asm_print.proofs.targets.targets.Given as goal

abbrev pub invariant-loop-i : goal.invariant-loop-i
invariant-loop-i l =
    (length l.flags.items ≡ length l.insns)
    × ((j : ℕ) → (get_or l.flags.items j false || is_target_from l.i (drop l.i l.insns) j)
    ≡ is_target l.insns j)
