use Rattle.std.specs.Prelude.{◌≡◌, ◌*◌, ◌++◌, length, drop}
use Rattle.bpf_code.specs.Blocks.{blocks_from}
use Rattle.bpf_code.proofs.blocks.bpf_code.Given as goal

abbrev pub invariant-loop-i : goal.invariant-loop-i
invariant-loop-i l = (l.code.items ++ blocks_from l.i (drop l.i l.program) ≡ blocks_from 0 l.program) × (length l.code.items ≡ 20 * l.i)
