use Rattle.std.specs.Prelude.{◌≡◌, ◌++◌}
use Rattle.bpf_code.specs.Blocks.{bytes_code}
use Rattle.bpf_code.proofs.blocks.push_load.Given as goal

abbrev pub invariant-loop-n : goal.invariant-loop-n
invariant-loop-n l = l.code.items ≡ l.initial.code.items ++ bytes_code l.k l.n
