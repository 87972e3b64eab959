use Rattle.std.specs.Prelude.{◌≡◌, ◌++◌, replicate}
use Rattle.alpha_words.specs.declared.insn.Insn.TheVariants.{Ret}
use Rattle.bpf_code.proofs.blocks.fill.Given as goal

abbrev pub invariant-loop : goal.invariant-loop
invariant-loop l = l.code.items ≡ l.initial.code.items ++ replicate l.counter Ret
