use Rattle.std.proofs.Common.{◌≡◌, ◌++◌, replicate}
use Rattle.x86_words.specs.declared.insn.X86Insn.TheVariants.{Nop}
use Rattle.native_code.specs.declared.insn.NativeInsn.TheVariants.{Plain}
use Rattle.native_translator.proofs.layout.push_nops.Given as goal

abbrev pub invariant-loop : goal.invariant-loop
invariant-loop l = l.out.items ≡ l.initial.out.items ++ replicate l.counter (Plain Nop)
