use Rattle.std.proofs.Common.{◌≡◌, ◌++◌, take}
use Rattle.native_code.specs.Blocks.{plain}
use Rattle.native_translator.proofs.blocks.push_plain.Given as goal

abbrev pub invariant-loop-insn : goal.invariant-loop-insn
invariant-loop-insn l = l.out.items ≡ l.initial.out.items ++ plain (take l.insn-index l.insns)
