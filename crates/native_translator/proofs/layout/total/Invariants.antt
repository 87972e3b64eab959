use Rattle.std.proofs.Common.{◌≡◌, take}
use Rattle.native_code.specs.Layout.{code_length}
use Rattle.native_translator.proofs.layout.total.Given as goal

abbrev pub invariant-loop-insn : goal.invariant-loop-insn
invariant-loop-insn l = l.sum ≡ code_length (take l.insn-index l.insns)
