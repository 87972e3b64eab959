use Rattle.std.proofs.Common.{◌≡◌, take, slice_index}
use Rattle.native_translator.proofs.Placing.{bytes_placed}
use Rattle.native_translator.proofs.layout.Layout.bytes.Given as goal

abbrev pub invariant-loop-insn : goal.invariant-loop-insn
invariant-loop-insn l = l.out.items ≡ bytes_placed (slice_index l.self.starts.items) (take l.insn-index l.self.insns.items)
