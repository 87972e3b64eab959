use Rattle.std.proofs.Common.{◌≡◌, take}
use Rattle.pcc_asm.specs.Words.{code_bytes}
use Rattle.bpf_compile.proofs.words.bytes_of.Given as goal

abbrev pub invariant-loop-i : goal.invariant-loop-i
invariant-loop-i l = l.bytes.items ≡ code_bytes (take l.i l.code)
