-- What the words of a block ask of k.
use Rattle.std.specs.Prelude.{ℕ, ◌+◌, ◌≤◌}
use Rattle.bpf_words.specs.declared.insn.TheConstants.{LOADABLE}
use Rattle.bpf_words.specs.declared.insn.BpfOp.{BpfOp}
use Rattle.bpf_words.specs.declared.insn.BpfOp.TheVariants as ops

-- a load stays in the first bytes, and a shift below 32
abbrev pub KeepsTo : BpfOp → ℕ → Type 0
KeepsTo ops.Ld k = k + 4 ≤ LOADABLE
KeepsTo ops.Ldh k = k + 2 ≤ LOADABLE
KeepsTo ops.Ldb k = k + 1 ≤ LOADABLE
KeepsTo ops.Rsh k = k ≤ 31
KeepsTo op k = Unit {0}
