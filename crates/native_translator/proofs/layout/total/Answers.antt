use Rattle.std.proofs.Common.{arith}
use Rattle.native_translator.proofs.Placing.{length-taken, length-within}
use Rattle.native_translator.proofs.layout.total.Goals as goal

pub overflow_add-sum : goal.overflow_add-sum
overflow_add-sum c =
    let within = length-within c.args.insns.now c.loop-insn.insn-index c.insn-item.result c.loop-insn-test.true c.insn-item.is in
    omega (arith, within, c.loop-insn.invariant, c.length.ensures.value, c.requires)

pub loop-insn-preserved : goal.loop-insn-preserved
loop-insn-preserved c =
    let more = length-taken c.args.insns.now c.loop-insn.insn-index c.insn-item.result c.loop-insn-test.true c.insn-item.is in
    omega (arith, more, c.loop-insn.invariant, c.length.ensures.value)
