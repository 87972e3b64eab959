use Rattle.std.proofs.Common.{ap, ◌∙◌}
use Rattle.std.specs.Int.{w32, to_le_bytes}
use Rattle.pcc_asm.specs.Words.{insn_word}
use Rattle.pcc_asm.proofs.Written.{none_written, more_written}
use Rattle.bpf_compile.proofs.words.bytes_of.Goals as goal

pub loop-i-init : goal.loop-i-init
loop-i-init c = none_written c.args.code.now c.new-bytes.result.items c.new-bytes.ensures.items

pub loop-i-preserved : goal.loop-i-preserved
loop-i-preserved c =
    more_written c.args.code.now c.loop-i.i c.index-code-i.result c.loop-i.bytes.items c.extend_from_slice.new.self.items c.to_le_bytes.result c.loop-i-test.true c.loop-i.invariant
    (c.to_le_bytes.ensures ∙ ap (to_le_bytes w32) c.word_of.ensures ∙ ap (λ x. to_le_bytes w32 (insn_word x)) c.index-code-i.is) c.in_ok-extend_from_slice.ensures.items
