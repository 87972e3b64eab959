use Rattle.std.proofs.Common.{get_or, arith}
use Rattle.std.proofs.lemmas.Option.{slice_get-get_or}
use Rattle.bpf_words.proofs.Effects.{no_insn}
use Rattle.bpf_code.proofs.Pushing.{blocks-step, block-length, blocks-all}
use Rattle.bpf_code.proofs.blocks.bpf_code.Goals as goal

pub loop-i-preserved : goal.loop-i-preserved
loop-i-preserved c =
    let program = c.args.program.now in
    let insn = get_or program c.loop-i.i no_insn in
    let at = slice_get-get_or program c.loop-i.i no_insn c.loop-i-test.true in
    let added = c.in_ok-push_block.ensures.exact insn at in (
      blocks-step program c.loop-i.code.items c.push_block.new.code.items c.loop-i.i insn at added c.loop-i.invariant.0,
      block-length c.loop-i.code.items c.push_block.new.code.items c.loop-i.i insn c.loop-i.invariant.1 added,
    )

pub returns : goal.returns
returns c = record { exact = blocks-all c.args.program.now c.loop-i.code.items c.loop-i.i (omega (arith, c.loop-i-test.false)) c.loop-i.invariant.0 }
