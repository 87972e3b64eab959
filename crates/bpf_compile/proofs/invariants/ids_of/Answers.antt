use Rattle.std.proofs.Common.{get_or}
use Rattle.std.proofs.lemmas.Option.{slice_get-get_or}
use Rattle.bpf_words.proofs.Effects.{no_insn}
use Rattle.bpf_compile.proofs.Placed.{more-ids}
use Rattle.bpf_compile.proofs.invariants.ids_of.Goals as goal

pub loop-i-preserved : goal.loop-i-preserved
loop-i-preserved c =
    let insn = get_or c.args.program.now c.loop-i.i no_insn in
    let found = slice_get-get_or c.args.program.now c.loop-i.i no_insn c.loop-i-test.true in
    more-ids c.args.table.now c.args.program.now c.loop-i.i c.start_place.result c.end_place.result c.args.packet c.end_id.result insn c.op_at-op.result
    c.loop-i.ids.items c.push.new.self.items c.push-in-loop-i.new.self.items found (c.op_at-op.ensures insn found)
    c.requires.packet (c.end_id.ensures c.args.table.now c.requires.packet c.requires.last) c.start_place.ensures (c.end_place.ensures insn.k)
    c.in_ok-push.ensures.items c.in_ok-push-2.ensures.items c.loop-i.invariant
