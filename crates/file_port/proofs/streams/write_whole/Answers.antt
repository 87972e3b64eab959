use Rattle.std.proofs.Common.{arith, length-drop}
use Rattle.std.proofs.lemmas.List.{take_rest}
use Rattle.file_port.proofs.StreamLemmas.{Appends-then}
use Rattle.file_port.proofs.streams.write_whole.Goals as goal

pub loop-at-preserved : goal.loop-at-preserved
loop-at-preserved g c =
    let rest = take_rest c.args.bytes.now c.loop-at.at in
    let bound = rw rest at c.in-Ok.ensures.bound in (
      omega (arith, bound, length-drop c.loop-at.at c.args.bytes.now),
      Appends-then _ _ _ c.loop-at.at c.in-Ok.count c.args.bytes.now c.loop-at.invariant.1 (rw rest at c.in-Ok.ensures.bytes),
    )
