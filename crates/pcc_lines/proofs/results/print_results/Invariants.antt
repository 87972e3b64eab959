use Rattle.std.proofs.Common.{length}
use Rattle.pcc_lines.proofs.PrintLemmas.{Printed}
use Rattle.pcc_lines.proofs.results.print_results.Given as goal

abbrev pub invariant-loop-packet : goal.invariant-loop-packet
invariant-loop-packet g l =
    Printed l.kind (g.R.PacketRunner.results l.fn.runner) l.initial.packets l.packets l.number
    (g.S.Sink.state l.fn.out) (g.S.Sink.state l.out) (g.R.PacketRunner.results l.runner)

abbrev pub decreases-loop-packet : goal.decreases-loop-packet
decreases-loop-packet g l = length l.packets
