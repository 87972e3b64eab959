use Rattle.std.proofs.Common.{length}
use Rattle.view_cli.proofs.Lemmas.{Ahead}
use Rattle.view_cli.proofs.commands.packet.packet_at.Given as goal

abbrev pub invariant-loop-packet : goal.invariant-loop-packet
invariant-loop-packet l = Ahead l.fn.packets l.fn.number l.left l.ahead

abbrev pub decreases-loop-packet : goal.decreases-loop-packet
decreases-loop-packet l = length l.left
