use Rattle.pcc_commands.specs.Turns.{members_with}
use Rattle.pcc_commands.proofs.StandingLemmas.{TurnsPrinted}
use Rattle.pcc_commands.proofs.turns.TurnJob.print.Given as goal

abbrev pub invariant-loop-i : goal.invariant-loop-i
invariant-loop-i g l =
    TurnsPrinted (members_with l.fn.self.host l.fn.self.packets.items) l.fn.self.turns.items l.i (g.S.Sink.state l.fn.out) (g.S.Sink.state l.out) l.host
