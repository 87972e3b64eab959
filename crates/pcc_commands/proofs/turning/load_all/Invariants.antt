use Rattle.pcc_commands.proofs.StandingLemmas.{AreLoadedTo}
use Rattle.pcc_commands.proofs.turning.load_all.Given as goal

abbrev pub invariant-loop-a : goal.invariant-loop-a
invariant-loop-a l = AreLoadedTo l.fn.host l.packets l.a l.host
