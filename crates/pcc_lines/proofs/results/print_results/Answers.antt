use Rattle.pcc_lines.proofs.PrintLemmas.{printed_more, printed_fails}
use Rattle.pcc_lines.proofs.results.print_results.Goals as goal

pub returns-in-Failed-clause-exact : goal.returns-in-Failed-clause-exact
returns-in-Failed-clause-exact g c = printed_fails _ _ _ _ _ _ _ _ _ c.in-Some.packet.now c.next.new.self c.loop-packet.invariant c.in-Some.ensures.steps _ c.run_packet-end.ensures.exact c.in-Failed.ensures

pub loop-packet-preserved : goal.loop-packet-preserved
loop-packet-preserved g c = printed_more _ _ _ _ _ _ _ _ _ _ c.in-Some.packet.now c.next.new.self c.loop-packet.invariant c.in-Some.ensures.steps c.run_packet-end.ensures.unchanged _ c.run_packet-end.ensures.exact c.in-Done.ensures
