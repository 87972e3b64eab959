use Rattle.term_table.specs.Table.{Extends}
use Rattle.prover_ids.specs.Hypotheses.{AreKnownHyps}
use Rattle.auto_rounds.proofs.judging.hypotheses_of.Given as goal

abbrev pub invariant-loop-i : goal.invariant-loop-i
invariant-loop-i l = record {
  known : AreKnownHyps l.table l.hyps;
  extends : Extends l.fn.table l.table;
}
