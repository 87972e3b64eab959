use Rattle.term_table.specs.Table.{Extends}
use Rattle.prover_ids.specs.Hypotheses.{AreKnownHyps}
use Rattle.prover_goals.specs.Search.{IsSearch}
use Rattle.auto_facts.proofs.derived.add_derived.Given as goal

abbrev pub invariant-loop-i : goal.invariant-loop-i
invariant-loop-i l = record {
  known : AreKnownHyps l.table l.hyps;
  extends : Extends l.fn.table l.table;
  search : IsSearch l.table l.search;
}
