use Rattle.term_table.specs.Table.{Extends}
use Rattle.prover_goals.specs.Search.{IsSearch}
use Rattle.auto_proofs.specs.Inside.Asked.{IsAsked}
use Rattle.auto_proofs.proofs.chains.by_match.Given as goal

abbrev pub invariant-loop-i : goal.invariant-loop-i
invariant-loop-i l = record {
  asked : IsAsked l.table l.asked;
  extends : Extends l.fn.table l.table;
  search : IsSearch l.table l.search;
}
