use Rattle.term_table.specs.Table.{Extends}
use Rattle.prover_goals.specs.Search.{IsSearch, IsContext}
use Rattle.auto_proofs.specs.Inside.Asked.{IsAsked}
use Rattle.auto_proofs.proofs.chains.go_round.Given as goal

abbrev pub invariant-loop-i : goal.invariant-loop-i
invariant-loop-i l = record {
  asked : IsAsked l.table l.asked;
  extends : Extends l.fn.table l.table;
  search : IsSearch l.table l.search;
  context : IsContext l.table l.context;
}
