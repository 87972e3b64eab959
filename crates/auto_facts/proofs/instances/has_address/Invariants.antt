use Rattle.term_table.specs.Table.{IsKnown, Extends}
use Rattle.prover_goals.specs.Search.{IsSearch}
use Rattle.auto_facts.proofs.instances.has_address.Given as goal

abbrev pub invariant-loop-i : goal.invariant-loop-i
invariant-loop-i l = record {
  wanted : IsKnown l.table l.wanted.address;
  extends : Extends l.fn.table l.table;
  search : IsSearch l.table l.search;
}
