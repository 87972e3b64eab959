use Rattle.std.proofs.Common.{[]}
use Rattle.prover_goals.proofs.search.Search.within.Goals as goal

pub returns-clause-search : goal.returns-clause-search
returns-clause-search c = λ t. record {
  memo = c.within.ensures.memo t;
  plain = c.new.ensures [] t;
  forms = c.new-2.ensures [] t;
  puts = c.new-3.ensures [] t;
  occurrences = c.new-4.ensures [] t;
}
