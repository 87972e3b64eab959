use Rattle.prover_goals.proofs.Kept.{search-more}
use Rattle.auto_facts.proofs.derived.above.Goals as goal

pub returns-clause-search : goal.returns-clause-search
returns-clause-search c =
    search-more c.raise-3.new.search c.raise-3.new.table c.fact_above.new.table c.in_ok-denied.ensures.search
    c.fact_above.ensures.extends
