use Rattle.prover_goals.proofs.Kept.{search-more}
use Rattle.auto_proofs.proofs.chains.reach.Goals as goal

pub returns-clause-search : goal.returns-clause-search
returns-clause-search c =
    search-more c.from_other.new.search c.from_other.new.table c.extended.new.table c.in_ok-proof.ensures.search
    c.extended.ensures.extends
