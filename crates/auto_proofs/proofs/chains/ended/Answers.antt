use Rattle.prover_goals.proofs.Kept.{search-more}
use Rattle.auto_proofs.proofs.chains.ended.Goals as goal

pub returns-clause-search : goal.returns-clause-search
returns-clause-search c =
    search-more c.to_other.new.search c.to_other.new.table c.weakened.new.table c.in_ok-proof.ensures.search
    c.weakened.ensures.extends
