use Rattle.prover_goals.proofs.Kept.{search-more}
use Rattle.auto_proofs.proofs.chains.by_itself.Goals as goal

pub ended-requires-clause-search : goal.ended-requires-clause-search
ended-requires-clause-search c =
    search-more c.args.search.now c.args.table.now c.itself.new.table c.requires.search c.itself.ensures.extends
