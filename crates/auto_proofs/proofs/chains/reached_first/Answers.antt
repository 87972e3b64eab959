use Rattle.prover_goals.proofs.Kept.{search-more}
use Rattle.auto_proofs.proofs.chains.reached_first.Goals as goal

pub normal_exp-requires-clause-search : goal.normal_exp-requires-clause-search
normal_exp-requires-clause-search c =
    search-more c.args.search.now c.args.table.now c.itself.new.table c.requires.search c.itself.ensures.extends
