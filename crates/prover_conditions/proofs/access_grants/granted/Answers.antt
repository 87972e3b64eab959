use Rattle.prover_ids.proofs.Standing.{twice}
use Rattle.prover_goals.proofs.Kept.{search-more}
use Rattle.prover_conditions.proofs.access_grants.granted.Goals as goal

pub access_move-requires-clause-search : goal.access_move-requires-clause-search
access_move-requires-clause-search c = search-more c.args.search.now c.args.table.now c.down.new.table c.requires.search (twice c.in_ok-top.ensures.extends c.in_ok-end.ensures.extends)
