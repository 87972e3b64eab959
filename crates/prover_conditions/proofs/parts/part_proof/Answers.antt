use Rattle.prover_goals.proofs.Kept.{search-more}
use Rattle.prover_conditions.proofs.parts.part_proof.Goals as goal

pub proof_by_all_means-requires-clause-search : goal.proof_by_all_means-requires-clause-search
proof_by_all_means-requires-clause-search c = search-more c.args.search.now c.args.table.now c.new.new.table c.requires.search c.in_ok-context.ensures.extends
