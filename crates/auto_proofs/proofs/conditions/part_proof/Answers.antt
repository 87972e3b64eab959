use Rattle.prover_goals.proofs.Kept.{search-more}
use Rattle.auto_proofs.proofs.conditions.part_proof.Goals as goal

pub proof_of-requires-clause-search : goal.proof_of-requires-clause-search
proof_of-requires-clause-search c =
    search-more c.args.search.now c.args.table.now c.new.new.table c.requires.search c.in_ok-context.ensures.extends
