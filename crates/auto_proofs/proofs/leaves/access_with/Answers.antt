use Rattle.prover_goals.proofs.Kept.{search-more, context-more}
use Rattle.auto_proofs.proofs.leaves.access_with.Goals as goal

pub proof_by_access-requires-clause-search : goal.proof_by_access-requires-clause-search
proof_by_access-requires-clause-search c =
    search-more c.with_fact.new.search c.with_fact.new.table c.right.new.table c.in_ok-more.ensures.search
    c.in_ok-goal.ensures.extends

pub proof_by_access-requires-clause-context : goal.proof_by_access-requires-clause-context
proof_by_access-requires-clause-context c =
    context-more c.in_ok-more.more c.with_fact.new.table c.right.new.table c.in_ok-more.ensures.context
    c.in_ok-goal.ensures.extends
