use Rattle.prover_goals.proofs.WordRows.{after_search}
use Rattle.prover_conditions.proofs.access_grants.by_grant.Goals as goal

pub returns-clause-after : goal.returns-clause-after
returns-clause-after c =
    let n = c.granted_by.new in
    let done = c.in_ok-proof-in-Some.ensures in
    after_search c.walk.new.table n.table c.walk.new.search n.search c.args.context.now c.walk.new.context c.in_ok-walk.ensures.after done.extends done.search
