use Rattle.prover_goals.proofs.Kept.{context-more}
use Rattle.auto_proofs.proofs.chains.advance.Goals as goal

pub returns-in_default-2-clause-context : goal.returns-in_default-2-clause-context
returns-in_default-2-clause-context c =
    context-more c.args.context.now c.args.table.now c.reach.new.table c.requires.context c.reach.ensures.extends

pub by_link-requires-clause-context : goal.by_link-requires-clause-context
by_link-requires-clause-context c =
    context-more c.args.context.now c.args.table.now c.reach.new.table c.requires.context c.reach.ensures.extends
