use Rattle.prover_goals.proofs.Kept.{context-more}
use Rattle.auto_proofs.proofs.chains.by_chain.Goals as goal

pub returns-in-Some-clause-context : goal.returns-in-Some-clause-context
returns-in-Some-clause-context c =
    context-more c.args.context.now c.args.table.now c.by_itself.new.table c.requires.context c.by_itself.ensures.extends

pub by_passes-requires-clause-context : goal.by_passes-requires-clause-context
by_passes-requires-clause-context c =
    let k = context-more c.args.context.now c.args.table.now c.by_itself.new.table c.requires.context
    c.by_itself.ensures.extends in
    context-more c.args.context.now c.by_itself.new.table c.reached_first.new.table k c.reached_first.ensures.extends
