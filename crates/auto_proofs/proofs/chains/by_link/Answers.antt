use Rattle.prover_goals.proofs.Kept.{context-more}
use Rattle.auto_proofs.proofs.chains.by_link.Goals as goal

pub ended_by_words-requires-clause-context : goal.ended_by_words-requires-clause-context
ended_by_words-requires-clause-context c =
    context-more c.args.context.now c.args.table.now c.ended.new.table c.requires.context c.ended.ensures.extends

pub returns-in-Some-clause-context : goal.returns-in-Some-clause-context
returns-in-Some-clause-context c =
    context-more c.args.context.now c.args.table.now c.ended.new.table c.requires.context c.ended.ensures.extends
