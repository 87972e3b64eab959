use Rattle.prover_goals.proofs.Kept.{search-more, context-more}
use Rattle.auto_proofs.proofs.chains.ended_by_words.Goals as goal

pub proof_by_words-requires-clause-search : goal.proof_by_words-requires-clause-search
proof_by_words-requires-clause-search c =
    search-more c.args.search.now c.args.table.now c.relation.new.table c.requires.search c.in_ok-goal.ensures.extends

pub proof_by_words-requires-clause-context : goal.proof_by_words-requires-clause-context
proof_by_words-requires-clause-context c =
    context-more c.args.context.now c.args.table.now c.relation.new.table c.requires.context c.in_ok-goal.ensures.extends

pub returns-in_ok-by_last-in-Some-clause-search : goal.returns-in_ok-by_last-in-Some-clause-search
returns-in_ok-by_last-in-Some-clause-search c =
    search-more c.proof_by_words.new.search c.proof_by_words.new.table c.by_last.new.table c.in_ok-found.ensures.after.search
    c.by_last.ensures.extends

pub returns-in_ok-by_last-in-Some-clause-context : goal.returns-in_ok-by_last-in-Some-clause-context
returns-in_ok-by_last-in-Some-clause-context c =
    context-more c.proof_by_words.new.context c.proof_by_words.new.table c.by_last.new.table
    c.in_ok-found.ensures.after.context c.by_last.ensures.extends
