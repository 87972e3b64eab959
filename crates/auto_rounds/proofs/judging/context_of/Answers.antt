use Rattle.prover_goals.proofs.Kept.{search-more}
use Rattle.auto_rounds.proofs.judging.context_of.Goals as goal

pub returns-clause-search : goal.returns-clause-search
returns-clause-search c =
    search-more c.hypotheses_in.new.search c.hypotheses_in.new.table c.new.new.table c.in_ok-hyps.ensures.search
    c.in_ok-context.ensures.extends
