use Rattle.prover_goals.proofs.Kept.{search-more, context-more}
use Rattle.auto_proofs.proofs.leaves.+premise_proof.Goals as goal

pub returns-clause-search : goal.returns-clause-search
returns-clause-search t c =
    search-more c.premise_proof-2.new.search c.premise_proof-2.new.table c.conjoined.new.table c.in_ok-right.ensures.search
    c.conjoined.ensures.extends

pub returns-clause-context : goal.returns-clause-context
returns-clause-context t c =
    context-more c.premise_proof-2.new.context c.premise_proof-2.new.table c.conjoined.new.table
    c.in_ok-right.ensures.context c.conjoined.ensures.extends
