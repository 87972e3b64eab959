use Rattle.prover_goals.proofs.Kept.{search-more}
use Rattle.auto_proofs.proofs.conditions.+condition_proof.Goals as goal

pub returns-clause-search : goal.returns-clause-search
returns-clause-search t c =
    search-more c.condition_proof.new.search c.condition_proof.new.table c.rule_term.new.table c.in_ok-others.ensures.search
    c.in_ok-whole.ensures.extends
