use Rattle.prover_goals.proofs.Kept.{search-more}
use Rattle.prover_conditions.proofs.parts.+proof_of_parts.Goals as goal

pub returns-in_default-clause-search : goal.returns-in_default-clause-search
returns-in_default-clause-search t c = search-more c.args.search.now c.args.table.now c.rule_term.new.table c.requires.search c.in_ok-proof.ensures.extends

pub returns-in_ok-whole-in-Proved-clause-search : goal.returns-in_ok-whole-in-Proved-clause-search
returns-in_ok-whole-in-Proved-clause-search t c = search-more c.proof_of_parts.new.search c.proof_of_parts.new.table c.rule_term-in-Proved.new.table c.in_ok-refused.ensures.search c.in_ok-whole-in-Proved.ensures.extends
