use Rattle.prover_goals.proofs.Kept.{search-more}
use Rattle.prover_conditions.proofs.access_instances.rest_at.Goals as goal

pub exp_with-requires-clause-search : goal.exp_with-requires-clause-search
exp_with-requires-clause-search c = search-more c.args.search.now c.args.table.now c.intern.new.self c.requires.search c.in_ok-zero.ensures.extends

pub returns-clause-search : goal.returns-clause-search
returns-clause-search c = search-more c.spend_steps.new.self c.normal_exp-2.new.table c.rest_of.new.table (c.spend_steps.ensures.search c.normal_exp-2.new.table c.in_ok-of_base.ensures.search) c.in_ok-rest.ensures.extends
