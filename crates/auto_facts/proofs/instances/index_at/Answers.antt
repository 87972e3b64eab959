use Rattle.prover_goals.proofs.Kept.{search-more}
use Rattle.auto_facts.proofs.instances.index_at.Goals as goal

pub exp_with-requires-clause-search : goal.exp_with-requires-clause-search
exp_with-requires-clause-search c =
    search-more c.args.search.now c.args.table.now c.intern.new.self c.requires.search c.in_ok-zero.ensures.extends

pub returns-clause-search : goal.returns-clause-search
returns-clause-search c =
    let t = c.normal_exp-2.new.table in
    let s = c.spend_steps.ensures.search t c.in_ok-away.ensures.search in
    let r = search-more _ t c.rest_of.new.table s c.rest_of.ensures.extends in
    search-more _ c.rest_of.new.table c.eighth.new.table r c.eighth.ensures.extends
