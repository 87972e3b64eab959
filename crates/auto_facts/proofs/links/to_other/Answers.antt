use Rattle.prover_goals.proofs.Kept.{search-more}
use Rattle.auto_facts.proofs.links.to_other.Goals as goal

pub returns-clause-search : goal.returns-clause-search
returns-clause-search c =
    let s = c.in_ok-under.ensures.search in
    let a = search-more _ c.raise.new.table c.intern.new.self s c.in_ok-place.ensures.extends in
    let b = search-more _ c.intern.new.self c.relation.new.table a c.in_ok-form.ensures.extends in
    search-more _ c.relation.new.table c.moved.new.table b c.moved.ensures.extends
