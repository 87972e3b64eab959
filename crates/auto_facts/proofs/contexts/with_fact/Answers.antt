use Rattle.hereditary_subst.proofs.Rows.{grows_more}
use Rattle.prover_goals.proofs.Kept.{search-more}
use Rattle.auto_facts.proofs.contexts.with_fact.Goals as goal

pub loop-i-preserved : goal.loop-i-preserved
loop-i-preserved c =
    let done = c.in_ok-add_copy.ensures in
    let t = c.loop-i.table in
    let u = c.add_copy.new.table in
    record {
      known = done.known;
      extends = grows_more c.args.table.now t u c.loop-i.invariant.extends done.extends;
      search = search-more _ t u c.loop-i.invariant.search done.extends;
    }
