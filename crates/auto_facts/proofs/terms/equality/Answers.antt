use Rattle.prover_goals.proofs.WordRows.{on_ok, with_memo}
use Rattle.auto_facts.proofs.terms.equality.Goals as goal

pub returns-clause-search : goal.returns-clause-search
returns-clause-search c =
    let n = c.equal_proof in
    on_ok n.result (with_memo c.normal-2.new.table n.new.table c.normal-2.new.search n.new.memo c.in_ok-q.ensures.search
    n.ensures.extends n.ensures.memo)
