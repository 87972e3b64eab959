use Rattle.prover_goals.proofs.WordRows.{on_ok, with_memo}
use Rattle.auto_facts.proofs.terms.raise.Goals as goal

pub returns-clause-search : goal.returns-clause-search
returns-clause-search c =
    let n = c.raised in
    on_ok n.result (with_memo c.args.table.now n.new.table c.args.search.now n.new.memo c.requires.search n.ensures.extends n.ensures.memo)
