use Rattle.prover_goals.proofs.WordRows.{on_ok, with_memo}
use Rattle.prover_goals.proofs.words.by_aligned.Goals as goal

pub returns-in-Some-clause-search : goal.returns-in-Some-clause-search
returns-in-Some-clause-search c =
    let n = c.alignment_proof in
    on_ok n.result (with_memo c.args.table.now n.new.table c.args.search.now n.new.memo c.requires.search n.ensures.extends n.ensures.memo)
