use Rattle.prover_goals.proofs.WordRows.{on_ok}
use Rattle.view_marks.proofs.Growing.{with_puts}
use Rattle.view_marks.proofs.sums.at_zero.Goals as goal

pub returns-clause-search : goal.returns-clause-search
returns-clause-search c =
    let n = c.put_word_exp.new in
    let e = c.put_word_exp.ensures in
    on_ok c.put_word_exp.result
    (with_puts c.args.table.now n.table c.args.search.now n.memo n.kept c.requires.search e.extends e.memo e.kept)
