use Rattle.prover_goals.proofs.WordRows.{on_ok}
use Rattle.prover_conditions.proofs.AccessRows.{with_puts}
use Rattle.auto_facts.proofs.terms.exp_with.Goals as goal

pub returns-clause-search : goal.returns-clause-search
returns-clause-search c =
    let n = c.put_word_exp in
    on_ok n.result (with_puts c.args.table.now n.new.table c.args.search.now n.new.memo n.new.kept c.requires.search
    n.ensures.extends n.ensures.memo n.ensures.kept)
