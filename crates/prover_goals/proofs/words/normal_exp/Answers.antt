use Rattle.prover_goals.proofs.WordRows.{on_ok_by, with_plain}
use Rattle.prover_goals.proofs.words.normal_exp.Goals as goal

pub returns-clause-search : goal.returns-clause-search
returns-clause-search c =
    let n = c.plain_form in
    let s = c.spend_terms in
    let before = s.ensures.search _ c.requires.search in
    on_ok_by n.result (with_plain c.args.table.now n.new.table s.new.self n.new.memo n.new.kept before n.ensures.extends n.ensures.memo) n.ensures.kept
