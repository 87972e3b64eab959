use Rattle.prover_goals.proofs.WordRows.{on_ok_by, with_forms}
use Rattle.prover_goals.proofs.words.normal.Goals as goal

pub returns-clause-search : goal.returns-clause-search
returns-clause-search c =
    let n = c.normal_form in
    let s = c.spend_terms in
    on_ok_by n.result (with_forms c.args.table.now n.new.table s.new.self n.new.memo n.new.kept (s.ensures.search _ c.requires.search) n.ensures.extends n.ensures.memo) n.ensures.kept
