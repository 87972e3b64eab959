use Rattle.prover_goals.proofs.Kept.{search-more}
use Rattle.prover_goals.proofs.WordRows.{with_memo}
use Rattle.prover_conditions.proofs.access_moves.access_move.Goals as goal

pub normal-requires-clause-search : goal.normal-requires-clause-search
normal-requires-clause-search c = search-more c.args.search.now c.args.table.now c.place_form.new.table c.requires.search c.in_ok-form.ensures.extends

pub returns-clause-search : goal.returns-clause-search
returns-clause-search c =
    let s = c.normal-2.new.search in
    let m = c.equal_proof.new.memo in
    let made = with_memo c.normal-2.new.table c.equal_proof.new.table s m c.in_ok-q.ensures.search c.in_ok-equal.ensures.extends c.in_ok-equal.ensures.memo in
    search-more (record { memo = m; plain = s.plain; forms = s.forms; puts = s.puts; occurrences = s.occurrences; counted = s.counted }) c.equal_proof.new.table c.moved.new.table made c.in_ok-moved.ensures.extends
