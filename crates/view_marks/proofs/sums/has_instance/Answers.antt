use Rattle.prover_goals.proofs.Kept.{search-more}
use Rattle.view_marks.proofs.sums.has_instance.Goals as goal

pub at_zero-requires-clause-search : goal.at_zero-requires-clause-search
at_zero-requires-clause-search c =
    search-more c.args.search.now c.args.table.now c.intern.new.self c.requires.search c.in_ok-zero.ensures.extends
