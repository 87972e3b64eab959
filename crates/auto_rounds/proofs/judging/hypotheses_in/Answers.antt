use Rattle.prover_goals.proofs.Kept.{search-more}
use Rattle.auto_rounds.proofs.judging.hypotheses_in.Goals as goal

pub add_derived-requires-clause-search : goal.add_derived-requires-clause-search
add_derived-requires-clause-search c =
    search-more c.args.search.now c.args.table.now c.hypotheses_of.new.table c.requires.search
    c.in_ok-hyps.ensures.extends

pub returns-then-not-class-clause-search : goal.returns-then-not-class-clause-search
returns-then-not-class-clause-search c =
    search-more c.args.search.now c.args.table.now c.hypotheses_of.new.table c.requires.search
    c.in_ok-hyps.ensures.extends
