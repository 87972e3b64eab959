use Rattle.prover_goals.proofs.Kept.{search-more}
use Rattle.prover_ids.proofs.HypRows.{known_hyps-more}
use Rattle.auto_facts.proofs.derived.add_from.Goals as goal

pub add_split-requires-clause-hyps : goal.add_split-requires-clause-hyps
add_split-requires-clause-hyps c =
    known_hyps-more c.args.table.now c.derived.new.table c.args.hyps.now c.requires.hyps c.derived.ensures.extends

pub returns-in_default-2-clause-known : goal.returns-in_default-2-clause-known
returns-in_default-2-clause-known c =
    known_hyps-more c.args.table.now c.derived.new.table c.args.hyps.now c.requires.hyps c.derived.ensures.extends

pub returns-clause-search : goal.returns-clause-search
returns-clause-search c =
    search-more c.derived.new.search c.derived.new.table c.add_split.new.table c.in_ok-fact.ensures.search
    c.add_split.ensures.extends
