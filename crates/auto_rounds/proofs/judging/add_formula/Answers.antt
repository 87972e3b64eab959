use Rattle.prover_ids.proofs.HypRows.{known_hyps-more}
use Rattle.auto_rounds.proofs.judging.add_formula.Goals as goal

pub add_split-requires-clause-hyps : goal.add_split-requires-clause-hyps
add_split-requires-clause-hyps c =
    known_hyps-more c.args.table.now c.intern.new.self c.args.hyps.now c.requires.hyps c.intern.ensures.extends
