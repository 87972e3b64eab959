-- What is kept, as the table grows.
use Rattle.hereditary_subst.proofs.Rows.{memo-more}
use Rattle.prover_ids.proofs.HypRows.{known_hyps-more}

pub ruleset rows = (memo-more, known_hyps-more)
