-- What is kept, as the table grows.
use Rattle.hereditary_subst.proofs.Rows.{memo-more}
use Rattle.prover_sums.proofs.Rounds.{forms-more}

pub ruleset forms = (memo-more, forms-more)
