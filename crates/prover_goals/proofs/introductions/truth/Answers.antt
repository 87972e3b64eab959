use Rattle.lf_terms.specs.ProofTerms.{tt_i}
use Rattle.prover_goals.proofs.Connecting.{some_is}
use Rattle.prover_goals.proofs.introductions.truth.Goals as goal

pub returns-clause-exact : goal.returns-clause-exact
returns-clause-exact c = some_is c.rule_term.new.table tt_i c.in_ok-proof.proof c.in_ok-proof.ensures.id
