use Rattle.bounds_prover.proofs.Making.{made-accepted, made-same}
use Rattle.bounds_prover.proofs.theorems.prove_laws.Goals as goal

pub returns-clause-accepted : goal.returns-clause-accepted
returns-clause-accepted c = made-accepted c.class_laws.ensures.sound

pub returns-clause-same : goal.returns-clause-same
returns-clause-same c = made-same c.class_laws.ensures.sound
