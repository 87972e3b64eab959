use Rattle.lf_lemmas.proofs.Substitution.{substitution_law, overflow_none}
use Rattle.lf_lemmas.proofs.theorems.typed_laws.Goals as goal

pub returns-clause-typed : goal.returns-clause-typed
returns-clause-typed c sig ctx inner m n a b d g = substitution_law sig ctx inner m n a b d g

pub returns-clause-overflow : goal.returns-clause-overflow
returns-clause-overflow c s m x n o out h = overflow_none o out h
