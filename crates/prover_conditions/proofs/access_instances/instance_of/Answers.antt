use Rattle.prover_conditions.proofs.AccessRows.{instance-other}
use Rattle.prover_conditions.proofs.access_instances.instance_of.Goals as goal

pub returns-in-None-clause-exact : goal.returns-in-None-clause-exact
returns-in-None-clause-exact c = λ x y qa qz. instance-other c.args.outside x y (c.in-None.ensures.exact y qz)
