use Rattle.std.proofs.Common.{rules}
use Rattle.vcgen.specs.WalkTree.{machine_term}
use Rattle.vcgen.proofs.condition.whole_machine.Goals as goal

pub returns-clause-id : goal.returns-clause-id
unfolding machine_term
returns-clause-id c = search rules
