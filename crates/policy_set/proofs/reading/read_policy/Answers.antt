use Rattle.policy_set.proofs.Spelled.{spells-if, none-if}
use Rattle.policy_set.proofs.PolicyFlaws.{first-if}
use Rattle.policy_set.proofs.reading.read_policy.Goals as goal

pub returns-clause-spells : goal.returns-clause-spells
returns-clause-spells c = spells-if c.args.bytes.now c.parse.result c.parse.ensures

pub returns-clause-none : goal.returns-clause-none
returns-clause-none c = none-if c.args.bytes.now c.parse.result c.parse.ensures

pub returns-clause-first : goal.returns-clause-first
returns-clause-first c = first-if c.args.bytes.now c.parse.result c.parse.ensures
